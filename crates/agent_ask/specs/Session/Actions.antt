-- The actions of a request, one after another. An action is a relation between the ticket that the request holds before it, its events, what it
-- comes to, which is a value or a refusal, and the ticket that the request holds then. This is the project's own.
use Rattle.std.specs.Prelude.{ℕ, ◌++◌, List, [], Option, Some, None, Result, Ok, Err, Bool, true, false}
use Rattle.session_client.specs.declared.{code.Code.Code, refusal.Refusal.{Refusal, TheVariants.Agent}}

-- with events of this kind, and a value of this
abbrev pub ActionOf : Type 0 → Type 0 → Type 1
ActionOf E A = Option ℕ → List E → Result A Refusal → Option ℕ → Type 0

-- an action, and then what follows on its value; a refusal ends both
pub data Follows {E A B : Type 0} (action : ActionOf E A) (next : A → ActionOf E B) (before : Option ℕ) : List E → Result B Refusal → Option ℕ → Type 0 where
  goes_on : {first events : List E} {value : A} {result : Result B Refusal} {mid after : Option ℕ} → action before first (Ok value) mid → next value mid events result after
      → Follows action next before (first ++ events) result after
  stops : {first : List E} {refusal : Refusal} {after : Option ℕ} → action before first (Err refusal) after → Follows action next before first (Err refusal) after

infixl 10 ◌>>=◌
abbrev pub ◌>>=◌ : {E A B : Type 0} → ActionOf E A → (A → ActionOf E B) → ActionOf E B
action >>= next = Follows action next

-- nothing is done, and this is the value
pub data Returns {E A : Type 0} (value : A) (held : Option ℕ) : List E → Result A Refusal → Option ℕ → Type 0 where
  returns : Returns value held [] (Ok value) held

-- nothing is done, and the request is refused
pub data Refuses {E A : Type 0} (why : Refusal) (held : Option ℕ) : List E → Result A Refusal → Option ℕ → Type 0 where
  refuses : Refuses why held [] (Err why) held

-- a value that has to be there, and one in whose place something else is done
abbrev pub needed : {E A : Type 0} → Code → Option A → ActionOf E A
needed code None = Refuses (Agent code)
needed code (Some value) = Returns value

abbrev pub or_else : {E A : Type 0} → Option A → ActionOf E A → ActionOf E A
or_else None other = other
or_else (Some value) other = Returns value

-- something is done unless this is so
abbrev pub unless : {E : Type 0} → Bool → ActionOf E (Unit {0}) → ActionOf E (Unit {0})
unless true other = Returns tt
unless false other = other

-- a fact that has to be there
abbrev pub wanted : {E : Type 0} → Code → Bool → ActionOf E (Unit {0})
wanted code true = Returns tt
wanted code false = Refuses (Agent code)

-- Actions of a request that lie within a law. A law of an action is such a relation itself: between the ticket that is held before, the events, what they come to, and the ticket that
-- is held then. So what follows one another is judged once, by the laws that follow one another, and a library of actions is its law, how that joins, and its smallest actions.
use Rattle.std.{specs.Prelude.⊤, proofs.Common.{ℕ, Bool, true, false, List, [], ◌++◌, Option, Some, None, Result, Ok, Err}}
use Rattle.session_client.specs.declared.{code.Code.Code, refusal.Refusal.{Refusal, TheVariants.Agent}}
use Rattle.agent_ask.specs.Session.Actions.{ActionOf, ◌>>=◌, Follows, goes_on, stops, Returns, returns, Refuses, refuses, needed, or_else, unless, wanted}

-- what is so of an action's value, where it comes to one
abbrev pub HoldsOf : {A : Type 0} → (A → Type 0) → Result A Refusal → Type 0
HoldsOf Is (Ok value) = Is value
HoldsOf Is (Err why) = ⊤

module _ {E : Type 0} where
  pub record Within {A : Type 0} (action law : ActionOf E A) : Type 0 where
    pub of : (before : Option ℕ) (events : List E) (result : Result A Refusal) (after : Option ℕ) → action before events result after → law before events result after

  pub weaker : {A : Type 0} {action law wider : ActionOf E A} → Within law wider → Within action law → Within action wider
  weaker widens keeps = record { of = λ before events result after does. widens.of before events result after (keeps.of before events result after does) }

  -- ---- one behind another

  -- what is so by one law, and then by another on its value, is so by a third
  pub record Joins {A B : Type 0} (first : ActionOf E A) (more : A → ActionOf E B) (whole : ActionOf E B) : Type 0 where
    pub then : {before mid after : Option ℕ} (some later : List E) {value : A} {result : Result B Refusal} → first before some (Ok value) mid → more value mid later result after
        → whole before (some ++ later) result after
    pub alone : {before after : Option ℕ} {events : List E} {why : Refusal} → first before events (Err why) after → whole before events (Err why) after

  -- and so it is of the actions that keep them
  module _ {A B : Type 0} {action first : ActionOf E A} {next more : A → ActionOf E B} {whole : ActionOf E B} (joins : Joins first more whole) (keeps : Within action first)
      (each : (value : A) → Within (next value) (more value)) where
    bind_of : (before : Option ℕ) (events : List E) (result : Result B Refusal) (after : Option ℕ) → Follows action next before events result after → whole before events result after
    bind_of before events result after (goes_on {first = some} {events = later} {value} {mid} does next_does) =
        joins.then some later (keeps.of before some (Ok value) mid does) ((each value).of mid later result after next_does)
    bind_of before events result after (stops {refusal = why} does) = joins.alone (keeps.of before events (Err why) after does)

    pub bind : Within (action >>= next) whole
    bind = record { of = bind_of }

  -- ---- nothing is done

  -- a law that holds of that, whatever it comes to
  pub record OfNothing {A : Type 0} (law : ActionOf E A) : Type 0 where
    pub of : (held : Option ℕ) (result : Result A Refusal) → law held [] result held

  module _ {A : Type 0} (law : ActionOf E A) where
    returns_of : (value : A) → ((held : Option ℕ) → law held [] (Ok value) held) → (before : Option ℕ) (events : List E) (result : Result A Refusal) (after : Option ℕ) → Returns value before events result after
        → law before events result after
    returns_of value so before events result after returns = so before

    refuses_of : (why : Refusal) → ((held : Option ℕ) → law held [] (Err why) held) → (before : Option ℕ) (events : List E) (result : Result A Refusal) (after : Option ℕ) → Refuses why before events result after
        → law before events result after
    refuses_of why so before events result after refuses = so before

  module _ {A : Type 0} {law : ActionOf E A} where
    pub returned_so : (value : A) → ((held : Option ℕ) → law held [] (Ok value) held) → Within (Returns value) law
    returned_so value so = record { of = returns_of law value so }

    pub refused_so : (why : Refusal) → ((held : Option ℕ) → law held [] (Err why) held) → Within (Refuses why) law
    refused_so why so = record { of = refuses_of law why so }

    module _ (nothing : OfNothing law) where
      pub returned : (value : A) → Within (Returns value) law
      returned value = returned_so value (λ held. nothing.of held (Ok value))

      pub refused : (why : Refusal) → Within (Refuses why) law
      refused why = refused_so why (λ held. nothing.of held (Err why))

      pub is_needed : (why : Code) (value : Option A) → Within (needed why value) law
      is_needed why None = refused (Agent why)
      is_needed why (Some value) = returned value

      pub or_otherwise : (value : Option A) {other : ActionOf E A} → Within other law → Within (or_else value other) law
      or_otherwise None other = other
      or_otherwise (Some value) other = returned value

  module _ {law : ActionOf E (Unit {0})} (nothing : OfNothing law) where
    pub is_unless : (so : Bool) {other : ActionOf E (Unit {0})} → Within other law → Within (unless so other) law
    is_unless true other = returned nothing tt
    is_unless false other = other

    pub is_wanted : (why : Code) (so : Bool) → Within (wanted why so) law
    is_wanted why true = returned nothing tt
    is_wanted why false = refused nothing (Agent why)

  -- ---- what is so of an action's events

  abbrev pub Does : {A : Type 0} → (List E → Type 0) → ActionOf E A
  Does Is before events result after = Is events

  pub does_join : {A B : Type 0} {First More Whole : List E → Type 0} → ((some later : List E) → First some → More later → Whole (some ++ later)) → ((some : List E) → First some → Whole some)
      → Joins {A = A} {B = B} (Does First) (λ value. Does More) (Does Whole)
  does_join then alone = record { then = λ some later one other. then some later one other; alone = λ {before} {after} {events} one. alone events one }

  -- ---- what is so of each value that an action comes to

  abbrev pub Yields : {A : Type 0} → (A → Type 0) → ActionOf E A
  Yields Is before events result after = HoldsOf Is result

  module _ {A : Type 0} (Is : A → Type 0) (action : ActionOf E A) (so : (before : Option ℕ) (events : List E) (value : A) (after : Option ℕ) → action before events (Ok value) after → Is value) where
    values_of : (before : Option ℕ) (events : List E) (result : Result A Refusal) (after : Option ℕ) → action before events result after → HoldsOf Is result
    values_of before events (Ok value) after does = so before events value after does
    values_of before events (Err why) after does = tt

  pub values_so : {A : Type 0} {Is : A → Type 0} {action : ActionOf E A} → ((before : Option ℕ) (events : List E) (value : A) (after : Option ℕ) → action before events (Ok value) after → Is value) → Within action (Yields Is)
  values_so {Is} {action} so = record { of = values_of Is action so }

  -- of the last one, whatever was done before
  pub yields_then : {A B : Type 0} (Is : B → Type 0) {action : ActionOf E A} {next : A → ActionOf E B} → ((value : A) → Within (next value) (Yields Is)) → Within (action >>= next) (Yields Is)
  yields_then Is each = bind {first = Yields (λ value. ⊤)} (record { then = λ some later any so. so; alone = λ any. any }) (values_so (λ before events value after does. tt)) each

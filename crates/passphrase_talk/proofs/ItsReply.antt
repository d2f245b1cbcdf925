-- A passphrase that is told is the data of the last reply.
use Rattle.std.proofs.{Common.{◌≡◌, ℕ, Bool, true, false, if◌then◌else◌, List, [], ◌∷◌, ◌++◌, None, refl, ap, ◌∙◌}, lemmas.Bool.or_from}
use Rattle.assuan_client.specs.declared.answer.Answer.{Answer}
use Rattle.passphrase_talk.specs.Dialogues.{Requests, IsDialogue, stopped, goes_on, requested, not_greeted, greeted, told_of, told_behind, told_by, quiet, after_said, is_cancel, has_cancel}
use Rattle.passphrase_talk.{specs.{Turns.{Said, Hello, OptionLine, Request, End, Cancel, Turn, turn_of}, declared.{dialogue.Course.Course, told.Told.Told}}, proofs.{Ending.last_of, Leading.{behind_option, behind_greeting}}}
use Rattle.assuan_client.specs.declared.answer.Answer.TheVariants as answer
use Rattle.passphrase_talk.specs.declared.told.Told.TheVariants as told

neither : {this that what : Told} (cancelled : Bool) → (this ≡ what → ⊥) → (that ≡ what → ⊥) → (if cancelled then this else that) ≡ what → ⊥
neither true not never is = not is
neither false not never is = never is

given : (cancelled : Bool) {bytes secret : List ℕ} → (if cancelled then told.Cancelled None else told.Passphrase bytes) ≡ told.Passphrase secret
    → (bytes ≡ secret) × (cancelled ≡ false)
given true is = absurd (cc is)
given false is = (cc is, refl)

last_given : (course : Course) (last : Answer) {secret : List ℕ} → told_by course last ≡ told.Passphrase secret → (last ≡ answer.Got secret) × (course.cancelled ≡ false)
last_given course answer.Ok is = absurd (neither course.cancelled (λ same. cc same) (λ same. cc same) is)
last_given course (answer.Got bytes) is = let both = given course.cancelled is in (ap (λ (b : List ℕ). answer.Got b) both.0, both.1)
last_given course (answer.Err number) is = absurd (neither course.cancelled (λ same. cc same) (λ same. cc same) is)
last_given course (answer.Asked word text) is = absurd (cc is)
last_given course (answer.Broken why) is = absurd (cc is)
last_given course answer.ReadFault is = absurd (cc is)
last_given course answer.WriteFault is = absurd (cc is)

uncancelled : (said : Said) (course : Course) → (after_said said course).cancelled ≡ false → (is_cancel said ≡ false) × (course.cancelled ≡ false)
uncancelled Hello course not = (refl, not)
uncancelled (OptionLine line) course not = (refl, not)
uncancelled (Request line) course not = (refl, not)
uncancelled End course not = (refl, not)
uncancelled Cancel course not = absurd (cc not)

-- the last answer of these turns behind one, and whether an inquiry was cancelled before it
pub record GivesOnly (next : Answer) (turns : List Turn) (secret : List ℕ) : Type 0 where
  pub last : last_of next turns ≡ answer.Got secret
  pub answered : has_cancel turns ≡ false

behind_gives : (course : Course) (next : Answer) (turns : List Turn) {secret : List ℕ} → told_behind course next turns ≡ told.Passphrase secret
    → GivesOnly next turns secret × (course.cancelled ≡ false)
behind_gives course next [] is = let both = last_given course next is in (record { last = both.0; answered = refl }, both.1)
behind_gives course next (turn ∷ turns) is =
    let rest = behind_gives (after_said turn.said course) turn.answer turns is in
    let not = uncancelled turn.said course rest.1 in
    (record { last = rest.0.last; answered = or_from (is_cancel turn.said) (has_cancel turns) not.0 rest.0.answered }, not.1)

-- the same of all turns
abbrev Gives : List Turn → List ℕ → Type 0
Gives [] secret = ⊥
Gives (turn ∷ turns) secret = GivesOnly turn.answer turns secret × (is_cancel turn.said ≡ false)

add_turn : (said : Said) (next : Answer) (turns : List Turn) {secret : List ℕ} → is_cancel said ≡ false → Gives turns secret → Gives (turn_of said next ∷ turns) secret
add_turn said next [] not gives = absurd gives
add_turn said next (turn ∷ turns) not gives = (record { last = gives.0.last; answered = or_from (is_cancel turn.said) (has_cancel turns) gives.1 gives.0.answered }, not)

request_gives : {line secret : List ℕ} {options : List (List ℕ)} {turns : List Turn} → Requests line options turns → told_of turns ≡ told.Passphrase secret → Gives turns secret
request_gives (stopped not) is = absurd (cc is)
request_gives (goes_on {option} {next} {turns} goes rest) is = add_turn (OptionLine option) next turns refl (request_gives rest (behind_option option next rest ∙ is))
request_gives (requested {next} {turns} rest) is = ((behind_gives quiet next turns is).0, refl)

dialogue_gives : {line secret : List ℕ} {options : List (List ℕ)} {turns : List Turn} → IsDialogue options line turns → told_of turns ≡ told.Passphrase secret → Gives turns secret
dialogue_gives (not_greeted not) is = absurd (cc is)
dialogue_gives (greeted {turns} rest) is = add_turn Hello answer.Ok turns refl (request_gives rest (behind_greeting rest ∙ is))

-- the last of some turns
split_last : (turn : Turn) (turns : List Turn) → (earlier : List Turn) × (said : Said) × (turn ∷ turns ≡ earlier ++ turn_of said (last_of turn.answer turns) ∷ [])
split_last turn [] = ([], turn.said, refl)
split_last turn (next ∷ turns) = let rest = split_last next turns in (turn ∷ rest.0, rest.1, ap (λ (t : List Turn). turn ∷ t) rest.2)

its_reply : (turns : List Turn) {secret : List ℕ} → Gives turns secret
    → (earlier : List Turn) × (said : Said) × (turns ≡ earlier ++ turn_of said (answer.Got secret) ∷ []) × (has_cancel turns ≡ false)
its_reply [] gives = absurd gives
its_reply (turn ∷ turns) {secret} gives =
    let parts = split_last turn turns in
    (parts.0, parts.1, parts.2 ∙ ap (λ (a : Answer). parts.0 ++ turn_of parts.1 a ∷ []) gives.0.last, or_from (is_cancel turn.said) (has_cancel turns) gives.1 gives.0.answered)

pub passphrase_reply : (options : List (List ℕ)) (line secret : List ℕ) (turns : List Turn) → IsDialogue options line turns → told_of turns ≡ told.Passphrase secret
    → (earlier : List Turn) × (said : Said) × (turns ≡ earlier ++ turn_of said (answer.Got secret) ∷ []) × (has_cancel turns ≡ false)
passphrase_reply options line secret turns follows is = its_reply turns (dialogue_gives follows is)

-- What is told of a dialogue, by its last answer.
use Rattle.std.proofs.Common.{◌≡◌, ℕ, Bool, true, false, if◌then◌else◌, List, [], ◌∷◌, Ok, refl, sym, subst, ◌∙◌, arith, rules}
use Rattle.assuan_client.specs.declared.answer.Answer.{Answer}
use Rattle.passphrase_talk.specs.Dialogues.{Replies, Requests, IsDialogue, stopped, goes_on, requested, ended, asked, not_greeted, greeted, told_of, told_behind, told_by, loss_of, passed, quiet, after_said, reply_to}
use Rattle.passphrase_talk.{specs.{Turns.{Said, Hello, OptionLine, Request, Turn, turn_of}, declared.{dialogue.Course.Course, told.{Loss.Loss, Told.Told}}}, proofs.Leading.{behind_option, behind_greeting}}
use Rattle.assuan_client.specs.declared.answer.Answer.TheVariants as answer
use Rattle.passphrase_talk.specs.declared.told.Loss.TheVariants as loss
use Rattle.passphrase_talk.specs.declared.told.Told.TheVariants as told

-- the last answer, where this one comes before the turns
abbrev pub last_of : Answer → List Turn → Answer
last_of last [] = last
last_of next (turn ∷ turns) = last_of turn.answer turns

-- whether what a turn says was written whole
abbrev pub wrote : Answer → Bool
wrote answer.WriteFault = false
wrote _ = true

-- all turns but the last were written whole
abbrev pub GoOn : List Turn → Type 0
GoOn [] = Unit {0}
GoOn (turn ∷ []) = Unit {0}
GoOn (turn ∷ next ∷ turns) = (wrote turn.answer ≡ true) × GoOn (next ∷ turns)

-- what is told by the last answer, behind the request or before it
pub data EndsBy (what : Told) (last : Answer) : Type 0 where
  behind : (course : Course) → what ≡ told_by course last → EndsBy what last
  before : what ≡ told.Lost (loss_of last) → EndsBy what last

replies_end : (course : Course) (next : Answer) (turns : List Turn) → EndsBy (told_behind course next turns) (last_of next turns)
replies_end course next [] = behind course refl
replies_end course next (turn ∷ turns) = replies_end (after_said turn.said course) turn.answer turns

replies_go : {next : Answer} {turns : List Turn} (said : Said) → Replies next turns → GoOn (turn_of said next ∷ turns)
replies_go said (ended not) = tt
replies_go said (asked {word} rest) = (refl, replies_go (reply_to word) rest)

passed_wrote : (said : Answer) → passed said ≡ Ok tt → wrote said ≡ true
passed_wrote answer.Ok is = refl
passed_wrote (answer.Got bytes) is = absurd (cc is)
passed_wrote (answer.Err number) is = refl
passed_wrote (answer.Asked word text) is = absurd (cc is)
passed_wrote (answer.Broken why) is = absurd (cc is)
passed_wrote answer.ReadFault is = absurd (cc is)
passed_wrote answer.WriteFault is = absurd (cc is)

-- turns, the first of which is there
abbrev pub Ends : List Turn → Type 0
Ends [] = ⊥
Ends (turn ∷ turns) = EndsBy (told_of (turn ∷ turns)) (last_of turn.answer turns) × GoOn (turn ∷ turns)

-- a turn in front of some, by which nothing else is told
add_turn : (said : Said) (next : Answer) (turns : List Turn) → Ends turns → wrote next ≡ true → told_of turns ≡ told_of (turn_of said next ∷ turns) → Ends (turn_of said next ∷ turns)
add_turn said next [] later goes same = absurd later
add_turn said next (turn ∷ turns) later goes same = (subst (λ (w : Told). EndsBy w (last_of turn.answer turns)) same later.0, (goes, later.1))

request_ends : {line : List ℕ} {options : List (List ℕ)} {turns : List Turn} → Requests line options turns → Ends turns
request_ends (stopped not) = (before refl, tt)
request_ends (goes_on {option} {next} {turns} passes rest) =
    add_turn (OptionLine option) next turns (request_ends rest) (passed_wrote next passes) (behind_option option next rest)
request_ends {line} (requested {next} {turns} rest) = (replies_end quiet next turns, replies_go (Request line) rest)

pub dialogue_ends : {line : List ℕ} {options : List (List ℕ)} {turns : List Turn} → IsDialogue options line turns → Ends turns
dialogue_ends (not_greeted not) = (before refl, tt)
dialogue_ends (greeted {turns} rest) = add_turn Hello answer.Ok turns (request_ends rest) refl (behind_greeting rest)

never_lost : {this that : Told} {why : Loss} (cancelled : Bool) → (this ≡ told.Lost why → ⊥) → (that ≡ told.Lost why → ⊥) → (if cancelled then this else that) ≡ told.Lost why → ⊥
never_lost true not never is = not is
never_lost false not never is = never is

-- the link's failures are those of the last answer
lost_by : (course : Course) (last : Answer) {why : Loss} → told_by course last ≡ told.Lost why → loss_of last ≡ why
lost_by course answer.Ok is = absurd (never_lost course.cancelled (λ same. cc same) (λ same. cc same) is)
lost_by course (answer.Got secret) is = absurd (never_lost course.cancelled (λ same. cc same) (λ same. cc same) is)
lost_by course (answer.Err number) is = absurd (never_lost course.cancelled (λ same. cc same) (λ same. cc same) is)
lost_by course (answer.Asked word text) is = cc is
lost_by course (answer.Broken why) is = cc is
lost_by course answer.ReadFault is = cc is
lost_by course answer.WriteFault is = cc is

pub lost_at : {what : Told} {last : Answer} {why : Loss} → EndsBy what last → what ≡ told.Lost why → loss_of last ≡ why
lost_at {last} (behind course same) is = lost_by course last (sym same ∙ is)
lost_at (before same) is = let both = sym same ∙ is in cc both

pub read_lost : (last : Answer) → loss_of last ≡ loss.Read → last ≡ answer.ReadFault
read_lost answer.Ok is = absurd (cc is)
read_lost (answer.Got secret) is = absurd (cc is)
read_lost (answer.Err number) is = absurd (cc is)
read_lost (answer.Asked word text) is = absurd (cc is)
read_lost (answer.Broken why) is = grind (arith, rules)
read_lost answer.ReadFault is = refl
read_lost answer.WriteFault is = absurd (cc is)

pub write_lost : (last : Answer) → loss_of last ≡ loss.Write → last ≡ answer.WriteFault
write_lost answer.Ok is = absurd (cc is)
write_lost (answer.Got secret) is = absurd (cc is)
write_lost (answer.Err number) is = absurd (cc is)
write_lost (answer.Asked word text) is = absurd (cc is)
write_lost (answer.Broken why) is = grind (arith, rules)
write_lost answer.ReadFault is = absurd (cc is)
write_lost answer.WriteFault is = refl

-- a write that failed is told
pub unwritten_told : {what : Told} (last : Answer) → EndsBy what last → wrote last ≡ false → what ≡ told.Lost loss.Write
unwritten_told answer.Ok ends is = absurd (cc is)
unwritten_told (answer.Got secret) ends is = absurd (cc is)
unwritten_told (answer.Err number) ends is = absurd (cc is)
unwritten_told (answer.Asked word text) ends is = absurd (cc is)
unwritten_told (answer.Broken why) ends is = absurd (cc is)
unwritten_told answer.ReadFault ends is = absurd (cc is)
unwritten_told answer.WriteFault (behind course same) is = same
unwritten_told answer.WriteFault (before same) is = same

-- The bytes of an agent decide the turns of a dialogue.
use Rattle.std.proofs.Common.{◌≡◌, ◌+◌, ℕ, true, false, List, [], ◌∷◌, ◌++◌, length, Option, Some, Ok, Err, refl, ap, sym, subst, ◌∙◌}
use Rattle.assuan_client.{specs.{Connections.Connection, Skipping.Tally, Writing.{Command, reply_text, cancel_text}, declared.answer.Answer.Answer}, proofs.Alike.{Alike, is_fault, SaidAlike, answered_alike, exchanged_alike}}
use Rattle.assuan_line.specs.Next.{Reader}
use Rattle.passphrase_talk.specs.Dialogues.{Replies, Requests, IsDialogue, stopped, goes_on, requested, ended, asked, not_greeted, greeted, told_of, passed, is_ok, is_failure, reply_to}
use Rattle.passphrase_talk.specs.{Turns.{Said, Hello, OptionLine, Request, End, Cancel, Turn, turn_of, IsAnswered, AreTaken, one}, Visits.Talk, declared.told.{Loss.Loss, Told.Told}}
use Rattle.passphrase_talk.proofs.Ending.{EndsBy, behind, before, Ends, last_of, dialogue_ends}
use Rattle.assuan_client.specs.declared.answer.Answer.TheVariants as answer
use Rattle.assuan_client.proofs.Alike as alike

-- the last answer is no failure
abbrev Fine : List Turn → Type 0
Fine [] = Unit {0}
Fine (turn ∷ turns) = is_fault (last_of turn.answer turns) ≡ false

fine_behind : (turn : Turn) (turns : List Turn) → Fine (turn ∷ turns) → Fine turns
fine_behind turn [] fine = tt
fine_behind turn (next ∷ turns) fine = fine

first_fine : {next : Answer} {turns : List Turn} → Replies next turns → is_fault (last_of next turns) ≡ false → is_fault next ≡ false
first_fine (ended not) fine = fine
first_fine (asked rest) fine = refl

passed_fine : (said : Answer) → passed said ≡ Ok tt → is_fault said ≡ false
passed_fine answer.Ok is = refl
passed_fine (answer.Got bytes) is = absurd (cc is)
passed_fine (answer.Err number) is = refl
passed_fine (answer.Asked word text) is = absurd (cc is)
passed_fine (answer.Broken why) is = absurd (cc is)
passed_fine answer.ReadFault is = absurd (cc is)
passed_fine answer.WriteFault is = absurd (cc is)

passed_on : (said : Answer) → passed said ≡ Ok tt → alike.goes_on said ≡ true
passed_on answer.Ok is = refl
passed_on (answer.Got bytes) is = absurd (cc is)
passed_on (answer.Err number) is = refl
passed_on (answer.Asked word text) is = absurd (cc is)
passed_on (answer.Broken why) is = absurd (cc is)
passed_on answer.ReadFault is = absurd (cc is)
passed_on answer.WriteFault is = absurd (cc is)

said_alike : (said : Said) (next other : Answer) {start_one end_one start_two end_two : Connection} → is_fault next ≡ false → is_fault other ≡ false → Alike start_one start_two
    → IsAnswered said next start_one end_one → IsAnswered said other start_two end_two → SaidAlike next other end_one end_two
said_alike Hello next other fine fine' same has has' = answered_alike next other fine fine' same has has'
said_alike (OptionLine line) next other fine fine' same has has' = exchanged_alike next other fine fine' same has has'
said_alike (Request line) next other fine fine' same has has' = exchanged_alike next other fine fine' same has has'
said_alike End next other {start_two} {end_two} fine fine' same (pieces, are, does) (pieces', are', does') =
    exchanged_alike next other fine fine' same does (subst (λ (t : Tally). Command (reply_text pieces') t other start_two end_two) (sym same.tally) does')
said_alike Cancel next other {start_two} {end_two} fine fine' same has has' =
    exchanged_alike next other fine fine' same has (subst (λ (t : Tally). Command cancel_text t other start_two end_two) (sym same.tally) has')

replies_alike : (next : Answer) {turns others : List Turn} {start_one end_one start_two end_two : Connection} → is_fault (last_of next turns) ≡ false → is_fault (last_of next others) ≡ false
    → (alike.goes_on next ≡ true → Alike start_one start_two) → Replies next turns → Replies next others → AreTaken start_one turns end_one → AreTaken start_two others end_two → turns ≡ others
replies_alike next fine fine' same (ended not) (ended not') taken taken' = refl
replies_alike next fine fine' same (ended not) (asked rest) taken taken' = absurd (cc not)
replies_alike next fine fine' same (asked rest) (ended not) taken taken' = absurd (cc not)
replies_alike next {end_two} fine fine' same (asked {word} {next = answered} {turns = turns'} rest) (asked {next = again} {turns = others'} rest') (one has taken) (one {mid = mid'} has' taken') =
    let heads = said_alike (reply_to word) answered again (first_fine rest fine) (first_fine rest' fine') (same refl) has has' in
    let tails =
    replies_alike answered fine (subst (λ (a : Answer). is_fault (last_of a others') ≡ false) (sym heads.is) fine') heads.alike rest
    (subst (λ (a : Answer). Replies a others') (sym heads.is) rest') taken taken' in
    cc (heads.is, tails)

stopped_or_not : {said again : Answer} {why : Loss} → said ≡ again → passed said ≡ Err why → passed again ≡ Ok tt → ⊥
stopped_or_not same stops goes = let both = sym stops ∙ ap passed same ∙ goes in cc both

requests_alike : {line : List ℕ} {options : List (List ℕ)} {turns others : List Turn} {start_one end_one start_two end_two : Connection} → Fine turns → Fine others → Alike start_one start_two
    → Requests line options turns → Requests line options others → AreTaken start_one turns end_one → AreTaken start_two others end_two → turns ≡ others
requests_alike fine fine' same (stopped {option} {last} stops) (stopped {last = last'} stops') (one has taken) (one has' taken') =
    let heads = said_alike (OptionLine option) last last' fine fine' same has has' in ap (λ (a : Answer). turn_of (OptionLine option) a ∷ []) heads.is
requests_alike fine fine' same (stopped {option} {last} stops) (goes_on {next} goes rest) (one has taken) (one has' taken') =
    let heads = said_alike (OptionLine option) last next fine (passed_fine next goes) same has has' in absurd (stopped_or_not heads.is stops goes)
requests_alike fine fine' same (goes_on {option} {next} goes rest) (stopped {last} stops) (one has taken) (one has' taken') =
    let heads = said_alike (OptionLine option) next last (passed_fine next goes) fine' same has has' in absurd (stopped_or_not (sym heads.is) stops goes)
requests_alike fine fine' same (goes_on {option} {next} {turns = turns'} goes rest) (goes_on {next = next'} {turns = others'} goes' rest') (one has taken) (one has' taken') =
    let heads = said_alike (OptionLine option) next next' (passed_fine next goes) (passed_fine next' goes') same has has' in
    let tails = requests_alike (fine_behind (turn_of (OptionLine option) next) turns' fine) (fine_behind (turn_of (OptionLine option) next') others' fine') (heads.alike (passed_on next goes)) rest rest' taken taken' in
    cc (heads.is, tails)
requests_alike {line} fine fine' same (requested {next} {turns = turns'} rest) (requested {next = next'} {turns = others'} rest') (one has taken) (one has' taken') =
    let heads = said_alike (Request line) next next' (first_fine rest fine) (first_fine rest' fine') same has has' in
    let tails =
    replies_alike next fine (subst (λ (a : Answer). is_fault (last_of a others') ≡ false) (sym heads.is) fine') heads.alike rest
    (subst (λ (a : Answer). Replies a others') (sym heads.is) rest') taken taken' in
    cc (heads.is, tails)

not_and_ok : {said : Answer} → said ≡ answer.Ok → is_ok said ≡ false → ⊥
not_and_ok same not = let both = sym not ∙ ap is_ok same in cc both

dialogues_alike : {line : List ℕ} {options : List (List ℕ)} {turns others : List Turn} {start_one end_one start_two end_two : Connection} → Fine turns → Fine others → Alike start_one start_two
    → IsDialogue options line turns → IsDialogue options line others → AreTaken start_one turns end_one → AreTaken start_two others end_two → turns ≡ others
dialogues_alike fine fine' same (not_greeted {last} not) (not_greeted {last = last'} not') (one has taken) (one has' taken') =
    let heads = said_alike Hello last last' fine fine' same has has' in ap (λ (a : Answer). turn_of Hello a ∷ []) heads.is
dialogues_alike fine fine' same (not_greeted {last} not) (greeted rest) (one has taken) (one has' taken') =
    let heads = said_alike Hello last answer.Ok fine refl same has has' in absurd (not_and_ok heads.is not)
dialogues_alike fine fine' same (greeted rest) (not_greeted {last} not) (one has taken) (one has' taken') =
    let heads = said_alike Hello answer.Ok last refl fine' same has has' in absurd (not_and_ok (sym heads.is) not)
dialogues_alike fine fine' same (greeted {turns = turns'} rest) (greeted {turns = others'} rest') (one has taken) (one has' taken') =
    let heads = said_alike Hello answer.Ok answer.Ok refl refl same has has' in
    let tails = requests_alike (fine_behind (turn_of Hello answer.Ok) turns' fine) (fine_behind (turn_of Hello answer.Ok) others' fine') (heads.alike refl) rest rest' taken taken' in
    cc tails

-- a dialogue of which no failure is told has none
fine_by : (what : Told) (last : Answer) → EndsBy what last → is_failure what ≡ false → is_fault last ≡ false
fine_by what answer.Ok ends well = refl
fine_by what (answer.Got bytes) ends well = refl
fine_by what (answer.Err number) ends well = refl
fine_by what (answer.Asked word text) ends well = refl
fine_by what (answer.Broken why) ends well = refl
fine_by what answer.ReadFault (behind course same) well = let never = sym (ap is_failure same) ∙ well in absurd (cc never)
fine_by what answer.ReadFault (before same) well = let never = sym (ap is_failure same) ∙ well in absurd (cc never)
fine_by what answer.WriteFault (behind course same) well = let never = sym (ap is_failure same) ∙ well in absurd (cc never)
fine_by what answer.WriteFault (before same) well = let never = sym (ap is_failure same) ∙ well in absurd (cc never)

fine_turns : (turns : List Turn) → Ends turns → is_failure (told_of turns) ≡ false → Fine turns
fine_turns [] ends well = absurd ends
fine_turns (turn ∷ turns) ends well = fine_by (told_of (turn ∷ turns)) (last_of turn.answer turns) ends.0 well

pub one_talk : (options : List (List ℕ)) (line given : List ℕ) (turns others : List Turn) (left rest written other : Option (List ℕ)) → Talk options line turns (Some given) left written
    → Talk options line others (Some given) rest other → is_failure (told_of turns) ≡ false → is_failure (told_of others) ≡ false → turns ≡ others
one_talk options line given turns others left rest written other first second well well' =
    let reader = first.reader ∙ sym second.reader in
    dialogues_alike (fine_turns turns (dialogue_ends first.follows) well) (fine_turns others (dialogue_ends second.follows) well')
    (record {
      rest = given;
      other = given;
      known = first.given_are;
      also = second.given_are;
      bytes = ap (λ (r : Reader). r.ahead ++ given) reader;
      fits = ap (λ (r : Reader). r.left + length given) reader;
      tally = first.tally ∙ sym second.tally;
    }) first.follows second.follows first.taken second.taken

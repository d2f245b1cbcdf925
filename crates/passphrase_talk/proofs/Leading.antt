-- A dialogue that goes on, from one turn to the next.
use Rattle.std.proofs.{Common.{◌≡◌, ◌<◌, ◌≤◌, ◌+◌, ℕ, suc, false, drop, get_or, arith, drop-cons, List, [], ◌∷◌, ◌++◌, Option, Some, None, Result, Ok, Err, refl, ap, sym, subst, ◌∙◌}, lemmas.List.{append-nil, append_assoc}}
use Rattle.std.{proofs.Math.ListN.drop_of_length-le, specs.List.flat_map}
use Rattle.{assuan_client.specs.{Connections.Connection, declared.answer.Answer.Answer}, session_options.specs.OptionValues.EnvWords}
use Rattle.passphrase_talk.specs.Contacts.{HasLaunched, HandsOver}
use Rattle.passphrase_talk.specs.Dialogues.{all_settings, option_lines, Replies, Requests, IsDialogue, Leads, Tells, stopped, goes_on, requested, ended, asked, not_greeted, greeted, launch_in, launches_behind, launches_of, told_of}
use Rattle.passphrase_talk.specs.{Dialogues.{told_behind, told_by, loss_of, passed, quiet, reply_to, after_said, is_inquiry, is_ok}, Turns.{Hello, OptionLine, Request, Turn, turn_of, IsAnswered, none, one}, declared.{connector.Waits.Waits, dialogue.Course.Course}}
use Rattle.passphrase_talk.specs.declared.{options.Setting.{Setting, TheVariants.Notify}, told.{Loss.Loss, Told.Told}}
use Rattle.assuan_client.specs.declared.answer.Answer.TheVariants as answer
use Rattle.passphrase_talk.specs.declared.connector.Waits.TheVariants as waits
use Rattle.passphrase_talk.specs.declared.told.Told.TheVariants as told

pub not_asked : (said : Answer) → ((word text : List ℕ) → said ≡ answer.Asked word text → ⊥) → is_inquiry said ≡ false
not_asked answer.Ok not = refl
not_asked (answer.Got bytes) not = refl
not_asked (answer.Err number) not = refl
not_asked (answer.Asked word text) not = absurd (not word text refl)
not_asked (answer.Broken why) not = refl
not_asked answer.ReadFault not = refl
not_asked answer.WriteFault not = refl

none_launched : (launches : Option (List (List ℕ))) → HasLaunched launches [] launches
none_launched None = tt
none_launched (Some all) = (all, refl, sym (append-nil all))

-- nothing was handed on
pub no_launch : (wait : Waits) (launches : Option (List (List ℕ))) → HandsOver wait [] launches launches
no_launch waits.Answer launches = refl
no_launch waits.Prompt launches = none_launched launches

-- one after another
launched_join : (before between after : Option (List (List ℕ))) (texts others : List (List ℕ)) → HasLaunched before texts between → HasLaunched between others after
    → HasLaunched before (texts ++ others) after
launched_join before between None texts others first second = tt
launched_join before None (Some all) texts others first second = absurd (cc second.1)
launched_join before (Some earlier) (Some all) texts others first second =
    let same : second.0 ≡ earlier = ap (λ o. elim o [ None ↦ [] | Some x ↦ x ]) (sym second.1) in
    (first.0, first.1, second.2 ∙ ap (λ (l : List (List ℕ)). l ++ others) (same ∙ first.2) ∙ append_assoc first.0 texts others)

pub launches_join : (wait : Waits) (before between after : Option (List (List ℕ))) (texts others : List (List ℕ)) → HandsOver wait texts before between → HandsOver wait others between after
    → HandsOver wait (texts ++ others) before after
launches_join waits.Answer before between after texts others first second = second ∙ first
launches_join waits.Prompt before between after texts others first second = launched_join before between after texts others first second

no_inquiry : (last : Answer) → is_inquiry last ≡ false → launch_in last ≡ []
no_inquiry answer.Ok not = refl
no_inquiry (answer.Got bytes) not = refl
no_inquiry (answer.Err number) not = refl
no_inquiry (answer.Asked word text) not = absurd (cc not)
no_inquiry (answer.Broken why) not = refl
no_inquiry answer.ReadFault not = refl
no_inquiry answer.WriteFault not = refl

-- behind an answer that is no inquiry
pub ends : {wait : Waits} {course : Course} {last : Answer} {now : Connection} {what : Told} {launches : Option (List (List ℕ))} → is_inquiry last ≡ false → what ≡ told_by course last
    → Leads wait (Replies last) (told_behind course last) (launches_behind last) now what now launches launches
ends {wait} {last} {launches} not is = record {
  turns = [];
  follows = ended not;
  taken = none;
  told_is = is;
  handed = subst (λ (l : List (List ℕ)). HandsOver wait l launches launches) (sym (no_inquiry last not)) (no_launch wait launches);
}

-- an inquiry is answered
pub replies : {wait : Waits} {course later : Course} {word text : List ℕ} {next : Answer} {before mid after : Connection} {what : Told} {earlier between launched : Option (List (List ℕ))}
    → IsAnswered (reply_to word) next before mid → later ≡ after_said (reply_to word) course → HandsOver wait (launch_in (answer.Asked word text)) earlier between
    → Leads wait (Replies next) (told_behind later next) (launches_behind next) mid what after between launched
    → Leads wait (Replies (answer.Asked word text)) (told_behind course (answer.Asked word text)) (launches_behind (answer.Asked word text)) before what after earlier launched
replies {wait} {word} {text} {next} {earlier} {between} {launched} answered same one_launch rest = record {
  turns = turn_of (reply_to word) next ∷ rest.turns;
  follows = asked rest.follows;
  taken = one answered rest.taken;
  told_is = rest.told_is ∙ ap (λ (c : Course). told_behind c next rest.turns) same;
  handed = launches_join wait earlier between launched (launch_in (answer.Asked word text)) (launches_behind next rest.turns) one_launch rest.handed;
}

-- the request is made
pub requests : {wait : Waits} {line : List ℕ} {next : Answer} {before mid after : Connection} {what : Told} {earlier launched : Option (List (List ℕ))} → IsAnswered (Request line) next before mid
    → Leads wait (Replies next) (told_behind quiet next) (launches_behind next) mid what after earlier launched → Leads wait (Requests line []) told_of launches_of before what after earlier launched
requests {line} {next} answered rest = record {
  turns = turn_of (Request line) next ∷ rest.turns;
  follows = requested rest.follows;
  taken = one answered rest.taken;
  told_is = rest.told_is;
  handed = rest.handed;
}

-- what is told of turns in front of which there is an option
pub behind_option : {line : List ℕ} {options : List (List ℕ)} (option : List ℕ) (next : Answer) {turns : List Turn} → Requests line options turns
    → told_of turns ≡ told_of (turn_of (OptionLine option) next ∷ turns)
behind_option option next (stopped not) = refl
behind_option option next (goes_on passes rest) = refl
behind_option option next (requested rest) = refl

passed_or : (said : Answer) {why : Loss} → Err why ≡ passed said → (passed said ≡ Err (loss_of said)) × (why ≡ loss_of said)
passed_or answer.Ok is = absurd (cc is)
passed_or (answer.Got bytes) is = (refl, cc is)
passed_or (answer.Err number) is = absurd (cc is)
passed_or (answer.Asked word text) is = (refl, cc is)
passed_or (answer.Broken why) is = (refl, cc is)
passed_or answer.ReadFault is = (refl, cc is)
passed_or answer.WriteFault is = (refl, cc is)

-- an option is passed, or none is said
pub tells_on : {wait : Waits} {line : List ℕ} {first options : List (List ℕ)} {before mid after : Connection} {end : Result (Unit {0}) Loss} {what : Told} {earlier launched : Option (List (List ℕ))}
    → Tells first before end mid → end ≡ Ok tt → Leads wait (Requests line options) told_of launches_of mid what after earlier launched
    → Leads wait (Requests line (first ++ options)) told_of launches_of before what after earlier launched
tells_on Tells.unsaid well rest = rest
tells_on (Tells.said {option} next answered) well rest = record {
  turns = turn_of (OptionLine option) next ∷ rest.turns;
  follows = goes_on well rest.follows;
  taken = one answered rest.taken;
  told_is = rest.told_is ∙ behind_option option next rest.follows;
  handed = rest.handed;
}

-- it isn't passed
pub tells_last : {wait : Waits} {line : List ℕ} {first : List (List ℕ)} (options : List (List ℕ)) {before after : Connection} {end : Result (Unit {0}) Loss} {why : Loss} {launches : Option (List (List ℕ))}
    → Tells first before end after → Err why ≡ end → Leads wait (Requests line (first ++ options)) told_of launches_of before (told.Lost why) after launches launches
tells_last options Tells.unsaid stops = absurd (cc stops)
tells_last {wait} options {launches} (Tells.said {option} next answered) stops =
    let not = passed_or next stops in
    record {
      turns = turn_of (OptionLine option) next ∷ [];
      follows = stopped not.0;
      taken = one answered none;
      told_is = ap (λ (l : Loss). told.Lost l) not.1;
      handed = no_launch wait launches;
    }

pub not_ok : (said : Answer) → (said ≡ answer.Ok → ⊥) → is_ok said ≡ false
not_ok answer.Ok not = absurd (not refl)
not_ok (answer.Got bytes) not = refl
not_ok (answer.Err number) not = refl
not_ok (answer.Asked word text) not = refl
not_ok (answer.Broken why) not = refl
not_ok answer.ReadFault not = refl
not_ok answer.WriteFault not = refl

-- the settings from one on
pub settings_from : (terminal : EnvWords) (index : ℕ) → index < 5
    → flat_map (option_lines terminal) (drop index all_settings)
    ≡ option_lines terminal (get_or all_settings index Notify) ++ flat_map (option_lines terminal) (drop (index + 1) all_settings)
settings_from terminal index within =
    let more : suc index ≡ index + 1 = omega arith in
    ap (λ (s : List Setting). flat_map (option_lines terminal) s) (drop-cons all_settings index Notify within)
    ∙ ap (λ (n : ℕ). option_lines terminal (get_or all_settings index Notify) ++ flat_map (option_lines terminal) (drop n all_settings)) more

pub none_behind : (terminal : EnvWords) (index : ℕ) → 5 ≤ index → flat_map (option_lines terminal) (drop index all_settings) ≡ []
none_behind terminal index past = ap (λ (s : List Setting). flat_map (option_lines terminal) s) (drop_of_length-le all_settings past)

-- what is told of turns in front of which there is a greeting
pub behind_greeting : {line : List ℕ} {options : List (List ℕ)} {turns : List Turn} → Requests line options turns → told_of turns ≡ told_of (turn_of Hello answer.Ok ∷ turns)
behind_greeting (stopped not) = refl
behind_greeting (goes_on passes rest) = refl
behind_greeting (requested rest) = refl

-- the agent greets
pub greets : {wait : Waits} {line : List ℕ} {options : List (List ℕ)} {before mid after : Connection} {what : Told} {earlier launched : Option (List (List ℕ))} → IsAnswered Hello answer.Ok before mid
    → Leads wait (Requests line options) told_of launches_of mid what after earlier launched → Leads wait (IsDialogue options line) told_of launches_of before what after earlier launched
greets answered rest = record {
  turns = turn_of Hello answer.Ok ∷ rest.turns;
  follows = greeted rest.follows;
  taken = one answered rest.taken;
  told_is = rest.told_is ∙ behind_greeting rest.follows;
  handed = rest.handed;
}

-- it doesn't
pub greets_not : {wait : Waits} {line : List ℕ} {options : List (List ℕ)} {last : Answer} {before after : Connection} {what : Told} {launches : Option (List (List ℕ))} → IsAnswered Hello last before after
    → is_ok last ≡ false → what ≡ told.Lost (loss_of last) → Leads wait (IsDialogue options line) told_of launches_of before what after launches launches
greets_not {wait} {last} {launches} answered not is = record { turns = turn_of Hello last ∷ []; follows = not_greeted not; taken = one answered none; told_is = is; handed = no_launch wait launches }

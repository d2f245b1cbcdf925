-- A child is spent only where so many bytes of it were taken as its connection may take.
use Rattle.std.{proofs.Common.{◌≡◌, ◌≢◌, ◌+◌, ◌%◌, ◌==◌, ◌&&◌, codes, ℕ, Bool, true, false, cond, nat_lt, List, ◌∷◌, length, is_ok, Option, Some, None, Result, Ok, Err, refl, ap, sym, subst, ◌∙◌, arith}, specs.Str.bytes_eq}
use Rattle.{agent_ports.specs.Sides.Side, agent_ask.specs.{Events.{Call, Start, GetPin, Confirm}, declared.prompt.{prompter.{Consent.Consent, Outcome.Outcome}, spec.PromptSpec.PromptSpec}}, assuan_client.specs.Answers.{ReadOn, ended_of}}
use Rattle.{assuan_client.{specs.{Connections.Connection, Skipping.Tally, Writing.{Command, IsUnanswered}, declared.answer.Answer.Answer}, proofs.Alike.both_known}, assuan_line.specs.Next.{Reader, ended_by}}
use Rattle.{assuan_line.specs.declared.reader.{Took.Took as Took', TheConstants.BUDGET}, assuan_text.specs.Numbers.number_of}
use Rattle.pinentry_client.specs.Answers.{greeted, accepted, pid_after, data_of, process_of, pin_outcome, consent_of}
use Rattle.pinentry_client.specs.Talking.{TellsSetting, unsent, sent, Sets, done, next, StartTalk, greets, Settles, answered, inquired, ErrorTalk, none, shown, PinTalk, ConsentTalk, outcome_by, ChildReplies}
use Rattle.pinentry_client.specs.{Dialogues.{opened_of, stays_ready, stays_open}, Whole.{Questions, Dialogue, IsSpent, HasSpent, here, later}, declared.{answers.Trouble.{Trouble, TheVariants.{Failed, Broken}}, settings.Setting.Setting}}
use Rattle.agent_ask.specs.declared.prompt.prompter.Consent.TheVariants as consent
use Rattle.agent_ask.specs.declared.prompt.prompter.Outcome.TheVariants as outcome
use Rattle.assuan_client.specs.declared.answer.Answer.TheVariants as answer
use Rattle.assuan_line.specs.declared.breach.Breach.TheVariants as breach
use Rattle.assuan_line.specs.declared.reader.Took.TheVariants as took
use Rattle.pinentry_client.specs.declared.settings.Setting.TheVariants as setting

-- so many bytes were taken as the connection may take fewer
pub record Took (rest : List ℕ) (before after : Connection) : Type 0 where
  pub left : List ℕ
  pub known : after.input.bytes ≡ Some left
  pub budget : length rest + after.reader.left ≡ length left + before.reader.left

took_none : {rest : List ℕ} (now : Connection) → now.input.bytes ≡ Some rest → Took rest now now
took_none now is = record { left = _; known = is; budget = refl }

took_then : {rest : List ℕ} {before mid after : Connection} (first : Took rest before mid) → Took first.left mid after → Took rest before after
took_then first second = record { left = second.left; known = second.known; budget = omega (arith, first.budget, second.budget) }

-- the same, and nothing more may be taken where this holds
pub record TookAll (Spent : Type 0) (rest : List ℕ) (before after : Connection) : Type 0 where
  pub took : Took rest before after
  pub spent : Spent → after.reader.left ≡ 0

all_then : {P : Type 0} {rest : List ℕ} {before mid after : Connection} (first : Took rest before mid) → TookAll P first.left mid after → TookAll P rest before after
all_then first second = record { took = took_then first second.took; spent = second.spent }

all_as : {P Q : Type 0} {rest : List ℕ} {before after : Connection} → (Q → P) → TookAll P rest before after → TookAll Q rest before after
all_as so all = record { took = all.took; spent = λ q. all.spent (so q) }

abbrev spent_answer : Answer
spent_answer = answer.Broken breach.Spent

spent_took : (what : Took') → ended_by what ≡ Some took.Spent → what ≡ took.Spent
spent_took (took.Line line) is = cc is
spent_took took.TooLong is = cc is
spent_took took.End is = cc is
spent_took took.Spent is = refl
spent_took took.ReadFault is = cc is

answered_takes_all : {tally : Tally} {said : Answer} {rest : List ℕ} {before after : Connection} → before.input.bytes ≡ Some rest → ReadOn tally said before after
    → TookAll (said ≡ spent_answer) rest before after
answered_takes_all {rest} {before} {after} is has =
    let known = both_known before.input.bytes after.input.bytes (λ bytes left. length bytes + after.reader.left ≡ length left + before.reader.left)
    (λ bytes left. length bytes + after.reader.left ≡ length left + before.reader.left) rest is has.read.budget has.read.budget in
    record {
      took = record { left = known.0; known = known.1; budget = known.2 };
      spent = λ spent. has.read.spent (spent_took has.took (sym has.read.ended ∙ has.ended ∙ ap ended_of spent));
    }

written_takes_all : {text : List ℕ} {tally : Tally} (said : Answer) {rest : List ℕ} {before after : Connection} → said ≢ answer.WriteFault → before.input.bytes ≡ Some rest
    → Command text tally said before after → TookAll (said ≡ spent_answer) rest before after
written_takes_all said not is has =
    let whole = answered_takes_all is (has.answered not).answered in
    record { took = record { left = whole.took.left; known = whole.took.known; budget = whole.took.budget }; spent = whole.spent }

cut_takes_all : {text : List ℕ} {P : Type 0} {rest : List ℕ} {before after : Connection} → ¬ P → before.input.bytes ≡ Some rest → IsUnanswered text before after → TookAll P rest before after
cut_takes_all {rest} {before} {after} never is cut = record {
  took = record {
    left = rest;
    known = ap (λ (s : Side). s.bytes) cut.input ∙ is;
    budget = ap (λ (r : Reader). length rest + r.left) cut.reader;
  };
  spent = λ p. absurd (never p);
}

exchanged_takes_all : {text : List ℕ} {tally : Tally} (said : Answer) {rest : List ℕ} {before after : Connection} → before.input.bytes ≡ Some rest
    → Command text tally said before after → TookAll (said ≡ spent_answer) rest before after
exchanged_takes_all answer.WriteFault is has = cut_takes_all (λ same. cc same) is (has.unanswered refl)
exchanged_takes_all answer.Ok is has = written_takes_all answer.Ok (λ same. absurd (cc same)) is has
exchanged_takes_all (answer.Got bytes) is has = written_takes_all (answer.Got bytes) (λ same. absurd (cc same)) is has
exchanged_takes_all (answer.Err number) is has = written_takes_all (answer.Err number) (λ same. absurd (cc same)) is has
exchanged_takes_all (answer.Asked word text) is has = written_takes_all (answer.Asked word text) (λ same. absurd (cc same)) is has
exchanged_takes_all (answer.Broken why) is has = written_takes_all (answer.Broken why) (λ same. absurd (cc same)) is has
exchanged_takes_all answer.ReadFault is has = written_takes_all answer.ReadFault (λ same. absurd (cc same)) is has

process_never : (within : Bool) (number : ℕ) → (let end : Result ℕ Trouble = cond within (Ok number) (Err (Broken breach.Data)) in end) ≡ Err (Broken breach.Spent) → ⊥
process_never true number is = cc is
process_never false number is = cc is

number_never : (number : Option ℕ) → process_of number ≡ Err (Broken breach.Spent) → ⊥
number_never (Some number) is = process_never (nat_lt number 4294967296) number is
number_never None is = cc is

data_never : (which : Setting) (bytes : List ℕ) → data_of which bytes ≡ Err (Broken breach.Spent) → ⊥
data_never setting.Pid bytes is = number_never (number_of bytes) is
data_never _ bytes is = cc is

applied_spent : (which : Setting) (pid : ℕ) (said : Answer) → pid_after which pid said ≡ Err (Broken breach.Spent) → said ≡ spent_answer
applied_spent which pid answer.Ok is = cc is
applied_spent which pid (answer.Got bytes) is = absurd (data_never which bytes is)
applied_spent which pid (answer.Err number) is = cc is
applied_spent which pid (answer.Asked word text) is = cc is
applied_spent which pid (answer.Broken why) is = cc is
applied_spent which pid answer.ReadFault is = cc is
applied_spent which pid answer.WriteFault is = cc is

accepted_spent : (said : Answer) → accepted said ≡ Err (Broken breach.Spent) → said ≡ spent_answer
accepted_spent answer.Ok is = cc is
accepted_spent (answer.Got bytes) is = cc is
accepted_spent (answer.Err number) is = cc is
accepted_spent (answer.Asked word text) is = cc is
accepted_spent (answer.Broken why) is = cc is
accepted_spent answer.ReadFault is = cc is
accepted_spent answer.WriteFault is = cc is

greeted_spent : (said : Answer) → greeted said ≡ Err (Broken breach.Spent) → said ≡ spent_answer
greeted_spent answer.Ok is = cc is
greeted_spent (answer.Got bytes) is = cc is
greeted_spent (answer.Err number) is = cc is
greeted_spent (answer.Asked word text) is = cc is
greeted_spent (answer.Broken why) is = cc is
greeted_spent answer.ReadFault is = cc is
greeted_spent answer.WriteFault is = cc is

told_takes_all : {spec : PromptSpec} {which : Setting} {pid : ℕ} {end : Result ℕ Trouble} {rest : List ℕ} {before after : Connection} → before.input.bytes ≡ Some rest
    → TellsSetting spec which pid before end after → TookAll (end ≡ Err (Broken breach.Spent)) rest before after
told_takes_all {before} is (unsent absent) = record { took = took_none before is; spent = λ same. absurd (cc same) }
told_takes_all {which} {pid} is (sent line said sends does) = all_as (applied_spent which pid said) (exchanged_takes_all said is does)

sets_take_all : {spec : PromptSpec} {settings : List Setting} {pid : ℕ} {end : Result ℕ Trouble} {rest : List ℕ} {before after : Connection} → before.input.bytes ≡ Some rest
    → Sets spec settings pid before end after → TookAll (end ≡ Err (Broken breach.Spent)) rest before after
sets_take_all {before} is done = record { took = took_none before is; spent = λ same. absurd (cc same) }
sets_take_all is (next tells more) = let first = told_takes_all is tells in all_then first.took (sets_take_all first.took.known more)
sets_take_all is (Sets.stopped tells) = told_takes_all is tells

retyped : {trouble : Trouble} → (let end : Result ℕ Trouble = Err trouble in end) ≡ Err (Broken breach.Spent)
    → (let end : Result (Unit {0}) Trouble = Err trouble in end) ≡ Err (Broken breach.Spent)
retyped {trouble} same = let is : trouble ≡ Broken breach.Spent = cc same in ap (λ (t : Trouble). Err t) is

start_takes_all : {spec : PromptSpec} {end : Result ℕ Trouble} {rest : List ℕ} {before after : Connection} → before.input.bytes ≡ Some rest
    → StartTalk spec before end after → TookAll (end ≡ Err (Broken breach.Spent)) rest before after
start_takes_all is (greets said has well sets) = let first = answered_takes_all is has in all_then first.took (sets_take_all first.took.known sets)
start_takes_all is (StartTalk.stopped said has stops) = all_as (λ same. greeted_spent said (stops ∙ retyped same)) (answered_takes_all is has)

replied_takes_all : (rated : Bool) (text : List ℕ) (said : Answer) {rest : List ℕ} (before after : Connection) → before.input.bytes ≡ Some rest
    → ChildReplies rated text said before after → TookAll (said ≡ spent_answer) rest before after
replied_takes_all true text said before after is (pieces, are, does) = exchanged_takes_all said is does
replied_takes_all false text said before after is does = exchanged_takes_all said is does

settled_takes_all : {rates : Bool} {said final : Answer} {rest : List ℕ} (start : Connection) {before after : Connection} → TookAll (said ≡ spent_answer) rest start before
    → Settles rates said before final after → TookAll (final ≡ spent_answer) rest start after
settled_takes_all start all (answered last) = all
settled_takes_all {rates} start {before} all (inquired {word} {text} {said = reply} {mid} replies more) =
    settled_takes_all start (all_then all.took (replied_takes_all (rates && bytes_eq word (codes "QUALITY")) text reply before mid all.took.known replies)) more

error_takes_all : {error : List ℕ} {end : Result (Unit {0}) Trouble} {rest : List ℕ} {before after : Connection} → before.input.bytes ≡ Some rest → ErrorTalk error before end after
    → TookAll (end ≡ Err (Broken breach.Spent)) rest before after
error_takes_all {before} is (none empty) = record { took = took_none before is; spent = λ same. absurd (cc same) }
error_takes_all is (shown line said some sends does) = all_as (accepted_spent said) (exchanged_takes_all said is does)

by_three : (number : ℕ) (first second third : Bool)
    → (cond first outcome.Cancelled (cond second outcome.Cancelled (cond third outcome.TimedOut (outcome.Broken (breach.Code number))))) ≡ outcome.Broken breach.Spent → ⊥
by_three number true second third is = cc is
by_three number false true third is = cc is
by_three number false false true is = cc is
by_three number false false false is = cc is

pin_spent : (said : Answer) → pin_outcome said ≡ outcome.Broken breach.Spent → said ≡ spent_answer
pin_spent answer.Ok is = cc is
pin_spent (answer.Got bytes) is = cc is
pin_spent (answer.Err number) is = absurd (by_three number (number % 65536 == 99) (number % 65536 == 198) (number % 65536 == 62) is)
pin_spent (answer.Asked word text) is = cc is
pin_spent (answer.Broken why) is = cc is
pin_spent answer.ReadFault is = cc is
pin_spent answer.WriteFault is = cc is

trouble_spent : (trouble : Trouble) → outcome_by trouble ≡ outcome.Broken breach.Spent → (let end : Result (Unit {0}) Trouble = Err trouble in end) ≡ Err (Broken breach.Spent)
trouble_spent Failed is = cc is
trouble_spent (Broken why) is = cc is

pub pin_takes_all : {error : List ℕ} {what : Outcome} {rest : List ℕ} {before after : Connection} → before.input.bytes ≡ Some rest → PinTalk error before what after
    → TookAll (what ≡ outcome.Broken breach.Spent) rest before after
pin_takes_all {before} is (PinTalk.asked said final shows does settles) =
    let first = error_takes_all is shows in
    all_as (pin_spent final) (settled_takes_all before (all_then first.took (exchanged_takes_all said first.took.known does)) settles)
pin_takes_all is (PinTalk.stopped trouble shows) = all_as (trouble_spent trouble) (error_takes_all is shows)

by_four : (number : ℕ) (first second third fourth : Bool)
    → (cond first consent.Cancelled (cond second consent.Cancelled (cond third consent.TimedOut (cond fourth consent.No (consent.Broken (breach.Code number)))))) ≡ consent.Broken breach.Spent
    → ⊥
by_four number true second third fourth is = cc is
by_four number false true third fourth is = cc is
by_four number false false true fourth is = cc is
by_four number false false false true is = cc is
by_four number false false false false is = cc is

consent_spent : (said : Answer) → consent_of said ≡ consent.Broken breach.Spent → said ≡ spent_answer
consent_spent answer.Ok is = cc is
consent_spent (answer.Got bytes) is = cc is
consent_spent (answer.Err number) is = absurd (by_four number (number % 65536 == 99) (number % 65536 == 198) (number % 65536 == 62) (number % 65536 == 114) is)
consent_spent (answer.Asked word text) is = cc is
consent_spent (answer.Broken why) is = cc is
consent_spent answer.ReadFault is = cc is
consent_spent answer.WriteFault is = cc is

pub consent_takes_all : {what : Consent} {rest : List ℕ} {before after : Connection} → before.input.bytes ≡ Some rest → ConsentTalk before what after
    → TookAll (what ≡ consent.Broken breach.Spent) rest before after
consent_takes_all {before} is (ConsentTalk.asked said final does settles) = all_as (consent_spent final) (settled_takes_all before (exchanged_takes_all said is does) settles)

-- of the questions to a child: what is left of its bytes, and how many more may be taken
record Left (rest : List ℕ) (conn : Connection) (ready : Bool) (calls : List Call) (input : Side) : Type 0 where
  left : List ℕ
  known : input.bytes ≡ Some left
  remaining : ℕ
  budget : length rest + remaining ≡ length left + conn.reader.left
  idle : ready ≡ false → remaining ≡ conn.reader.left
  spent : HasSpent calls → remaining ≡ 0

spent_pin : (error : List ℕ) (what : Outcome) → IsSpent (GetPin error what) → what ≡ outcome.Broken breach.Spent
spent_pin error (outcome.Broken breach.Spent) is = refl
spent_pin error _ is = absurd is

spent_consent : (what : Consent) → IsSpent (Confirm what) → what ≡ consent.Broken breach.Spent
spent_consent (consent.Broken breach.Spent) is = refl
spent_consent _ is = absurd is

spent_start : (spec : PromptSpec) (end : Result ℕ Trouble) → IsSpent (Start spec (opened_of end)) → end ≡ Err (Broken breach.Spent)
spent_start spec (Err (Broken breach.Spent)) is = refl
spent_start spec _ is = absurd is

here_or_later : {call : Call} {more : List Call} {P : Type 0} → HasSpent (call ∷ more) → (IsSpent call → P) → (HasSpent more → P) → P
here_or_later (here is) first later_on = first is
here_or_later (later has) first later_on = later_on has

left_of : {conn : Connection} {ready : Bool} {calls : List Call} {input output : Side} {rest : List ℕ} → conn.input.bytes ≡ Some rest → Questions conn ready calls input output
    → Left rest conn ready calls input
left_of {conn} {ready} {rest} is (Questions.pin {error} {outcome = what} talk more) =
    let first = pin_takes_all is talk in
    let behind = left_of first.took.known more in
    record {
      left = behind.left;
      known = behind.known;
      remaining = behind.remaining;
      budget = omega (arith, first.took.budget, behind.budget);
      idle = λ never. absurd (cc never);
      spent = λ has. here_or_later has
          (λ spent. let came = spent_pin error what spent in behind.idle (ap stays_ready came) ∙ first.spent came) behind.spent;
    }
left_of {conn} {ready} {rest} is (Questions.consent {consent = what} talk more) =
    let first = consent_takes_all is talk in
    let behind = left_of first.took.known more in
    record {
      left = behind.left;
      known = behind.known;
      remaining = behind.remaining;
      budget = omega (arith, first.took.budget, behind.budget);
      idle = λ never. absurd (cc never);
      spent = λ has. here_or_later has
          (λ spent. let came = spent_consent what spent in behind.idle (ap stays_open came) ∙ first.spent came) behind.spent;
    }
left_of {conn} {rest} is (Questions.shut says) = record {
  left = rest;
  known = is;
  remaining = conn.reader.left;
  budget = refl;
  idle = λ idle. refl;
  spent = λ has. here_or_later has (λ spent. absurd spent) (λ none_left. elim none_left [ ]);
}

pub all_taken : (calls : List Call) (given : List ℕ) (left written : Option (List ℕ)) → Dialogue calls (Some given) left written → HasSpent calls
    → (rest : List ℕ) × (left ≡ Some rest) × (length given ≡ length rest + BUDGET)
all_taken calls given left written talk has =
    let first = start_takes_all talk.given_are talk.starts in
    let behind = left_of first.took.known talk.asks in
    let none_left : behind.remaining ≡ 0 =
    here_or_later (subst HasSpent talk.calls_are has)
    (λ spent. let came = spent_start talk.spec talk.end spent in behind.idle (ap is_ok came) ∙ first.spent came) behind.spent in
    let allowed = ap (λ (r : Reader). r.left) talk.reader in
    (behind.left, sym talk.left_are ∙ behind.known, omega (arith, first.took.budget, behind.budget, none_left, allowed))

-- Where reads and writes fail, the count of faults rises.
use Rattle.std.{proofs.Common.{◌≡◌, ◌≢◌, ◌≤◌, ◌+◌, ◌-◌, ◌^◌, ◌%◌, ◌==◌, ◌&&◌, codes, ℕ, Bool, true, false, cond, min, nat_lt, List, Option, Some, None, Result, Ok, Err, refl, ap, arith}, specs.Str.bytes_eq}
use Rattle.{agent_ask.specs.declared.prompt.{spec.PromptSpec.PromptSpec, prompter.{Consent.Consent, Outcome.Outcome}}, agent_ports.specs.{Counts.{Rose, RoseBy}, Sides.Side}, assuan_client.specs.{Answers.ReadOn, Connections.Connection}}
use Rattle.{assuan_client.{specs.{Skipping.Tally, Writing.{Command, IsUnanswered}, declared.answer.Answer.Answer}, proofs.Alike.is_fault}, assuan_text.specs.Numbers.number_of}
use Rattle.pinentry_client.specs.Answers.{greeted, accepted, pid_after, data_of, process_of, pin_outcome, pin_error, consent_of, consent_error}
use Rattle.pinentry_client.specs.Talking.{TellsSetting, unsent, sent, Sets, done, next, StartTalk, greets, Settles, answered, inquired, ErrorTalk, none, shown, PinTalk, ConsentTalk, outcome_by, ChildReplies}
use Rattle.pinentry_client.specs.declared.{answers.Trouble.{Trouble, TheVariants.{Failed, Broken}}, settings.Setting.Setting}
use Rattle.agent_ask.specs.declared.prompt.prompter.Consent.TheVariants as consent
use Rattle.agent_ask.specs.declared.prompt.prompter.Outcome.TheVariants as outcome
use Rattle.assuan_client.specs.declared.answer.Answer.TheVariants as answer
use Rattle.pinentry_client.specs.declared.settings.Setting.TheVariants as setting
use Rattle.assuan_line.specs.declared.breach.Breach.TheVariants as breach

abbrev pub faults : Connection → ℕ
faults conn = conn.input.faults + conn.output.faults

-- it grew, and rose where the call failed
abbrev pub Grew : Bool → Connection → Connection → Type 0
Grew failed before after = RoseBy (cond failed 1 0) (faults before) (faults after)

abbrev pub is_failure : Trouble → Bool
is_failure Failed = true
is_failure (Broken why) = false

grew_then : (failed : Bool) (before mid after : ℕ) → RoseBy 0 before mid → RoseBy (cond failed 1 0) mid after → RoseBy (cond failed 1 0) before after
grew_then true before mid after first second = omega (arith, first, second)
grew_then false before mid after first second = omega (arith, first, second)

grew_never_falls : (failed : Bool) (before after : ℕ) → RoseBy (cond failed 1 0) before after → RoseBy 0 before after
grew_never_falls true before after grew = omega (arith, grew)
grew_never_falls false before after grew = grew

read_grew : (failed : Bool) (input output input_after output_after : ℕ) → input ≤ input_after → output_after ≡ output → (failed ≡ true → Rose input input_after)
    → RoseBy (cond failed 1 0) (input + output) (input_after + output_after)
read_grew true input output input_after output_after grew same rose = let risen = rose refl in omega (arith, risen, same)
read_grew false input output input_after output_after grew same rose = omega (arith, grew, same)

only_read : (said : Answer) → said ≢ answer.WriteFault → is_fault said ≡ true → said ≡ answer.ReadFault
only_read answer.Ok not fault = cc fault
only_read (answer.Got bytes) not fault = cc fault
only_read (answer.Err number) not fault = cc fault
only_read (answer.Asked word text) not fault = cc fault
only_read (answer.Broken why) not fault = cc fault
only_read answer.ReadFault not fault = refl
only_read answer.WriteFault not fault = absurd (not refl)

pub answered_grew : {tally : Tally} (said : Answer) {before after : Connection} → ReadOn tally said before after → Grew (is_fault said) before after
answered_grew said {before} {after} has =
    read_grew (is_fault said) before.input.faults before.output.faults after.input.faults after.output.faults has.read.faults
    (ap (λ (s : Side). s.faults) has.output) (λ failed. has.fault (only_read said has.no_write failed))

written_grew : {bytes : List ℕ} {tally : Tally} (said : Answer) {before after : Connection} → said ≢ answer.WriteFault → Command bytes tally said before after
    → Grew (is_fault said) before after
written_grew said {before} {after} not has =
    let whole = has.answered not in
    let read = answered_grew said whole.answered in
    grew_then (is_fault said) (faults before) (before.input.faults + after.output.faults) (faults after) (omega (arith, whole.faults)) read

cut_grew : {bytes : List ℕ} {before after : Connection} → IsUnanswered bytes before after → Grew true before after
cut_grew {before} {after} cut =
    let input = ap (λ (s : Side). s.faults) cut.input in
    let rose = cut.cut.rose in omega (arith, rose, input)

pub exchanged_grew : {bytes : List ℕ} {tally : Tally} (said : Answer) {before after : Connection} → Command bytes tally said before after → Grew (is_fault said) before after
exchanged_grew answer.WriteFault has = cut_grew (has.unanswered refl)
exchanged_grew answer.Ok has = written_grew answer.Ok (λ same. absurd (cc same)) has
exchanged_grew (answer.Got bytes) has = written_grew (answer.Got bytes) (λ same. absurd (cc same)) has
exchanged_grew (answer.Err number) has = written_grew (answer.Err number) (λ same. absurd (cc same)) has
exchanged_grew (answer.Asked word text) has = written_grew (answer.Asked word text) (λ same. absurd (cc same)) has
exchanged_grew (answer.Broken why) has = written_grew (answer.Broken why) (λ same. absurd (cc same)) has
exchanged_grew answer.ReadFault has = written_grew answer.ReadFault (λ same. absurd (cc same)) has

-- a result fails only where its answer does
weaker : (fault failed : Bool) (before after : ℕ) → (failed ≡ true → fault ≡ true) → RoseBy (cond fault 1 0) before after → RoseBy (cond failed 1 0) before after
weaker true true before after so grew = grew
weaker true false before after so grew = omega (arith, grew)
weaker false true before after so grew = let differ = so refl in absurd (cc differ)
weaker false false before after so grew = grew

-- the dialogue can't go on for a fault
abbrev pub fails_by : Result ℕ Trouble → Bool
fails_by (Ok pid) = false
fails_by (Err trouble) = is_failure trouble

abbrev pub fails_at : Result (Unit {0}) Trouble → Bool
fails_at (Ok met) = false
fails_at (Err trouble) = is_failure trouble

greeted_fails : (said : Answer) → fails_at (greeted said) ≡ true → is_fault said ≡ true
greeted_fails answer.Ok failed = cc failed
greeted_fails (answer.Got bytes) failed = cc failed
greeted_fails (answer.Err number) failed = cc failed
greeted_fails (answer.Asked word text) failed = cc failed
greeted_fails (answer.Broken why) failed = cc failed
greeted_fails answer.ReadFault failed = refl
greeted_fails answer.WriteFault failed = refl

accepted_fails : (said : Answer) → fails_at (accepted said) ≡ true → is_fault said ≡ true
accepted_fails answer.Ok failed = cc failed
accepted_fails (answer.Got bytes) failed = cc failed
accepted_fails (answer.Err number) failed = cc failed
accepted_fails (answer.Asked word text) failed = cc failed
accepted_fails (answer.Broken why) failed = cc failed
accepted_fails answer.ReadFault failed = refl
accepted_fails answer.WriteFault failed = refl

process_never : (within : Bool) (number : ℕ) → fails_by (cond within (Ok number) (Err (Broken breach.Data))) ≡ false
process_never true number = refl
process_never false number = refl

process_fails : (number : Option ℕ) → fails_by (process_of number) ≡ false
process_fails (Some number) = process_never (nat_lt number 4294967296) number
process_fails None = refl

data_fails : (setting : Setting) (bytes : List ℕ) → fails_by (data_of setting bytes) ≡ false
data_fails setting.Pid bytes = process_fails (number_of bytes)
data_fails _ bytes = refl

applied_fails : (setting : Setting) (pid : ℕ) (said : Answer) → fails_by (pid_after setting pid said) ≡ true → is_fault said ≡ true
applied_fails setting pid answer.ReadFault failed = refl
applied_fails setting pid answer.WriteFault failed = refl
applied_fails setting pid (answer.Got bytes) failed = let never = data_fails setting bytes in absurd (cc (never, failed))
applied_fails setting pid answer.Ok failed = cc failed
applied_fails setting pid (answer.Err number) failed = cc failed
applied_fails setting pid (answer.Asked word text) failed = cc failed
applied_fails setting pid (answer.Broken why) failed = cc failed

told_grew : {spec : PromptSpec} {setting : Setting} {pid : ℕ} {before after : Connection} {end : Result ℕ Trouble} → TellsSetting spec setting pid before end after
    → Grew (fails_by end) before after
told_grew (unsent absent) = omega arith
told_grew {setting} {pid} {before} {after} (sent line said is does) =
    weaker (is_fault said) (fails_by (pid_after setting pid said)) (faults before) (faults after) (applied_fails setting pid said) (exchanged_grew said does)

sets_grew : {spec : PromptSpec} {settings : List Setting} {pid : ℕ} {before after : Connection} {end : Result ℕ Trouble} → Sets spec settings pid before end after
    → Grew (fails_by end) before after
sets_grew done = omega arith
sets_grew {before} {after} {end} (next {mid} tells rest) = grew_then (fails_by end) (faults before) (faults mid) (faults after) (told_grew tells) (sets_grew rest)
sets_grew (Sets.stopped tells) = told_grew tells

pub start_grew : {spec : PromptSpec} {before after : Connection} {end : Result ℕ Trouble} → StartTalk spec before end after → Grew (fails_by end) before after
start_grew {before} {after} {end} (greets {mid} said has is sets) =
    grew_then (fails_by end) (faults before) (faults mid) (faults after)
    (grew_never_falls (is_fault said) (faults before) (faults mid) (answered_grew said has)) (sets_grew sets)
start_grew {before} {after} (StartTalk.stopped {trouble} said has is) =
    weaker (is_fault said) (is_failure trouble) (faults before) (faults after)
    (λ failed. greeted_fails said (rw is failed)) (answered_grew said has)

replied_grew : (rated : Bool) (text : List ℕ) (said : Answer) (before after : Connection) → ChildReplies rated text said before after → Grew (is_fault said) before after
replied_grew true text said before after (pieces, are, does) = exchanged_grew said does
replied_grew false text said before after does = exchanged_grew said does

settled_grew : {rates : Bool} {said final : Answer} {before after : Connection} (start : Connection) → Grew (is_fault said) start before → Settles rates said before final after
    → Grew (is_fault final) start after
settled_grew start grew (answered last) = grew
settled_grew {rates} {before} start grew (inquired {word} {text} {said} {mid} replies rest) =
    settled_grew start
    (grew_then (is_fault said) (faults start) (faults before) (faults mid) grew
    (replied_grew (rates && bytes_eq word (codes "QUALITY")) text said before mid replies)) rest

error_grew : {error : List ℕ} {before after : Connection} {end : Result (Unit {0}) Trouble} → ErrorTalk error before end after → Grew (fails_at end) before after
error_grew (none empty) = omega arith
error_grew {before} {after} (shown line said some is does) =
    weaker (is_fault said) (fails_at (accepted said)) (faults before) (faults after) (accepted_fails said) (exchanged_grew said does)

abbrev pub pin_failed : Outcome → Bool
pin_failed (outcome.Pin pin) = false
pin_failed outcome.Cancelled = false
pin_failed outcome.TimedOut = false
pin_failed outcome.Failed = true
pin_failed (outcome.Broken why) = false

by_three : (number : ℕ) (first second third : Bool)
    → pin_failed (cond first outcome.Cancelled (cond second outcome.Cancelled (cond third outcome.TimedOut (outcome.Broken (breach.Code number))))) ≡ false
by_three number true second third = refl
by_three number false true third = refl
by_three number false false true = refl
by_three number false false false = refl

pin_error_never : (number : ℕ) → pin_failed (pin_error number) ≡ false
pin_error_never number = by_three number (number % 65536 == 99) (number % 65536 == 198) (number % 65536 == 62)

pin_fails : (said : Answer) → pin_failed (pin_outcome said) ≡ true → is_fault said ≡ true
pin_fails answer.Ok failed = cc failed
pin_fails (answer.Got bytes) failed = cc failed
pin_fails (answer.Err number) failed = let never = pin_error_never number in absurd (cc (never, failed))
pin_fails (answer.Asked word text) failed = cc failed
pin_fails (answer.Broken why) failed = cc failed
pin_fails answer.ReadFault failed = refl
pin_fails answer.WriteFault failed = refl

pub trouble_fails : (trouble : Trouble) → pin_failed (outcome_by trouble) ≡ is_failure trouble
trouble_fails Failed = refl
trouble_fails (Broken why) = refl

pub pin_grew : {error : List ℕ} {before after : Connection} {outcome : Outcome} → PinTalk error before outcome after → Grew (pin_failed outcome) before after
pin_grew {before} {after} (PinTalk.asked {shown} {mid} said final shows does settles) =
    let command = grew_then (is_fault said) (faults before) (faults shown) (faults mid) (error_grew shows) (exchanged_grew said does) in
    weaker (is_fault final) (pin_failed (pin_outcome final)) (faults before) (faults after) (pin_fails final) (settled_grew before command settles)
pin_grew {before} {after} (PinTalk.stopped trouble shows) = rw (trouble_fails trouble) (error_grew shows)

abbrev pub consent_failed : Consent → Bool
consent_failed consent.Yes = false
consent_failed consent.No = false
consent_failed consent.Cancelled = false
consent_failed consent.TimedOut = false
consent_failed consent.Failed = true
consent_failed (consent.Broken why) = false

by_four : (number : ℕ) (first second third fourth : Bool)
    → consent_failed
    (cond first consent.Cancelled (cond second consent.Cancelled (cond third consent.TimedOut (cond fourth consent.No (consent.Broken (breach.Code number)))))) ≡ false
by_four number true second third fourth = refl
by_four number false true third fourth = refl
by_four number false false true fourth = refl
by_four number false false false true = refl
by_four number false false false false = refl

consent_error_never : (number : ℕ) → consent_failed (consent_error number) ≡ false
consent_error_never number = by_four number (number % 65536 == 99) (number % 65536 == 198) (number % 65536 == 62) (number % 65536 == 114)

consent_fails : (said : Answer) → consent_failed (consent_of said) ≡ true → is_fault said ≡ true
consent_fails answer.Ok failed = cc failed
consent_fails (answer.Got bytes) failed = cc failed
consent_fails (answer.Err number) failed = let never = consent_error_never number in absurd (cc (never, failed))
consent_fails (answer.Asked word text) failed = cc failed
consent_fails (answer.Broken why) failed = cc failed
consent_fails answer.ReadFault failed = refl
consent_fails answer.WriteFault failed = refl

pub consent_grew : {before after : Connection} {consent : Consent} → ConsentTalk before consent after → Grew (consent_failed consent) before after
consent_grew {before} {after} (ConsentTalk.asked said final does settles) =
    weaker (is_fault final) (consent_failed (consent_of final)) (faults before) (faults after) (consent_fails final)
    (settled_grew before (exchanged_grew said does) settles)

-- the count of a launcher and of its child together
pub counts_grew : (failed : Bool) (launches launches_after child child_after : ℕ) → launches ≤ launches_after → RoseBy (cond failed 1 0) child child_after
    → (min (launches + child) (2 ^ 64 - 1) ≤ min (launches_after + child_after) (2 ^ 64 - 1))
    × (failed ≡ true → Rose (min (launches + child) (2 ^ 64 - 1)) (min (launches_after + child_after) (2 ^ 64 - 1)))
counts_grew true launches launches_after child child_after more grew = (omega (arith, more, grew), λ failed. omega (arith, more, grew))
counts_grew false launches launches_after child child_after more grew = (omega (arith, more, grew), λ failed. absurd (cc failed))

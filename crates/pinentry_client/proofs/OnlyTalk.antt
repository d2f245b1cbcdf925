-- To connections to which the same bytes come, what is said is answered the same, unless it failed.
use Rattle.std.{proofs.Common.{◌≡◌, ◌&&◌, codes, ℕ, Bool, true, false, List, [], ◌∷◌, is_ok, Option, Some, None, Result, Ok, Err, refl, ap, sym, subst, ◌∙◌}, specs.Str.bytes_eq}
use Rattle.{agent_ask.specs.declared.prompt.{prompter.{Consent.Consent, Outcome.Outcome}, spec.PromptSpec.PromptSpec}, assuan_client.specs.{Connections.Connection, Skipping.Tally, Writing.{Command, reply_text, cancel_text}}}
use Rattle.assuan_client.{specs.declared.answer.Answer.Answer, proofs.Alike.{Alike, is_fault, goes_on, SaidAlike, answered_alike, exchanged_alike}}
use Rattle.pinentry_client.specs.{Answers.{greeted, accepted, pid_after, pin_outcome, consent_of}, Dialogues.{stays_ready, stays_open}, Settings.{IsSettingLine, IsWhereGiven}}
use Rattle.pinentry_client.specs.Talking.{TellsSetting, unsent, sent, Sets, done, next, StartTalk, greets, Settles, answered, inquired, ErrorTalk, none, shown, PinTalk, ConsentTalk, outcome_by, ChildReplies}
use Rattle.pinentry_client.{specs.declared.{answers.Trouble.{Trouble, TheVariants.{Failed, Broken}}, settings.Setting.Setting}, proofs.Faults.{fails_by, fails_at, pin_failed, consent_failed, trouble_fails}}
use Rattle.assuan_client.specs.declared.answer.Answer.TheVariants as answer
use Rattle.pinentry_client.specs.declared.settings.Setting.TheVariants as setting

-- the same came of it, and the connections go on alike where it is well
pub record CameAlike {T : Type 0} (well : T → Bool) (end last : T) (one two : Connection) : Type 0 where
  pub is : end ≡ last
  pub alike : well end ≡ true → Alike one two

-- a setting is sent or not
given_or_not : (text line : List ℕ) (Is : List ℕ → Type 0) → IsWhereGiven text Is None → IsWhereGiven text Is (Some line) → ⊥
given_or_not [] line Is not there = there
given_or_not (byte ∷ text) line Is not there = not

some_not_none : {line : List ℕ} {sent : Option (List ℕ)} → None ≡ sent → Some line ≡ sent → ⊥
some_not_none {line} first second = let both : None ≡ Some line = first ∙ sym second in cc both

sent_or_not : (spec : PromptSpec) (which : Setting) (line : List ℕ) → IsSettingLine spec which None → IsSettingLine spec which (Some line) → ⊥
sent_or_not spec setting.TtyName line not there = given_or_not spec.env.ttyname.items line _ not there
sent_or_not spec setting.TtyType line not there = given_or_not spec.env.ttytype.items line _ not there
sent_or_not spec setting.LcCtype line not there = given_or_not spec.env.lc_ctype.items line _ not there
sent_or_not spec setting.LcMessages line not there = given_or_not spec.env.lc_messages.items line _ not there
sent_or_not spec setting.Timeout line not there = there.0 not
sent_or_not spec setting.Pid line not there = some_not_none not there
sent_or_not spec setting.KeyInfo line not there = some_not_none not there
sent_or_not spec setting.Title line not there = given_or_not spec.title.items line _ not there
sent_or_not spec setting.Description line not there = given_or_not spec.description.items line _ not there
sent_or_not spec setting.Prompt line not there = given_or_not spec.prompt.items line _ not there
sent_or_not spec setting.Ok line not there = given_or_not spec.ok.items line _ not there
sent_or_not spec setting.Cancel line not there = given_or_not spec.cancel.items line _ not there
sent_or_not spec setting.QualityBar line not there = some_not_none not there

applied_fine : (which : Setting) (pid : ℕ) (said : Answer) → fails_by (pid_after which pid said) ≡ false → is_fault said ≡ false
applied_fine which pid answer.Ok fine = refl
applied_fine which pid (answer.Got bytes) fine = refl
applied_fine which pid (answer.Err number) fine = refl
applied_fine which pid (answer.Asked word text) fine = refl
applied_fine which pid (answer.Broken why) fine = refl
applied_fine which pid answer.ReadFault fine = cc fine
applied_fine which pid answer.WriteFault fine = cc fine

applied_on : (which : Setting) (pid : ℕ) (said : Answer) → is_ok (pid_after which pid said) ≡ true → goes_on said ≡ true
applied_on which pid answer.Ok well = refl
applied_on which pid (answer.Got bytes) well = refl
applied_on which pid (answer.Err number) well = refl
applied_on which pid (answer.Asked word text) well = refl
applied_on which pid (answer.Broken why) well = cc well
applied_on which pid answer.ReadFault well = cc well
applied_on which pid answer.WriteFault well = cc well

accepted_fine : (said : Answer) → fails_at (accepted said) ≡ false → is_fault said ≡ false
accepted_fine answer.Ok fine = refl
accepted_fine (answer.Got bytes) fine = refl
accepted_fine (answer.Err number) fine = refl
accepted_fine (answer.Asked word text) fine = refl
accepted_fine (answer.Broken why) fine = refl
accepted_fine answer.ReadFault fine = cc fine
accepted_fine answer.WriteFault fine = cc fine

accepted_on : (said : Answer) → is_ok (accepted said) ≡ true → goes_on said ≡ true
accepted_on answer.Ok well = refl
accepted_on (answer.Got bytes) well = refl
accepted_on (answer.Err number) well = refl
accepted_on (answer.Asked word text) well = refl
accepted_on (answer.Broken why) well = cc well
accepted_on answer.ReadFault well = cc well
accepted_on answer.WriteFault well = cc well

greeted_fine : (said : Answer) → fails_at (greeted said) ≡ false → is_fault said ≡ false
greeted_fine answer.Ok fine = refl
greeted_fine (answer.Got bytes) fine = refl
greeted_fine (answer.Err number) fine = refl
greeted_fine (answer.Asked word text) fine = refl
greeted_fine (answer.Broken why) fine = refl
greeted_fine answer.ReadFault fine = cc fine
greeted_fine answer.WriteFault fine = cc fine

greeted_on : (said : Answer) → is_ok (greeted said) ≡ true → goes_on said ≡ true
greeted_on answer.Ok well = refl
greeted_on (answer.Got bytes) well = refl
greeted_on (answer.Err number) well = refl
greeted_on (answer.Asked word text) well = refl
greeted_on (answer.Broken why) well = cc well
greeted_on answer.ReadFault well = cc well
greeted_on answer.WriteFault well = cc well

told_alike : {spec : PromptSpec} {which : Setting} {pid : ℕ} {before after start stop : Connection} {end last : Result ℕ Trouble} → Alike before start → fails_by end ≡ false
    → fails_by last ≡ false → TellsSetting spec which pid before end after → TellsSetting spec which pid start last stop → CameAlike is_ok end last after stop
told_alike alike fine fine' (unsent absent) (unsent absent') = record { is = refl; alike = λ well. alike }
told_alike {spec} {which} alike fine fine' (unsent absent) (sent line said is does) = absurd (sent_or_not spec which line absent is)
told_alike {spec} {which} alike fine fine' (sent line said is does) (unsent absent) = absurd (sent_or_not spec which line absent is)
told_alike {spec} {which} {pid} alike fine fine' (sent line said is does) (sent line' again is' does') =
    let same = exchanged_alike said again (applied_fine which pid said fine) (applied_fine which pid again fine') alike does does' in
    record { is = ap (pid_after which pid) same.is; alike = λ well. same.alike (applied_on which pid said well) }

known_is : {known other : ℕ} → (let end : Result ℕ Trouble = Ok known in end) ≡ Ok other → known ≡ other
known_is same = cc same

ok_or_err : {known : ℕ} {trouble : Trouble} → (let end : Result ℕ Trouble = Ok known in end) ≡ Err trouble → ⊥
ok_or_err same = cc same

sets_alike : {spec : PromptSpec} {settings : List Setting} (pid : ℕ) {before after start stop : Connection} {end last : Result ℕ Trouble} → Alike before start → fails_by end ≡ false
    → fails_by last ≡ false → Sets spec settings pid before end after → Sets spec settings pid start last stop → CameAlike is_ok end last after stop
sets_alike pid alike fine fine' done done = record { is = refl; alike = λ well. alike }
sets_alike {spec} pid {stop} {last} alike fine fine' (next {settings} {known} tells rest) (next {known = other} {mid = mid'} tells' rest') =
    let told = told_alike alike refl refl tells tells' in
    sets_alike known (told.alike refl) fine fine' rest (subst (λ (k : ℕ). Sets spec settings k mid' last stop) (sym (known_is told.is)) rest')
sets_alike pid alike fine fine' (next tells rest) (Sets.stopped tells') = absurd (ok_or_err (told_alike alike refl fine' tells tells').is)
sets_alike pid alike fine fine' (Sets.stopped tells) (next tells' rest') = absurd (ok_or_err (sym (told_alike alike fine refl tells tells').is))
sets_alike pid alike fine fine' (Sets.stopped tells) (Sets.stopped tells') = told_alike alike fine fine' tells tells'

greeted_same : {said again : Answer} {trouble : Trouble} → said ≡ again → greeted said ≡ Ok tt → greeted again ≡ Err trouble → ⊥
greeted_same {trouble} same well stopped = let both = sym well ∙ ap greeted same ∙ stopped in cc both

pub start_alike : {spec : PromptSpec} {before after start stop : Connection} {end last : Result ℕ Trouble} → Alike before start → fails_by end ≡ false → fails_by last ≡ false
    → StartTalk spec before end after → StartTalk spec start last stop → CameAlike is_ok end last after stop
start_alike alike fine fine' (greets said has is sets) (greets again has' is' sets') =
    let same = answered_alike said again (greeted_fine said (ap fails_at is)) (greeted_fine again (ap fails_at is')) alike has has' in
    sets_alike 0 (same.alike (greeted_on said (ap is_ok is))) fine fine' sets sets'
start_alike alike fine fine' (greets said has is sets) (StartTalk.stopped again has' is') =
    let same = answered_alike said again (greeted_fine said (ap fails_at is)) (greeted_fine again (ap fails_at is' ∙ fine')) alike has has' in
    absurd (greeted_same same.is is is')
start_alike alike fine fine' (StartTalk.stopped said has is) (greets again has' is' sets') =
    let same = answered_alike said again (greeted_fine said (ap fails_at is ∙ fine)) (greeted_fine again (ap fails_at is')) alike has has' in
    absurd (greeted_same (sym same.is) is' is)
start_alike alike fine fine' (StartTalk.stopped {trouble} said has is) (StartTalk.stopped {trouble = other} again has' is') =
    let same = answered_alike said again (greeted_fine said (ap fails_at is ∙ fine)) (greeted_fine again (ap fails_at is' ∙ fine')) alike has has' in
    let both : Err trouble ≡ Err other = sym is ∙ ap greeted same.is ∙ is' in
    let troubles : trouble ≡ other = cc both in
    record { is = ap (λ (t : Trouble). Err t) troubles; alike = λ well. absurd (cc well) }

replied_alike : (rated : Bool) (text : List ℕ) (said again : Answer) {before after start stop : Connection} → is_fault said ≡ false → is_fault again ≡ false → Alike before start
    → ChildReplies rated text said before after → ChildReplies rated text again start stop → SaidAlike said again after stop
replied_alike true text said again {before} {start} {stop} fine fine' alike (pieces, are, does) (pieces', are', does') =
    exchanged_alike said again fine fine' alike does (subst (λ (t : Tally). Command (reply_text pieces') t again start stop) (sym alike.tally) does')
replied_alike false text said again {before} {start} {stop} fine fine' alike does does' =
    exchanged_alike said again fine fine' alike does (subst (λ (t : Tally). Command cancel_text t again start stop) (sym alike.tally) does')

settled_fine : {rates : Bool} {said final : Answer} {before after : Connection} → is_fault final ≡ false → Settles rates said before final after → is_fault said ≡ false
settled_fine fine (answered last) = fine
settled_fine fine (inquired replies rest) = refl

settled_alike : {rates : Bool} (said : Answer) {final last : Answer} {before after start stop : Connection} → is_fault final ≡ false → is_fault last ≡ false
    → (goes_on said ≡ true → Alike before start) → Settles rates said before final after → Settles rates said start last stop → SaidAlike final last after stop
settled_alike said fine fine' alike (answered no_more) (answered no_more') = record { is = refl; alike = alike }
settled_alike said fine fine' alike (answered no_more) (inquired replies rest) = absurd (cc no_more)
settled_alike said fine fine' alike (inquired replies rest) (answered no_more) = absurd (cc no_more)
settled_alike {rates} said {last} {stop} fine fine' alike (inquired {word} {text} {said = next_said} replies rest) (inquired {said = next_again} {mid = mid'} replies' rest') =
    let same = replied_alike (rates && bytes_eq word (codes "QUALITY")) text next_said next_again (settled_fine fine rest) (settled_fine fine' rest') (alike refl) replies replies' in
    settled_alike next_said fine fine' same.alike rest (subst (λ (a : Answer). Settles rates a mid' last stop) (sym same.is) rest')

pub error_alike : {error : List ℕ} {before after start stop : Connection} {end last : Result (Unit {0}) Trouble} → Alike before start → fails_at end ≡ false → fails_at last ≡ false
    → ErrorTalk error before end after → ErrorTalk error start last stop → CameAlike is_ok end last after stop
error_alike alike fine fine' (none empty) (none empty') = record { is = refl; alike = λ well. alike }
error_alike alike fine fine' (none empty) (shown line said some is does) = absurd (some empty)
error_alike alike fine fine' (shown line said some is does) (none empty) = absurd (some empty)
error_alike alike fine fine' (shown line said some is does) (shown line' again some' is' does') =
    let same = exchanged_alike said again (accepted_fine said fine) (accepted_fine again fine') alike does does' in
    record { is = ap accepted same.is; alike = λ well. same.alike (accepted_on said well) }

pin_fine : (said : Answer) → pin_failed (pin_outcome said) ≡ false → is_fault said ≡ false
pin_fine answer.Ok fine = refl
pin_fine (answer.Got bytes) fine = refl
pin_fine (answer.Err number) fine = refl
pin_fine (answer.Asked word text) fine = refl
pin_fine (answer.Broken why) fine = refl
pin_fine answer.ReadFault fine = cc fine
pin_fine answer.WriteFault fine = cc fine

pin_on : (said : Answer) → stays_ready (pin_outcome said) ≡ true → goes_on said ≡ true
pin_on answer.Ok well = refl
pin_on (answer.Got bytes) well = refl
pin_on (answer.Err number) well = refl
pin_on (answer.Asked word text) well = refl
pin_on (answer.Broken why) well = cc well
pin_on answer.ReadFault well = cc well
pin_on answer.WriteFault well = cc well

never_ready : (trouble : Trouble) → stays_ready (outcome_by trouble) ≡ true → ⊥
never_ready Failed well = cc well
never_ready (Broken why) well = cc well

met_or_not : {trouble : Trouble} → (let end : Result (Unit {0}) Trouble = Ok tt in end) ≡ Err trouble → ⊥
met_or_not same = cc same

same_trouble : {trouble other : Trouble} → (let end : Result (Unit {0}) Trouble = Err trouble in end) ≡ Err other → trouble ≡ other
same_trouble same = cc same

pub pin_alike : {error : List ℕ} {what other : Outcome} {before after start stop : Connection} → Alike before start → pin_failed what ≡ false → pin_failed other ≡ false
    → PinTalk error before what after → PinTalk error start other stop → CameAlike stays_ready what other after stop
pin_alike {stop} alike fine fine' (PinTalk.asked said final shows does settles) (PinTalk.asked {mid = mid'} again last shows' does' settles') =
    let shown_same = error_alike alike refl refl shows shows' in
    let final_fine = pin_fine final fine in
    let last_fine = pin_fine last fine' in
    let same = exchanged_alike said again (settled_fine final_fine settles) (settled_fine last_fine settles') (shown_same.alike refl) does does' in
    let settled = settled_alike said final_fine last_fine same.alike settles (subst (λ (a : Answer). Settles true a mid' last stop) (sym same.is) settles') in
    record { is = ap pin_outcome settled.is; alike = λ well. settled.alike (pin_on final well) }
pin_alike alike fine fine' (PinTalk.asked said final shows does settles) (PinTalk.stopped trouble shows') =
    absurd (met_or_not (error_alike alike refl (sym (trouble_fails trouble) ∙ fine') shows shows').is)
pin_alike alike fine fine' (PinTalk.stopped trouble shows) (PinTalk.asked again last shows' does' settles') =
    absurd (met_or_not (sym (error_alike alike (sym (trouble_fails trouble) ∙ fine) refl shows shows').is))
pin_alike alike fine fine' (PinTalk.stopped trouble shows) (PinTalk.stopped other shows') =
    let same = error_alike alike (sym (trouble_fails trouble) ∙ fine) (sym (trouble_fails other) ∙ fine') shows shows' in
    record { is = ap outcome_by (same_trouble same.is); alike = λ well. absurd (never_ready trouble well) }

consent_fine : (said : Answer) → consent_failed (consent_of said) ≡ false → is_fault said ≡ false
consent_fine answer.Ok fine = refl
consent_fine (answer.Got bytes) fine = refl
consent_fine (answer.Err number) fine = refl
consent_fine (answer.Asked word text) fine = refl
consent_fine (answer.Broken why) fine = refl
consent_fine answer.ReadFault fine = cc fine
consent_fine answer.WriteFault fine = cc fine

consent_on : (said : Answer) → stays_open (consent_of said) ≡ true → goes_on said ≡ true
consent_on answer.Ok well = refl
consent_on (answer.Got bytes) well = refl
consent_on (answer.Err number) well = refl
consent_on (answer.Asked word text) well = refl
consent_on (answer.Broken why) well = cc well
consent_on answer.ReadFault well = cc well
consent_on answer.WriteFault well = cc well

pub consent_alike : {what other : Consent} {before after start stop : Connection} → Alike before start → consent_failed what ≡ false → consent_failed other ≡ false
    → ConsentTalk before what after → ConsentTalk start other stop → CameAlike stays_open what other after stop
consent_alike {stop} alike fine fine' (ConsentTalk.asked said final does settles) (ConsentTalk.asked {mid = mid'} again last does' settles') =
    let final_fine = consent_fine final fine in
    let last_fine = consent_fine last fine' in
    let same = exchanged_alike said again (settled_fine final_fine settles) (settled_fine last_fine settles') alike does does' in
    let settled = settled_alike said final_fine last_fine same.alike settles (subst (λ (a : Answer). Settles false a mid' last stop) (sym same.is) settles') in
    record { is = ap consent_of settled.is; alike = λ well. settled.alike (consent_on final well) }

-- A child's bytes decide what the calls of a prompt are answered.
use Rattle.std.proofs.Common.{◌≡◌, ◌+◌, ℕ, Bool, true, false, List, ◌∷◌, ◌++◌, length, is_ok, Option, Some, Result, Ok, Err, refl, ap, sym, subst, ◌∙◌}
use Rattle.{agent_ask.specs.{Events.{Call, Start}, declared.prompt.{prompter.{Consent.Consent, Outcome.Outcome}, spec.PromptSpec.PromptSpec}}, agent_ports.specs.Sides.Side, assuan_client.{specs.Connections.Connection, proofs.Alike.Alike}}
use Rattle.assuan_line.specs.Next.{Reader}
use Rattle.pinentry_client.specs.{Dialogues.{opened_of, stays_ready, stays_open}, Talking.{StartTalk, PinTalk, ConsentTalk}, Whole.{Questions, Dialogue, AskAlike}, declared.answers.Trouble.{Trouble, TheVariants.{Failed, Broken}}}
use Rattle.pinentry_client.proofs.{Calling.{pin_is_failed, consent_is_failed, start_is_failed}, Faults.{fails_by, pin_failed, consent_failed}, OnlyTalk.{CameAlike, start_alike, pin_alike, consent_alike}}
use Rattle.agent_ask.specs.declared.prompt.prompter.Consent.TheVariants as consent
use Rattle.agent_ask.specs.declared.prompt.prompter.Outcome.TheVariants as outcome

-- what failed came to the same
failed_pin : (what : Outcome) → pin_failed what ≡ true → what ≡ outcome.Failed
failed_pin (outcome.Pin pin) failed = cc failed
failed_pin outcome.Cancelled failed = cc failed
failed_pin outcome.TimedOut failed = cc failed
failed_pin outcome.Failed failed = refl
failed_pin (outcome.Broken why) failed = cc failed

failed_consent : (what : Consent) → consent_failed what ≡ true → what ≡ consent.Failed
failed_consent consent.Yes failed = cc failed
failed_consent consent.No failed = cc failed
failed_consent consent.Cancelled failed = cc failed
failed_consent consent.TimedOut failed = cc failed
failed_consent consent.Failed failed = refl
failed_consent (consent.Broken why) failed = cc failed

failed_start : (end : Result ℕ Trouble) → fails_by end ≡ true → end ≡ Err Failed
failed_start (Ok pid) failed = cc failed
failed_start (Err Failed) failed = refl
failed_start (Err (Broken why)) failed = cc failed

by_bool : {P : Type 0} (b : Bool) → (b ≡ true → P) → (b ≡ false → P) → P
by_bool true when otherwise = when refl
by_bool false when otherwise = otherwise refl

pin_same : {error : List ℕ} (what other : Outcome) {before after start stop : Connection} → (true ≡ true → Alike before start) → pin_failed what ≡ pin_failed other
    → PinTalk error before what after → PinTalk error start other stop → CameAlike stays_ready what other after stop
pin_same what other alike same talk talk' =
    by_bool (pin_failed what)
    (λ failed.
    let is = failed_pin what failed in
    let is' = failed_pin other (sym same ∙ failed) in
    record { is = is ∙ sym is'; alike = λ well. let never = sym (ap stays_ready is) ∙ well in absurd (cc never) })
    (λ fine. pin_alike (alike refl) fine (sym same ∙ fine) talk talk')

consent_same : (what other : Consent) {before after start stop : Connection} → (true ≡ true → Alike before start) → consent_failed what ≡ consent_failed other
    → ConsentTalk before what after → ConsentTalk start other stop → CameAlike stays_open what other after stop
consent_same what other alike same talk talk' =
    by_bool (consent_failed what)
    (λ failed.
    let is = failed_consent what failed in
    let is' = failed_consent other (sym same ∙ failed) in
    record { is = is ∙ sym is'; alike = λ well. let never = sym (ap stays_open is) ∙ well in absurd (cc never) })
    (λ fine. consent_alike (alike refl) fine (sym same ∙ fine) talk talk')

start_same : {spec : PromptSpec} (end last : Result ℕ Trouble) {before after start stop : Connection} → Alike before start → fails_by end ≡ fails_by last
    → StartTalk spec before end after → StartTalk spec start last stop → CameAlike is_ok end last after stop
start_same end last alike same talk talk' =
    by_bool (fails_by end)
    (λ failed.
    let is = failed_start end failed in
    let is' = failed_start last (sym same ∙ failed) in
    record { is = is ∙ sym is'; alike = λ well. let never = sym (ap is_ok is) ∙ well in absurd (cc never) })
    (λ fine. start_alike alike fine (sym same ∙ fine) talk talk')

questions_same : {one two : Connection} (ready : Bool) {calls others : List Call} {input output input_two output_two : Side} → (ready ≡ true → Alike one two)
    → Questions one ready calls input output → Questions two ready others input_two output_two → AskAlike calls others → calls ≡ others
questions_same {two} ready {input_two} {output_two} alike (Questions.pin {later} {error} {outcome = what} talk rest)
    (Questions.pin {later = later'} {error = error'} {outcome = other} {more = others} talk' rest') (AskAlike.one asks fails more) =
    let errors : error ≡ error' = asks in
    let same =
    pin_same what other alike (sym (pin_is_failed error what) ∙ fails ∙ pin_is_failed error' other) talk (subst (λ (e : List ℕ). PinTalk e two other later') (sym errors) talk') in
    let rests = questions_same (stays_ready what) same.alike rest (subst (λ (o : Outcome). Questions later' (stays_ready o) others input_two output_two) (sym same.is) rest') more in
    cc (errors, same.is, rests)
questions_same ready {input_two} {output_two} alike (Questions.consent {consent = what} talk rest)
    (Questions.consent {later = later'} {consent = other} {more = others} talk' rest') (AskAlike.one asks fails more) =
    let same = consent_same what other alike (sym (consent_is_failed what) ∙ fails ∙ consent_is_failed other) talk talk' in
    let rests = questions_same (stays_open what) same.alike rest (subst (λ (o : Consent). Questions later' (stays_open o) others input_two output_two) (sym same.is) rest') more in
    cc (same.is, rests)
questions_same ready alike (Questions.shut says) (Questions.shut says') (AskAlike.one asks fails AskAlike.none) = refl
questions_same ready alike (Questions.pin talk rest) (Questions.consent talk' rest') (AskAlike.one asks fails more) = absurd asks
questions_same ready alike (Questions.pin talk rest) (Questions.shut says) (AskAlike.one asks fails more) = absurd asks
questions_same ready alike (Questions.consent talk rest) (Questions.pin talk' rest') (AskAlike.one asks fails more) = absurd asks
questions_same ready alike (Questions.consent talk rest) (Questions.shut says) (AskAlike.one asks fails more) = absurd asks
questions_same ready alike (Questions.shut says) (Questions.pin talk rest) (AskAlike.one asks fails more) = absurd asks
questions_same ready alike (Questions.shut says) (Questions.consent talk rest) (AskAlike.one asks fails more) = absurd asks

fresh_alike : {given : List ℕ} (one two : Connection) → one.input.bytes ≡ Some given → two.input.bytes ≡ Some given → one.reader ≡ two.reader → one.tally ≡ two.tally → Alike one two
fresh_alike {given} one two known also reader tally = record {
  rest = given;
  other = given;
  known = known;
  also = also;
  bytes = ap (λ (r : Reader). r.ahead ++ given) reader;
  fits = ap (λ (r : Reader). r.left + length given) reader;
  tally = tally;
}

started_same : {spec other : PromptSpec} (end last : Result ℕ Trouble) {one two opens opens_two : Connection} {more rest : List Call} {input output input_two output_two : Side}
    → Alike one two → StartTalk spec one end opens → StartTalk other two last opens_two → Questions opens (is_ok end) more input output
    → Questions opens_two (is_ok last) rest input_two output_two → AskAlike (Start spec (opened_of end) ∷ more) (Start other (opened_of last) ∷ rest)
    → Start spec (opened_of end) ∷ more ≡ Start other (opened_of last) ∷ rest
started_same {spec} {other} end last {two} {opens_two} {rest} {input_two} {output_two} alike talk talk' asks asks' (AskAlike.one specs fails more) =
    let same = start_same end last alike (sym (start_is_failed spec end) ∙ fails ∙ start_is_failed other last) talk (subst (λ (s : PromptSpec). StartTalk s two last opens_two) (sym specs) talk') in
    let rests = questions_same (is_ok end) same.alike asks (subst (λ (e : Result ℕ Trouble). Questions opens_two (is_ok e) rest input_two output_two) (sym same.is) asks') more in
    let opened = ap opened_of same.is in
    cc (specs, opened, rests)

pub dialogue_same : (calls others : List Call) (given : List ℕ) (left rest written other : Option (List ℕ)) → Dialogue calls (Some given) left written
    → Dialogue others (Some given) rest other → AskAlike calls others → calls ≡ others
dialogue_same calls others given left rest written other one two asks =
    let alike = fresh_alike one.fresh two.fresh one.given_are two.given_are (one.reader ∙ sym two.reader) (one.tally ∙ sym two.tally) in
    one.calls_are
    ∙ started_same one.end two.end alike one.starts two.starts one.asks two.asks
    (subst (λ (c : List Call). AskAlike c (Start two.spec (opened_of two.end) ∷ two.more)) one.calls_are (subst (λ (c : List Call). AskAlike calls c) two.calls_are asks))
    ∙ sym two.calls_are

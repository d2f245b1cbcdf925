-- What each call of a pinentry does to what a prompter shows.
use Rattle.std.proofs.Common.{◌≡◌, ◌≤◌, ◌+◌, ◌-◌, ◌^◌, ℕ, Bool, true, false, cond, min, List, is_some, is_ok, Option, Some, None, Result, Ok, Err, refl, ap, sym, ◌∙◌, subst, arith}
use Rattle.agent_ask.specs.{Events.{Call, Start, GetPin, Confirm, Shut}, Prompters.{AtPrompter, IsCall, is_failed, is_ready_after}, declared.prompt.{prompter.{Consent.Consent, Opened.Opened, Outcome.Outcome}, spec.PromptSpec.PromptSpec}}
use Rattle.{agent_ports.specs.{Counts.{Rose, RoseBy}, Launches.Launches, Sides.Side}, assuan_client.specs.Connections.Connection}
use Rattle.pinentry_client.specs.Dialogues.{HasNoChild, HasChild, HasFinished, SaysBye, opened_of, stays_ready, stays_open, PinentryDoes, unlaunched, started, pin_asked, consent_asked, shut, shut_alone, PinentryCall}
use Rattle.pinentry_client.specs.{States.{PinentryState, AtPinentry, at_pinentry, at_prompter}, Talking.{StartTalk, PinTalk, ConsentTalk}, declared.answers.Trouble.{Trouble, TheVariants.{Failed, Broken}}}
use Rattle.pinentry_client.proofs.Faults.{faults, fails_by, start_grew, pin_failed, pin_grew, consent_failed, consent_grew, counts_grew}
use Rattle.agent_ask.specs.declared.prompt.prompter.Consent.TheVariants as consent
use Rattle.agent_ask.specs.declared.prompt.prompter.Opened.TheVariants as opened
use Rattle.agent_ask.specs.declared.prompt.prompter.Outcome.TheVariants as outcome

pin_ready_after : (error : List ℕ) (what : Outcome) → stays_ready what ≡ is_ready_after (GetPin error what)
pin_ready_after error (outcome.Pin pin) = refl
pin_ready_after error outcome.Cancelled = refl
pin_ready_after error outcome.TimedOut = refl
pin_ready_after error outcome.Failed = refl
pin_ready_after error (outcome.Broken why) = refl

pub pin_is_failed : (error : List ℕ) (what : Outcome) → is_failed (GetPin error what) ≡ pin_failed what
pin_is_failed error (outcome.Pin pin) = refl
pin_is_failed error outcome.Cancelled = refl
pin_is_failed error outcome.TimedOut = refl
pin_is_failed error outcome.Failed = refl
pin_is_failed error (outcome.Broken why) = refl

consent_ready_after : (what : Consent) → stays_open what ≡ is_ready_after (Confirm what)
consent_ready_after consent.Yes = refl
consent_ready_after consent.No = refl
consent_ready_after consent.Cancelled = refl
consent_ready_after consent.TimedOut = refl
consent_ready_after consent.Failed = refl
consent_ready_after (consent.Broken why) = refl

pub consent_is_failed : (what : Consent) → is_failed (Confirm what) ≡ consent_failed what
consent_is_failed consent.Yes = refl
consent_is_failed consent.No = refl
consent_is_failed consent.Cancelled = refl
consent_is_failed consent.TimedOut = refl
consent_is_failed consent.Failed = refl
consent_is_failed (consent.Broken why) = refl

start_ready_after : (spec : PromptSpec) (end : Result ℕ Trouble) → is_ok end ≡ is_ready_after (Start spec (opened_of end))
start_ready_after spec (Ok pid) = refl
start_ready_after spec (Err Failed) = refl
start_ready_after spec (Err (Broken why)) = refl

pub start_is_failed : (spec : PromptSpec) (end : Result ℕ Trouble) → is_failed (Start spec (opened_of end)) ≡ fails_by end
start_is_failed spec (Ok pid) = refl
start_is_failed spec (Err Failed) = refl
start_is_failed spec (Err (Broken why)) = refl

-- the count after a call that grew it
call_of : {before after : AtPrompter} {call : Call} (failed : Bool) → after.ready ≡ is_ready_after call → (call ≡ Shut → after.child ≡ false) → is_failed call ≡ failed
    → (before.faults ≤ after.faults) × (failed ≡ true → Rose before.faults after.faults) → IsCall before call after
call_of failed ready child is grew = record { ready = ready; child = child; faults = grew.0; rose = λ fails. grew.1 (sym is ∙ fails) }

started_grew : (program : List ℕ) (spec : PromptSpec) (end : Result ℕ Trouble) (before launches : Launches) (fresh conn : Connection) → HasChild program before fresh launches
    → RoseBy (cond (fails_by end) 1 0) (faults fresh) (faults conn)
    → (min (before.faults + 0) (2 ^ 64 - 1) ≤ min (launches.faults + faults conn) (2 ^ 64 - 1))
    × (fails_by end ≡ true → Rose (min (before.faults + 0) (2 ^ 64 - 1)) (min (launches.faults + faults conn) (2 ^ 64 - 1)))
started_grew program spec end before launches fresh conn has grew =
    let none : faults fresh ≡ 0 = omega (arith, has.fresh.no_read_failed, has.fresh.no_write_failed) in
    counts_grew (fails_by end) before.faults launches.faults 0 (faults conn) has.faults (subst (λ (n : ℕ). RoseBy (cond (fails_by end) 1 0) n (faults conn)) none grew)

bye_grew : (ready : Bool) (before after : Side) → SaysBye ready before after → before.faults ≤ after.faults
bye_grew true before after says = says.faults
bye_grew false before after says = omega (arith, ap (λ (s : Side). s.faults) says)

pub is_call : {before after : AtPinentry} {call : Call} → PinentryDoes before call after → IsCall (at_prompter before) call (at_prompter after)
is_call (unlaunched {before} {launches} none) = record {
  ready = refl;
  child = λ same. absurd (cc same);
  faults = omega (arith, none.faults);
  rose = λ failed. let rose = none.rose in omega (arith, rose);
}
is_call (started {program} {before} {launches} {spec} {fresh} {conn} end has talk) =
    call_of (fails_by end) (start_ready_after spec end) (λ same. absurd (cc same)) (start_is_failed spec end) (started_grew program spec end before launches fresh conn has (start_grew talk))
is_call (pin_asked {launches} {conn} {later} {error} {outcome = what} talk) =
    call_of (pin_failed what) (pin_ready_after error what) (λ same. absurd (cc same)) (pin_is_failed error what)
    (counts_grew (pin_failed what) launches.faults launches.faults (faults conn) (faults later) (omega arith) (pin_grew talk))
is_call (consent_asked {launches} {conn} {later} {consent = what} talk) =
    call_of (consent_failed what) (consent_ready_after what) (λ same. absurd (cc same)) (consent_is_failed what)
    (counts_grew (consent_failed what) launches.faults launches.faults (faults conn) (faults later) (omega arith) (consent_grew talk))
is_call (shut {before} {launches} {conn} {ready} {output} says has) =
    let more = bye_grew ready conn.output output says in
    let rose = has.rose in
    record { ready = refl; child = λ same. refl; faults = omega (arith, more, rose); rose = λ failed. absurd (cc failed) }
is_call shut_alone = record { ready = refl; child = λ same. refl; faults = omega arith; rose = λ failed. absurd (cc failed) }

-- a call of a pinentry that does so
pub pinentry_call : {La : Type 0} (launches : La → Launches) {before after : PinentryState La} {call : Call} → PinentryDoes (at_pinentry launches before) call (at_pinentry launches after)
    → after.lent ≡ before.lent → after.program ≡ before.program → PinentryCall launches before call after
pinentry_call launches does lent program = record { does = does; lent = lent; program = program; is = is_call does }

absent : {X : Type 0} (option : Option X) → is_some option ≡ false → option ≡ None
absent None none = refl
absent (Some x) none = cc none

-- of a pinentry that is shut, or ready
module _ {La : Type 0} {view pinentry : PinentryState La} where
  pub idle_of : view ≡ pinentry → pinentry.ready ≡ false → view.ready ≡ false
  idle_of same idle = ap (λ (p : PinentryState La). p.ready) same ∙ idle

  pub ready_of : view ≡ pinentry → pinentry.ready ≡ true → view.ready ≡ true
  ready_of same there = ap (λ (p : PinentryState La). p.ready) same ∙ there

  pub childless_of : view ≡ pinentry → is_some pinentry.child ≡ false → view.child ≡ None
  childless_of same none = absent view.child (ap (λ (p : PinentryState La). is_some p.child) same ∙ none)

-- the same by equations
module _ {program : List ℕ} {before : Launches} {child later : Option Connection} {ready : Bool} where
  pub shuts_alone : child ≡ None → later ≡ None → PinentryDoes (record { program = program; launches = before; child = child; ready = ready }) Shut (record { program = program; launches = before; child = later; ready = false })
  shuts_alone absent gone = rw (absent, gone) shut_alone

  pub shuts : {launches : Launches} {conn : Connection} {start input output : Side} → child ≡ Some conn → later ≡ None → start ≡ conn.output → input ≡ conn.input → SaysBye ready start output
      → HasFinished before input output launches
      → PinentryDoes (record { program = program; launches = before; child = child; ready = ready }) Shut (record { program = program; launches = launches; child = later; ready = false })
  shuts {launches} {conn} {start} {input} {output} there gone output_is input_is says has =
      rw (there, gone)
      (shut (subst (λ (s : Side). SaysBye ready s output) output_is says) (subst (λ (s : Side). HasFinished before s output launches) input_is has))

  pub starts_none : {launches : Launches} {spec : PromptSpec} → ready ≡ false → child ≡ None → later ≡ None → HasNoChild before launches
      → PinentryDoes (record { program = program; launches = before; child = child; ready = ready }) (Start spec opened.Failed) (record { program = program; launches = launches; child = later; ready = ready })
  starts_none idle absent still has = rw (idle, absent, still) (unlaunched has)

  pub starts : {launches : Launches} {spec : PromptSpec} {fresh conn : Connection} {end : Result ℕ Trouble} {opens : Opened} {later_ready : Bool} → ready ≡ false → child ≡ None → later ≡ Some conn
      → later_ready ≡ is_ok end → opens ≡ opened_of end → HasChild program before fresh launches → StartTalk spec fresh end conn
      → PinentryDoes (record { program = program; launches = before; child = child; ready = ready }) (Start spec opens) (record { program = program; launches = launches; child = later; ready = later_ready })
  starts {end} idle absent there ready_is opens_is has talk = rw (idle, absent, there, ready_is, opens_is) (started end has talk)

  pub asks_pin : {error : List ℕ} {what : Outcome} {conn after : Connection} {later_ready : Bool} → ready ≡ true → child ≡ Some conn → later ≡ Some after
      → later_ready ≡ stays_ready what → PinTalk error conn what after
      → PinentryDoes (record { program = program; launches = before; child = child; ready = ready }) (GetPin error what) (record { program = program; launches = before; child = later; ready = later_ready })
  asks_pin ready_there there still ready_is talk = rw (ready_there, there, still, ready_is) (pin_asked talk)

  pub asks_consent : {what : Consent} {conn after : Connection} {later_ready : Bool} → ready ≡ true → child ≡ Some conn → later ≡ Some after
      → later_ready ≡ stays_open what → ConsentTalk conn what after
      → PinentryDoes (record { program = program; launches = before; child = child; ready = ready }) (Confirm what) (record { program = program; launches = before; child = later; ready = later_ready })
  asks_consent ready_there there still ready_is talk = rw (ready_there, there, still, ready_is) (consent_asked talk)

-- there is none
pub no_child : {X : Type 0} {option : Option X} {x : X} → is_some option ≡ false → option ≡ Some x → ⊥
no_child {X} none same = let there = ap (λ (o : Option X). is_some o) same in absurd (cc (none, there))

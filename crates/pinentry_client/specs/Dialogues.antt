-- What a pinentry does by each call of a prompter: what is launched, said, answered and finished (pinentry manual, "protocol").
use Rattle.std.specs.Prelude.{◌≡◌, ◌≤◌, ◌+◌, ℕ, Bool, true, false, List, [], codes, is_ok, None, Result, Ok, Err}
use Rattle.{agent_ask.specs.{Events.{Call, Start, GetPin, Confirm, Shut}, Prompters.IsCall, declared.prompt.{prompter.{Consent.Consent, Opened.Opened, Outcome.Outcome}, spec.PromptSpec.PromptSpec}}, agent_ports.specs.Counts.{Rose, RoseBy}}
use Rattle.{agent_ports.specs.{Launches.{Launches, IsFresh, child_then, then_launched, then_finished}, Sides.{Side, with_bytes, sent_part, IsCut}, declared.link.Sent.Sent}, assuan_client.specs.{Connections.Connection, Skipping.nothing}}
use Rattle.{assuan_text.specs.LineEnds.line_of, assuan_line.specs.declared.reader.TheConstants.BUDGET}
use Rattle.pinentry_client.specs.{States.{PinentryState, AtPinentry, idle, asked, at_pinentry, at_prompter}, Talking.{StartTalk, PinTalk, ConsentTalk}, declared.answers.Trouble.{Trouble, TheVariants.{Failed, Broken}}}
use Rattle.agent_ask.specs.declared.prompt.prompter.Consent.TheVariants as consent
use Rattle.agent_ask.specs.declared.prompt.prompter.Opened.TheVariants as opened
use Rattle.agent_ask.specs.declared.prompt.prompter.Outcome.TheVariants as outcome
use Rattle.assuan_client.specs.declared.answer.State.TheVariants as state

-- a launch gave no child
pub record HasNoChild (before after : Launches) : Type 0 where
  pub coming : after.coming ≡ before.coming
  pub launched : after.launched ≡ before.launched
  pub finished : after.finished ≡ before.finished
  pub rose : Rose before.faults after.faults
  pub faults : before.faults ≤ after.faults

-- a child was launched, which runs this program: nothing was said, and its connection takes at most so many bytes
pub record HasChild (program : List ℕ) (before : Launches) (child : Connection) (after : Launches) : Type 0 where
  pub fresh : IsFresh child.input child.output
  pub reader : child.reader ≡ record { ahead = []; left = BUDGET; ended = None }
  pub tally : child.tally ≡ nothing
  pub state : child.state ≡ state.Ready
  pub coming : before.coming ≡ child_then child.input.bytes after.coming
  pub launched : after.launched ≡ then_launched before.launched program
  pub finished : after.finished ≡ before.finished
  pub faults : before.faults ≤ after.faults

-- BYE was written, or some first bytes of it, and its answer isn't read
pub record WritesBye (before after : Side) : Type 0 where
  pub sent : Sent
  pub written : after.bytes ≡ with_bytes before.bytes (sent_part (line_of (codes "BYE")) sent)
  pub rose : IsCut sent → Rose before.faults after.faults
  pub faults : before.faults ≤ after.faults

-- the end is said to a child that can be asked
abbrev pub SaysBye : Bool → Side → Side → Type 0
SaysBye true before after = WritesBye before after
SaysBye false before after = after ≡ before

-- a child was finished, with these sides of its link
pub record HasFinished (before : Launches) (input output : Side) (after : Launches) : Type 0 where
  pub finished : after.finished ≡ then_finished before.finished input.bytes output.bytes
  pub coming : after.coming ≡ before.coming
  pub launched : after.launched ≡ before.launched
  pub rose : RoseBy (input.faults + output.faults) before.faults after.faults
  pub faults : before.faults ≤ after.faults

-- what the start of a prompt came to
abbrev pub opened_of : Result ℕ Trouble → Opened
opened_of (Ok pid) = opened.Pid pid
opened_of (Err Failed) = opened.Failed
opened_of (Err (Broken why)) = opened.Broken why

-- the child can be asked again after an answer
abbrev pub stays_ready : Outcome → Bool
stays_ready (outcome.Pin pin) = true
stays_ready outcome.Cancelled = true
stays_ready outcome.TimedOut = true
stays_ready outcome.Failed = false
stays_ready (outcome.Broken why) = false

abbrev pub stays_open : Consent → Bool
stays_open consent.Yes = true
stays_open consent.No = true
stays_open consent.Cancelled = true
stays_open consent.TimedOut = true
stays_open consent.Failed = false
stays_open (consent.Broken why) = false

-- What each call does. A prompt that is started has a child of its own, unless none could be launched, and one that is shut has none.
pub data PinentryDoes : AtPinentry → Call → AtPinentry → Type 0 where
  unlaunched : {program : List ℕ} {before launches : Launches} {spec : PromptSpec} → HasNoChild before launches
      → PinentryDoes (idle program before) (Start spec opened.Failed) (idle program launches)
  started : {program : List ℕ} {before launches : Launches} {spec : PromptSpec} {fresh conn : Connection} (end : Result ℕ Trouble)
      → HasChild program before fresh launches → StartTalk spec fresh end conn
      → PinentryDoes (idle program before) (Start spec (opened_of end)) (asked program launches conn (is_ok end))
  pin_asked : {program : List ℕ} {launches : Launches} {conn later : Connection} {error : List ℕ} {outcome : Outcome} → PinTalk error conn outcome later
      → PinentryDoes (asked program launches conn true) (GetPin error outcome) (asked program launches later (stays_ready outcome))
  consent_asked : {program : List ℕ} {launches : Launches} {conn later : Connection} {consent : Consent} → ConsentTalk conn consent later
      → PinentryDoes (asked program launches conn true) (Confirm consent) (asked program launches later (stays_open consent))
  shut : {program : List ℕ} {before launches : Launches} {conn : Connection} {ready : Bool} {output : Side} → SaysBye ready conn.output output
      → HasFinished before conn.input output launches → PinentryDoes (asked program before conn ready) Shut (idle program launches)
  shut_alone : {program : List ℕ} {launches : Launches} {ready : Bool}
      → PinentryDoes (record { program = program; launches = launches; child = None; ready = ready }) Shut (idle program launches)

-- a call of a pinentry, which keeps its launcher and its program
pub record PinentryCall {La : Type 0} (launches : La → Launches) (before : PinentryState La) (call : Call) (after : PinentryState La) : Type 0 where
  pub does : PinentryDoes (at_pinentry launches before) call (at_pinentry launches after)
  pub lent : after.lent ≡ before.lent
  pub program : after.program ≡ before.program
  pub is : IsCall (at_prompter (at_pinentry launches before)) call (at_prompter (at_pinentry launches after))

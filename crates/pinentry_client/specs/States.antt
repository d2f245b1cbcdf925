-- A pinentry as contracts see it: its launcher, and its child.
use Rattle.std.specs.{Prelude.{◌≡◌, ◌+◌, ◌-◌, ◌^◌, ℕ, Bool, true, false, List, min, is_some, Option, Some, None, ⊤}, Borrow.GName}
use Rattle.{agent_ask.specs.Prompters.AtPrompter, agent_ports.specs.Launches.Launches, assuan_client.specs.{Connections.Connection, declared.answer.State.TheVariants.Ready}}

pub record PinentryState (La : Type 0) : Type 0 where
  -- what a child runs
  pub program : List ℕ
  -- the launcher, and which one that is
  pub launcher : La
  pub lent : GName
  -- the connection to the child, while one stands
  pub child : Option Connection
  -- whether the child can be asked
  pub ready : Bool

-- what has to do with children
pub record AtPinentry : Type 0 where
  pub program : List ℕ
  pub launches : Launches
  pub child : Option Connection
  pub ready : Bool

abbrev pub at_pinentry : {La : Type 0} → (La → Launches) → PinentryState La → AtPinentry
at_pinentry launches pinentry = record { program = pinentry.program; launches = launches pinentry.launcher; child = pinentry.child; ready = pinentry.ready }

-- no child stands
abbrev pub idle : List ℕ → Launches → AtPinentry
idle program launches = record { program = program; launches = launches; child = None; ready = false }

-- a child stands, which can be asked or not
abbrev pub asked : List ℕ → Launches → Connection → Bool → AtPinentry
asked program launches conn ready = record { program = program; launches = launches; child = Some conn; ready = ready }

-- how many reads and writes of a child failed
abbrev pub child_faults : Option Connection → ℕ
child_faults None = 0
child_faults (Some conn) = conn.input.faults + conn.output.faults

-- The count of faults is that of the launcher and the two of its child, added, and cut at the last count.
abbrev pub at_prompter : AtPinentry → AtPrompter
at_prompter pinentry = record {
  ready = pinentry.ready;
  child = is_some pinentry.child;
  faults = min (pinentry.launches.faults + child_faults pinentry.child) (2 ^ 64 - 1);
}

-- a child that can be asked waits for a command
abbrev pub ChildWaits : Bool → Option Connection → Type 0
ChildWaits true (Some conn) = conn.state ≡ Ready
ChildWaits true None = ⊥
ChildWaits false child = ⊤

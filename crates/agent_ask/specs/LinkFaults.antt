-- Which events of a session failed at its link: a read that failed, and a write that went in part. This is the project's own.
use Rattle.std.specs.{List.count_by, Prelude.{ℕ, Bool, true, false, List}}
use Rattle.{agent_ports.specs.Counts.RoseBy, session_client.specs.{Asking.{Asked, NotAsked, is_unread}, Lines.Lines}}
use Rattle.agent_ask.specs.Session.SessionEvents.{AnyEvent, Received, Cut, Inquiry}

module _ (lines : Lines) {F : Type 0} where
  abbrev pub fails_at_input : AnyEvent lines.Took lines.Outcome F → Bool
  fails_at_input (Received took) = lines.is_failed took
  fails_at_input (Inquiry word params limit (Asked outcome)) = is_unread (lines.says outcome)
  fails_at_input _ = false

  abbrev pub fails_at_output : AnyEvent lines.Took lines.Outcome F → Bool
  fails_at_output (Cut text) = true
  fails_at_output (Inquiry word params limit (NotAsked text)) = true
  fails_at_output _ = false

-- Of these events at most as many failed as a count rose by, as long as that is below its last value.
abbrev pub CountsFailed : {E : Type 0} → (E → Bool) → List E → ℕ → ℕ → Type 0
CountsFailed failed events before after = RoseBy (count_by failed events) before after

-- The sessions of `serve_session`: what each has to do with, and what it does. None of their requests is on the trust list: no trust file is called.
use Rattle.std.specs.Prelude.{None}
use Rattle.{agent_ask.specs.Events.Call, agent_ports.specs.{KeyFiles.KeyFiles, Sides.Side, TrustFiles.TrustState}, cache_policy.specs.{declared.mark.MarkStep.MarkStep, Turns.Turn}, session_options.specs.declared.rules.Rules.Rules}
use Rattle.{agent_commands.specs.declared.went.SessionEnd.SessionEnd, agent_origin.specs.{PortStates.{PortWorld, surroundings}, SessionExchanges.{SessionExchange, kept_at_start}, Sessions.{Surroundings, ServesSession}}}

-- the trust file where there is none: nothing is known of it, and it has no faults
abbrev pub no_trust : TrustState
no_trust = record { file = None; folder = None; faults = 0 }

module _ {D P : Type 0} (turned : D → MarkStep → Turn → D → Type 0) (prompted : P → Call → P → Type 0) where
  -- what a session has to do with, where that is a prompter, the keys and the dice
  abbrev pub without_trust : Side → Side → D → P → KeyFiles → Side → Surroundings (PortWorld turned prompted)
  without_trust input output desk prompter keys dice = surroundings turned prompted input output desk prompter keys dice no_trust

  -- a session of the agent's: its lines are requests, and nothing was kept before the first
  abbrev pub ServesRules : Rules → Surroundings (PortWorld turned prompted) → SessionEnd → Surroundings (PortWorld turned prompted) → Type 0
  ServesRules rules before end after = ServesSession {w = PortWorld turned prompted} (SessionExchange rules) (kept_at_start rules) before end after

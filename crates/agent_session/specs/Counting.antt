-- How many events of a session failed, on each of its ports and at its link. This is the project's own.
use Rattle.std.specs.{List.count_by, Prelude.{Bool, true, false, List}}
use Rattle.agent_ask.specs.{Events.Called, Session.PortCalls.{PortEnds, Read, Listed, Replaced, Removed, NotDrawn, Prompt, Keys, Dice, Trust}, LinkFaults.{fails_at_input, fails_at_output, CountsFailed}, Prompters.{AtPrompter, is_failed}}
use Rattle.{agent_ask.specs.Session.SessionEvents.Port, agent_ports.specs.Counts.RoseBy, assuan_server.specs.Clients.session_lines, agent_commands.specs.{Events.EventWith as EventIn, Outside.World}, key_commands.specs.Events.Event}
use Rattle.agent_origin.specs.Sessions.{Surroundings}
use Rattle.agent_ask.specs.Session.TrustCalls as trust_call
use Rattle.agent_ports.specs.declared.keys.KeyDone.TheVariants as key_done
use Rattle.agent_ports.specs.declared.keys.KeyNames.TheVariants as key_names
use Rattle.agent_ports.specs.declared.keys.KeyRead.TheVariants as key_read
use Rattle.agent_ports.specs.declared.trust.TrustDone.TheVariants as trust_done
use Rattle.agent_ports.specs.declared.trust.TrustRead.TheVariants as trust_read

-- whether an event is a call that failed: of the prompter, of the keys, of the dice, or of the trust file
abbrev pub fails_at_prompter : Event → Bool
fails_at_prompter (Port (Prompt (Called call))) = is_failed call
fails_at_prompter _ = false

abbrev pub fails_at_keys : Event → Bool
fails_at_keys (Port (Keys (Read grip key_read.Failed))) = true
fails_at_keys (Port (Keys (Listed key_names.Failed))) = true
fails_at_keys (Port (Keys (Replaced grip file key_done.Failed))) = true
fails_at_keys (Port (Keys (Removed grip key_done.Failed))) = true
fails_at_keys _ = false

abbrev pub fails_at_dice : Event → Bool
fails_at_dice (Port (Dice (NotDrawn count))) = true
fails_at_dice _ = false

abbrev pub fails_at_trust : Event → Bool
fails_at_trust (Port (Trust (trust_call.Read trust_read.Failed))) = true
fails_at_trust (Port (Trust (trust_call.Replaced file trust_done.Failed))) = true
fails_at_trust _ = false

-- Of the events on each end at most as many failed as its count rose by, as long as that is below its last value.
pub record CountsFailures {P : Type 0} (at : P → AtPrompter) (events : List Event) (before after : PortEnds P) : Type 0 where
  pub prompter : RoseBy (count_by fails_at_prompter events) (at before.prompter).faults (at after.prompter).faults
  pub keys : RoseBy (count_by fails_at_keys events) before.keys.faults after.keys.faults
  pub dice : RoseBy (count_by fails_at_dice events) before.dice.faults after.dice.faults
  pub trust : RoseBy (count_by fails_at_trust events) before.trust.faults after.trust.faults

-- The same of both sides of the link.
pub record CountsLink {w : World} (events : List (EventIn w.Port)) (before after : Surroundings w) : Type 0 where
  pub reads : CountsFailed (fails_at_input session_lines) events before.input.faults after.input.faults
  pub writes : CountsFailed (fails_at_output session_lines) events before.output.faults after.output.faults

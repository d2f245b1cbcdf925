-- What a request on keys has to do with beside its link and its desk: the ports of a session without the trust file. This is the project's own.
use Rattle.{agent_ask.specs.{Doing.DoesCall, Events.{Call, PromptEvent}, Session.PortCalls.{KeyCall, Draw, PortCall, Prompt, Keys, Dice, NoMemory, DoesKeys, DoesDraw}}, agent_ports.specs.{KeyFiles.KeyFiles, Sides.Side}}

pub record KeyEnds (P : Type 0) : Type 0 where
  pub prompter : P
  pub keys : KeyFiles
  pub dice : Side

-- what an event does: it leaves the other ends as they are, and none is a call of the trust file
pub data DoesAtKeys {P : Type 0} (prompted : P → Call → P → Type 0) : KeyEnds P → PortCall → KeyEnds P → Type 0 where
  prompt : {before : KeyEnds P} {event : PromptEvent} {prompter : P} → DoesCall prompted before.prompter event prompter
      → DoesAtKeys prompted before (Prompt event) (record before { prompter = prompter })
  keys : {before : KeyEnds P} {call : KeyCall} {files : KeyFiles} → DoesKeys before.keys call files
      → DoesAtKeys prompted before (Keys call) (record before { keys = files })
  dice : {before : KeyEnds P} {draw : Draw} {side : Side} → DoesDraw before.dice draw side
      → DoesAtKeys prompted before (Dice draw) (record before { dice = side })
  no_memory : {now : KeyEnds P} → DoesAtKeys prompted now NoMemory now

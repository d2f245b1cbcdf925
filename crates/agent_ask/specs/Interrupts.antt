-- Which turns end their command. The codes are this project's own.
use Rattle.{cache_policy.specs.Turns.{Turn, Refused, Stopping, Late}, session_client.specs.declared.code.Code.Code}
use Rattle.session_client.specs.declared.code.Code.TheVariants as code

-- a turn that ends its command, and the code that this is answered by
pub data Interrupts : Turn → Code → Type 0 where
  refused : Interrupts Refused code.NoMemory
  stopping : Interrupts Stopping code.Cancelled
  late : Interrupts Late code.Timeout

use Rattle.std.proofs.Common.{◌≡◌, take}
use Rattle.printable.specs.Printables.{printable}
use Rattle.passphrase_client.proofs.message.printable_of.Given as goal

-- what is printed so far
abbrev pub invariant-loop-byte : goal.invariant-loop-byte
invariant-loop-byte l = l.text.items ≡ printable (take l.byte-index l.piece)

use Rattle.std.proofs.Common.{◌≡◌, take}
use Rattle.printable.specs.Printables.{printable}
use Rattle.agent_conf.proofs.telling.printable_text.Given as goal

-- what is printed so far
abbrev pub invariant-loop-byte : goal.invariant-loop-byte
invariant-loop-byte l = l.all.items ≡ printable (take l.byte-index l.text)

use Rattle.std.proofs.Common.{◌++◌, ◌*◌, length}
use Rattle.sha1.specs.Sha1.{Holds}
use Rattle.s2k_derive.specs.S2k.{copies_of}
use Rattle.s2k_derive.proofs.derive.Given as goal

-- the hasher has taken whole copies
abbrev pub invariant-pieces : goal.invariant-pieces
invariant-pieces l = Holds l.hasher (copies_of (l.salt ++ l.pass) (length l.piece * l.counter))

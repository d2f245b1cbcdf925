use Rattle.std.proofs.Common.{sym, subst, arith, ◌+◌}
use Rattle.cache_book.{specs.Shelves.AreBelow, proofs.Below.below_more}
use Rattle.cache_tests.proofs.shelves.made.Goals as goal

pub returns-then-is_err : goal.returns-then-is_err
returns-then-is_err g c =
    subst (AreBelow (c.args.number + 1)) (sym c.reserve.ensures.slots)
    (c.changed-there.ensures (c.args.number + 1) (below_more c.args.number (c.args.number + 1) (g.S.Shelf.at c.args.shelf.now).slots (omega arith) c.requires))

pub stored-requires : goal.stored-requires
stored-requires g c = subst (AreBelow c.args.number) (sym c.reserve.ensures.slots) (c.changed-there.ensures c.args.number c.requires)

pub returns-in_default-call : goal.returns-in_default-call
returns-in_default-call g c =
    subst (AreBelow (c.args.number + 1)) (sym c.reserve.ensures.slots)
    (c.changed-there.ensures (c.args.number + 1) (below_more c.args.number (c.args.number + 1) (g.S.Shelf.at c.args.shelf.now).slots (omega arith) c.requires))

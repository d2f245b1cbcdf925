use Rattle.std.proofs.Common.{rules}
use Rattle.cache_book.{specs.Shelves.serves_at, proofs.Finding.{IsFound, IsGrantOf, found_slot, granted_from, is_granted, none_found, some_is_not_none, none_where}}
use Rattle.cache_book.proofs.list_shelf.grant_from.Goals as goal

made : (c : goal.After-of) → IsGrantOf c.args.id.now c.copy.result c.args.mode c.args.now c.in_ok-slot.slot.now c.copy-2.result c.of.result
made c = record {
  same_id = c.copy.ensures;
  same = c.copy-2.ensures;
  granted = c.of.ensures.granted;
  id_is = c.of.ensures.id;
  mode_is = c.of.ensures.mode;
  entry = c.of.ensures.entry;
  last = c.of.ensures.last;
  moment = c.of.ensures.moment;
}

found : (c : goal.After-of) → IsFound (serves_at c.args.id.now c.args.mode c.args.now) c.args.slots.now c.in_ok-slot.slot.now
found c = found_slot _ _ _ _ _ (search rules)

pub returns-clause-found : goal.returns-clause-found
returns-clause-found c = granted_from _ _ _ _ _ _ _ _ (found c) (made c)

pub returns-clause-none : goal.returns-clause-none
returns-clause-none c = some_is_not_none _ _ (is_granted _ _ _ _ _ _ _ _ c.requires (found c) (made c))

pub returns-in_err-slot-clause-none : goal.returns-in_err-slot-clause-none
returns-in_err-slot-clause-none c = none_where _ _ (none_found (serves_at c.args.id.now c.args.mode c.args.now) c.args.slots.now (search rules))

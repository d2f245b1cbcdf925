use Rattle.std.{specs.Prelude.{◌≡◌, ℕ, true, ◌&&◌, ◌↔◌, IsSome, IfSome}, proofs.Common.{sym, ◌∙◌, subst}}
use Rattle.cache_policy.specs.{declared.grant.Grant.Grant, Entry.{serves, within}}
use Rattle.cache_book.{specs.{declared.slot.Slot.Slot, Shelves.serves_at}, proofs.{Finding.{IsFound, IsGrantOf, granted_from, is_granted, some_is_not_none}, Searching.one_at}}
use Rattle.cache_book.proofs.search.grant_from.Goals as goal

found : (c : goal.After-of) → IsFound (serves_at c.args.id.now c.args.mode c.args.now) c.args.slots.now c.get-slot.result.now
found c =
    let slot : Slot = c.index-slots-i-2.result in
    subst (IsFound (serves_at c.args.id.now c.args.mode c.args.now) c.args.slots.now) (sym (c.get-slot.ensures ∙ c.index-slots-i-2.is)) (record {
      on = one_at c.in_ok-i.i c.args.slots.now slot c.in_ok-i.ensures.found.0;
      passes = c.in_ok-i.ensures.found.1 slot;
    })

made : (c : goal.After-of) → IsGrantOf c.args.id.now c.copy.result c.args.mode c.args.now c.get-slot.result.now c.entry.result c.of.result
made c = record {
  same_id = c.copy.ensures;
  same = c.entry.ensures;
  granted = subst (λ (last : ℕ). IsSome c.of.result ↔ ((serves c.copy.result c.args.mode c.entry.result && within c.entry.result last c.args.now) ≡ true)) c.last.ensures
      c.of.ensures.granted;
  id_is = c.of.ensures.id;
  mode_is = c.of.ensures.mode;
  entry = c.of.ensures.entry;
  last = subst (λ (last : ℕ). IfSome c.of.result (λ (grant : Grant). grant.last ≡ last)) c.last.ensures c.of.ensures.last;
  moment = c.of.ensures.moment;
}

pub returns-clause-found : goal.returns-clause-found
returns-clause-found c = granted_from _ _ _ _ _ _ _ _ (found c) (made c)

pub returns-clause-none : goal.returns-clause-none
returns-clause-none c = some_is_not_none _ _ (is_granted _ _ _ _ _ _ _ _ c.requires.within_mode (found c) (made c))

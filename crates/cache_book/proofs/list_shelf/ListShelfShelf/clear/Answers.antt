use Rattle.std.{specs.Prelude.◌≡◌, proofs.{Common.{ap, sym, ◌∙◌, subst, rules}, lemmas.Fn.filter_same}}
use Rattle.cache_book.{specs.Shelves.{AtShelf, cleared, AreWithinMode}, proofs.Kept.within_filter}
use Rattle.cache_book.proofs.list_shelf.ListShelfShelf.clear.Goals as goal

kept : (c : goal.After-retain) → c.retain.new.self.items ≡ cleared c.args.id.now c.args.mode c.self.inside.slots.items
kept c = filter_same _ _ _ (λ x b f' k. search rules) _ _ c.retain.ensures.filtered

pub invariant_of-self : goal.invariant_of-self
invariant_of-self c = subst AreWithinMode (sym (kept c)) (within_filter _ c.self.inside.slots.items c.self.invariant)

pub returns-clause-slots : goal.returns-clause-slots
returns-clause-slots c = kept c ∙ ap (λ (at : AtShelf). cleared c.args.id.now c.args.mode at.slots) c.self.view_is

use Rattle.std.proofs.{Common.rules, lemmas.Fn.filter_same}
use Rattle.cache_policy.specs.Entry.{within}
use Rattle.cache_book.specs.declared.slot.Slot.{Slot}
use Rattle.cache_book.proofs.slot_shelf.drop_past.Goals as goal

pub returns-clause-items : goal.returns-clause-items
returns-clause-items c = filter_same _ (λ (slot : Slot). within slot.entry slot.last c.args.now) _ (λ x b f' k. search rules) _ _ c.retain.ensures.filtered

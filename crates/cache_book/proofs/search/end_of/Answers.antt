use Rattle.std.proofs.{Common.rules, lemmas.List.Sorted.IsPartitionPoint-from_clause}
use Rattle.cache_book.{specs.SlotOrders.is_upto, proofs.{Arranging.pairs_parted, Ordered.upto_back}}
use Rattle.cache_book.proofs.search.end_of.Goals as goal

pub returns-clause-parts : goal.returns-clause-parts
returns-clause-parts c =
    IsPartitionPoint-from_clause (is_upto c.args.id.now) c.args.slots.now c.partition_point.result c.partition_point.ensures.partitioned
    (pairs_parted _ (is_upto c.args.id.now) (upto_back c.args.id.now) c.args.slots.now c.requires) (λ a r f' k. search rules)

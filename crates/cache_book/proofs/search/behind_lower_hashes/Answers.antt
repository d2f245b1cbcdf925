use Rattle.std.proofs.{Common.rules, lemmas.List.Sorted.IsPartitionPoint-from_clause}
use Rattle.cache_book.{specs.SlotOrders.has_lower_hash, proofs.{Arranging.pairs_parted, Ordered.lower_back}}
use Rattle.cache_book.proofs.search.behind_lower_hashes.Goals as goal

pub returns-clause-parts : goal.returns-clause-parts
returns-clause-parts c =
    IsPartitionPoint-from_clause (has_lower_hash c.args.hash) c.args.slots.now c.partition_point.result c.partition_point.ensures.partitioned
    (pairs_parted _ (has_lower_hash c.args.hash) (lower_back c.args.hash) c.args.slots.now c.requires) (λ a r f' k. search rules)

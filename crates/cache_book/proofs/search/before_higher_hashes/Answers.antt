use Rattle.std.proofs.{Common.rules, lemmas.List.Sorted.IsPartitionPoint-from_clause}
use Rattle.cache_book.{specs.SlotOrders.has_hash_upto, proofs.{Arranging.pairs_parted, Ordered.hash_upto_back}}
use Rattle.cache_book.proofs.search.before_higher_hashes.Goals as goal

pub returns-clause-parts : goal.returns-clause-parts
returns-clause-parts c =
    IsPartitionPoint-from_clause (has_hash_upto c.args.hash) c.args.slots.now c.partition_point.result c.partition_point.ensures.partitioned
    (pairs_parted _ (has_hash_upto c.args.hash) (hash_upto_back c.args.hash) c.args.slots.now c.requires) (λ a r f' k. search rules)

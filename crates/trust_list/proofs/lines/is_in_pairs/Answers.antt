use Rattle.std.proofs.{Common.{rules, tests}, lemmas.Iterator.{Search.all_from_yields_List, Splits.YieldsList-from_slice_split}}
use Rattle.trust_list.specs.Entries.{are_pairs, is_colon}
use Rattle.trust_list.proofs.lines.is_in_pairs.Goals as goal

pub returns : goal.returns
returns c =
    all_from_yields_List are_pairs _ _ _ c.all.ensures.ran
    (YieldsList-from_slice_split _ is_colon c.args.word.now c.split.ensures.rest c.split.ensures.done c.split.ensures.closure (λ x b q k. search (rules, tests)))
    (λ x b q k. search (rules, tests))

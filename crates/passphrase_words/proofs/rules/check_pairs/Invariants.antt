use Rattle.std.{proofs.Common.{◌≡◌, drop, map, string_bytes}, specs.List.list_all}
use Rattle.assuan_text.specs.Rows.{pairs_of}
use Rattle.passphrase_words.specs.{Parts.settings, Rules.is_apart, Refusals.pairs_fault}
use Rattle.passphrase_words.proofs.rules.check_pairs.Given as goal

-- the pairs that are left decide
abbrev pub invariant-loop-one : goal.invariant-loop-one
invariant-loop-one l =
    (list_all (is_apart (settings (map string_bytes l.words))) (pairs_of (drop l.one-index l.pairs))
    ≡ list_all (is_apart (settings (map string_bytes l.words))) (pairs_of l.pairs))
    × (pairs_fault (settings (map string_bytes l.words)) (pairs_of (drop l.one-index l.pairs))
    ≡ pairs_fault (settings (map string_bytes l.words)) (pairs_of l.pairs))

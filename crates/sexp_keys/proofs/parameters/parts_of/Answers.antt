use Rattle.std.proofs.{Common.{◌≡◌, true, refl, sym, ap, ◌∙◌, arith}, lemmas.List.length-map}
use Rattle.sexp_canonical.specs.View.{tree_of, trees}
use Rattle.sexp_keys.{specs.{Parameters.{are_public, are_private}, Named.private_count}, proofs.Parts.{counted_parts, trees_cut}}
use Rattle.sexp_keys.proofs.parameters.parts_of.Goals as goal

pub returns-then-parameters-count-clause-none : goal.returns-then-parameters-count-clause-none
returns-then-parameters-count-clause-none c public private parts =
    let n = counted_parts c.args.is_clear c.args.algorithm (trees c.args.parameters.now) public private parts in
    let long = length-map c.args.parameters.now tree_of in
    omega (arith, n.fits)

pub returns-then-not-are_public-clause-none : goal.returns-then-not-are_public-clause-none
returns-then-not-are_public-clause-none c public private parts =
    let ps = trees c.args.parameters.now in
    let n = counted_parts c.args.is_clear c.args.algorithm ps public private parts in
    let cut = trees_cut c.args.parameters.now c.split_at.result.0.now c.split_at.result.1.now (private_count c.args.is_clear c.args.algorithm ps) c.private_count-count.result
    ps public private n refl (sym c.private_count-count.ensures) c.split_at.ensures.front c.split_at.ensures.back in
    let passes : are_public c.args.algorithm (trees c.split_at.result.0.now) ≡ true = ap (are_public c.args.algorithm) cut.0 ∙ parts.are_public in
    cc

pub returns-then-not-are_private-clause-none : goal.returns-then-not-are_private-clause-none
returns-then-not-are_private-clause-none c public private parts =
    let ps = trees c.args.parameters.now in
    let n = counted_parts c.args.is_clear c.args.algorithm ps public private parts in
    let cut = trees_cut c.args.parameters.now c.split_at.result.0.now c.split_at.result.1.now (private_count c.args.is_clear c.args.algorithm ps) c.private_count-count.result
    ps public private n refl (sym c.private_count-count.ensures) c.split_at.ensures.front c.split_at.ensures.back in
    let passes : are_private c.args.is_clear c.args.algorithm (trees c.split_at.result.1.now) ≡ true = ap (are_private c.args.is_clear c.args.algorithm) cut.1 ∙ parts.are_private in
    cc

use Rattle.std.{proofs.{Common.{map, string_bytes, rules, arith}, lemmas.Grind.common_steps}, specs.Option.option_map}
use Rattle.passphrase_words.{specs.{Parts.settings, Texts.description_by}, proofs.{Sound.{pairs_first, alone_first, id_first}, LineParts.fits_from}}
use Rattle.passphrase_words.proofs.rules.task_from.Goals as goal

pub invariant_of-result : goal.invariant_of-result
invariant_of-result c =
    record {
      fits = fits_from c.in_ok-id.id.items c.in_ok-texts.texts.items (option_map (λ prompt. prompt.now) c.value_given-prompt.result) (description_by c.is_set.result c.in_ok-id.id.items c.in-Some.description.now)
          c.in_ok-id.ensures.read.1 c.in_ok-texts.ensures.texts c.in_ok-texts.ensures.short;
    }

pub returns-in_err-check_pairs-clause-told : goal.returns-in_err-check_pairs-clause-told
returns-in_err-check_pairs-clause-told c =
    let first = pairs_first (settings (map string_bytes c.args.words.now)) (map string_bytes c.args.operands.now) _ c.in_ok-check_each.ensures.told c.in_err-check_pairs.ensures.told in
    first_of (grind (arith, rules, first), grind (arith, common_steps, first))

pub returns-in_err-check_alone-clause-told : goal.returns-in_err-check_alone-clause-told
returns-in_err-check_alone-clause-told c =
    let first = alone_first (settings (map string_bytes c.args.words.now)) (map string_bytes c.args.operands.now) _ c.in_ok-check_each.ensures.told
    c.in_ok-check_pairs.ensures.told c.in_err-check_alone.ensures.told in
    first_of (grind (arith, rules, first), grind (arith, common_steps, first))

pub returns-in_err-id-clause-told : goal.returns-in_err-id-clause-told
returns-in_err-id-clause-told c =
    let first = id_first (settings (map string_bytes c.args.words.now)) (map string_bytes c.args.operands.now) c.in-Some.name.now _ c.in_ok-check_each.ensures.told
    c.in_ok-check_pairs.ensures.told c.in_ok-check_alone.ensures.told (first_of (search rules, grind (arith, common_steps))) c.in-Some.ensures.texts.0 c.in_err-id.ensures.told in
    first_of (grind (arith, rules, first), grind (arith, common_steps, first))

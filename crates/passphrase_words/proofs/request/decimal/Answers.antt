use Rattle.std.{proofs.{Common.{◌≡◌, ap, ◌∙◌, arith, rules}, lemmas.Grind.common_steps}, specs.Prelude.decimal}
use Rattle.assuan_text.specs.LineEnds.{has_lf}
use Rattle.passphrase_words.proofs.LineParts.{decimal_no_lf}
use Rattle.passphrase_words.proofs.request.decimal.Goals as goal

pub returns-clause-whole : goal.returns-clause-whole
returns-clause-whole c =
    let digits : c.try_extend_from_slice.new.self.items ≡ decimal c.args.number = first_of (search rules, grind (arith, common_steps)) in
    ap has_lf digits ∙ decimal_no_lf c.args.number (omega (arith, c.ranges.number.fits))

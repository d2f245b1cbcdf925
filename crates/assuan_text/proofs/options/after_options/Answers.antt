use Rattle.std.proofs.Common.{sym, ◌∙◌, arith}
use Rattle.assuan_text.{specs.Words.words, proofs.OptionLemmas.after_step}
use Rattle.assuan_text.proofs.options.after_options.Goals as goal

pub loop-after-preserved : goal.loop-after-preserved
loop-after-preserved c =
    let is = c.in-Some.ensures.words in
    record {
      same = sym (after_step _ (words c.in-Some.after.now) _ is.0 is.1) ∙ c.loop-after.invariant.same;
      shorter = omega (arith, c.in-Some.ensures.shorter, c.loop-after.invariant.shorter);
    }

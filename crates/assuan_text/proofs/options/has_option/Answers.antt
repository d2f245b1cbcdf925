use Rattle.std.proofs.Common.{◌||◌, sym, ap, ◌∙◌}
use Rattle.assuan_text.{specs.{Words.words, Options.{has_option, options_of}}, proofs.OptionLemmas.options_step}
use Rattle.assuan_text.proofs.options.has_option.Goals as goal

pub loop-option-preserved : goal.loop-option-preserved
loop-option-preserved c =
    let name = c.args.name.now in
    let more = words c.in-Some.after.now in
    let is = c.in-Some.ensures.words in
    sym (ap (has_option name) (options_step _ more _ is.0 is.1)
    ∙ ap (λ b. b || has_option name (options_of more)) (sym c.eq.ensures ∙ c.if-eq.false))
    ∙ c.loop-option.invariant

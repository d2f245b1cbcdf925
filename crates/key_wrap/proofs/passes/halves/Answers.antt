use Rattle.std.proofs.{Common.{◌∙◌, drop, arith, length-drop}, lemmas.List.take_all}
use Rattle.key_wrap.proofs.passes.halves.Goals as goal

pub returns-clause-right : goal.returns-clause-right
returns-clause-right c =
    c.copy_from_slice-2.ensures.after ∙ take_all 8 (drop 8 c.args.both.now) (omega (arith, length-drop 8 c.args.both.now, c.told-both))

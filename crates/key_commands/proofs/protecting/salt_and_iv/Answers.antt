use Rattle.std.proofs.{Common.{◌≡◌, take, drop, arith, ◌∙◌}, lemmas.Grind.common_steps}
use Rattle.key_commands.proofs.protecting.salt_and_iv.Goals as goal

pub returns-clause-iv : goal.returns-clause-iv
returns-clause-iv c =
    let after : c.copy_from_slice-2.new.self ≡ take 12 (drop 8 c.args.drawn.now) = c.copy_from_slice-2.ensures.after in
    after ∙ grind (arith, common_steps)

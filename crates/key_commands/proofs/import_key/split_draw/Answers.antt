use Rattle.std.proofs.{Common.{◌≡◌, take, drop, arith, ◌∙◌}, lemmas.Grind.common_steps}
use Rattle.key_commands.proofs.import_key.split_draw.Goals as goal

pub returns-clause-nonce : goal.returns-clause-nonce
returns-clause-nonce c =
    let after : c.copy_from_slice-3.new.self ≡ take 12 (drop 20 c.args.drawn.now) = c.copy_from_slice-3.ensures.after in
    after ∙ grind (arith, common_steps)

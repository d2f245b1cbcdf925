use Rattle.std.proofs.Common.{ap, ◌∙◌, ◌≡◌}
use Rattle.aes_modes.specs.Ocb.{double, l_star, l_dollar, l_mask}
use Rattle.aes_modes.proofs.masks.Masks.new.Goals as goal

pub returns : goal.returns
unfolding l_star l_dollar l_mask
returns c =
    let star : c.encrypt-star.result ≡ l_star c.args.cipher.now = c.encrypt-star.ensures in
    let dollar : c.double-dollar.result ≡ l_dollar c.args.cipher.now = c.double-dollar.ensures ∙ ap double star in
    let first : c.double-first.result ≡ l_mask c.args.cipher.now 0 = c.double-first.ensures ∙ ap double dollar in
    cc

use Rattle.std.proofs.Common.{◌≡◌, ℕ, List}
use Rattle.aes_modes.specs.{Ocb.l_mask, Masks.masks_of}
use Rattle.aes_modes.proofs.masks.Masks.of_block.Given as goal

abbrev pub invariant-loop : goal.invariant-loop
invariant-loop l = (key : List ℕ) → l.self ≡ masks_of key → l.mask ≡ l_mask key l.counter

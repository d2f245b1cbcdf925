-- Private: what the code of OCB keeps beside the key.
use Rattle.std.specs.Prelude.{ℕ, List}
use Rattle.aes_block.specs.Aes.{encrypted, decrypted}
use Rattle.aes_modes.specs.{Ocb.{l_star, l_dollar, l_mask}, declared.{masks.Masks.Masks, ocb.Direction.{Direction, TheVariants.{Encrypt, Decrypt}}}}

-- the masks of a key from which the others are made
abbrev pub masks_of : List ℕ → Masks
masks_of key = record { star = l_star key; dollar = l_dollar key; first = l_mask key 0 }

-- what is done with a block between its offsets
abbrev pub cipher_of : Direction → List ℕ → List ℕ → List ℕ
cipher_of Encrypt key = encrypted key
cipher_of Decrypt key = decrypted key

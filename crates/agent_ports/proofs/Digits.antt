-- Uppercase hexadecimal digits, from lowercase ones.
use Rattle.std.{proofs.{Common.{◌≡◌, ℕ, ◌/◌, ◌%◌, List, [], ◌∷◌, slice_index, map, refl, sym, ap₂, ◌∙◌}, Math.ListN.get_or-map}, specs.Char.to_ascii_uppercase}
use Rattle.hex.specs.Hex.{encode_with, encode_lower, encode_upper, lower_digits, upper_digits}

upper_digit : (n : ℕ) → to_ascii_uppercase (slice_index lower_digits n) ≡ slice_index upper_digits n
upper_digit n = sym (get_or-map to_ascii_uppercase lower_digits n 0) ∙ refl

pub map_encode_lower : (bytes : List ℕ) → map to_ascii_uppercase (encode_lower bytes) ≡ encode_upper bytes
unfolding encode_with
map_encode_lower [] = refl
map_encode_lower (b ∷ bytes) = ap₂ (λ (d : ℕ) (ds : List ℕ). d ∷ ds) (upper_digit (b / 16)) (ap₂ (λ (d : ℕ) (ds : List ℕ). d ∷ ds) (upper_digit (b % 16)) (map_encode_lower bytes))

-- Bytes that a buffer takes one part after the other.
use Rattle.std.{proofs.{Common.{◌≡◌, ◌<◌, ℕ, Bool, true, false, refl, [], List, ◌++◌, length, take, get_or, ap, ◌∙◌, arith, length-append, append_assoc, Ok, Err, Result}, lemmas.List.Folds.length-flat_map-take}, specs.List.flat_map}
use Rattle.passphrase_words.specs.{Parts.{HasPushed, default_front}, Texts.{description_by, description_or, escape_of, word_of}}

-- two parts are one
pub pushed_both : {E : Type 0} (one other before between after : List ℕ) (result : Result (Unit {0}) E) → between ≡ before ++ one → HasPushed other between result after
    → HasPushed (one ++ other) before result after
pushed_both one other before between after (Ok done) first pushed = record {
  full = tt;
  taken = pushed.taken ∙ ap (λ (b : List ℕ). b ++ other) first ∙ append_assoc before one other;
}
pushed_both one other before between after (Err full) first pushed = record {
  full = omega (arith, pushed.full, ap (λ (b : List ℕ). length b) first, length-append before one, length-append one other);
  taken = tt;
}

-- where there is no room for the first part, there is none for both
pub first_is_full : {E : Type 0} (one other before after : List ℕ) (full : E) → HasPushed {E = E} one before (Err full) after → HasPushed {E = E} (one ++ other) before (Err full) after
first_is_full one other before after full pushed = record {
  full = omega (arith, pushed.full, length-append one other);
  taken = tt;
}

-- where there is no room for the word of one byte, there is none for those of all
pub some_is_full : {E : Type 0} (word : ℕ → List ℕ) (bytes before between after : List ℕ) (place : ℕ) (full : E) → place < length bytes
    → between ≡ before ++ flat_map word (take place bytes) → HasPushed {E = E} (word (get_or bytes place 0)) between (Err full) after
    → HasPushed {E = E} (flat_map word bytes) before (Err full) after
some_is_full word bytes before between after place full within so_far pushed = record {
  full = omega (arith, pushed.full, ap (λ (b : List ℕ). length b) so_far, length-append before (flat_map word (take place bytes)), length-flat_map-take word bytes place 0 within);
  taken = tt;
}

-- the word of a description where none is given
pub default_is : (is_new : Bool) (id : List ℕ) → word_of (description_or id (description_by is_new id [])) ≡ default_front is_new ++ flat_map escape_of id
default_is true id = refl
default_is false id = refl

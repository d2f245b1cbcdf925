-- Lists of a known length, written out.
use Rattle.std.{proofs.{Common.{◌≡◌, ℕ, List, length, slice_index, map, refl, subst, sym}, lemmas.List.FromFn.fill_by_all}, specs.List.range_with_len}
use Rattle.aes_block.specs.Aes.{shift_rows, inv_shift_rows}

-- a list of n elements is its elements, one by one
pub literal : (n : ℕ) (s : List ℕ) → length s ≡ n → s ≡ map (slice_index s) (range_with_len 0 n)
literal n s h = fill_by_all (slice_index s) s n 0 h (λ k _. refl)

pub inv_shift_rows_shift_rows : (s : List ℕ) → length s ≡ 16 → inv_shift_rows (shift_rows s) ≡ s
unfolding shift_rows inv_shift_rows
inv_shift_rows_shift_rows s h =
    subst (λ (t : List ℕ). inv_shift_rows (shift_rows t) ≡ t) (sym (literal 16 s h)) refl

pub shift_rows_inv_shift_rows : (s : List ℕ) → length s ≡ 16 → shift_rows (inv_shift_rows s) ≡ s
unfolding shift_rows inv_shift_rows
shift_rows_inv_shift_rows s h =
    subst (λ (t : List ℕ). shift_rows (inv_shift_rows t) ≡ t) (sym (literal 16 s h)) refl

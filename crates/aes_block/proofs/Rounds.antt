-- The steps of the loops of `encrypt` and `decrypt`.
use Rattle.std.proofs.{Common.{◌≡◌, ℕ, suc, ◌+◌, ◌-◌, ◌<◌, ◌≤◌, List, [], zero, length, get_or, refl, ap, ◌∙◌, sym, arith}, lemmas.List.length-map}
use Rattle.aes_block.specs.{Field.inv_sub_byte, Columns.bytes_of, Aes.{xor_of, sub_bytes, inv_sub_bytes, shift_rows, inv_shift_rows, mix_columns, inv_mix_columns, round_key, rounds, inv_rounds, decrypted}}
use Rattle.aes_block.proofs.{Columns.inv_mix_columns_xor, Undone.length_round_key}

pub key_at : (keys : List (List ℕ)) (key : List ℕ) (r : ℕ)
    → ((r : ℕ) → r < 11 → bytes_of (get_or keys r []) ≡ round_key (bytes_of (get_or keys 0 [])) r)
    → bytes_of (get_or keys 0 []) ≡ key → r < 11 → bytes_of (get_or keys r []) ≡ round_key key r
key_at keys key r each v h = each r h ∙ ap (λ k. round_key k r) v

pub unmixed_key_at : (keys : List (List ℕ)) (first key : List ℕ) (r : ℕ)
    → ((r : ℕ) → r < 9 → bytes_of (get_or keys r []) ≡ inv_mix_columns (round_key first (r + 1)))
    → first ≡ key → r < 9 → bytes_of (get_or keys r []) ≡ inv_mix_columns (round_key key (r + 1))
unmixed_key_at keys first key r each v h = each r h ∙ ap (λ k. inv_mix_columns (round_key k (r + 1))) v

pub rounds_more : (key block : List ℕ) (n : ℕ) → 1 ≤ n
    → rounds key block (n + 1 - 1) ≡ xor_of (mix_columns (shift_rows (sub_bytes (rounds key block (n - 1))))) (round_key key n)
unfolding rounds
rounds_more key block n h =
    let e : n + 1 - 1 ≡ suc (n - 1) = omega arith in
    let f : suc (n - 1) ≡ n = omega arith in
    ap (rounds key block) e ∙ ap (λ r. xor_of (mix_columns (shift_rows (sub_bytes (rounds key block (n - 1))))) (round_key key r)) f

-- ---- the equivalent inverse cipher: MixColumns is undone before the key is added, and so the key is unmixed too

length_inv_shift_rows : (s : List ℕ) → length (inv_shift_rows s) ≡ 16
unfolding inv_shift_rows
length_inv_shift_rows s = refl

abbrev pub restored_of : List ℕ → List ℕ
restored_of s = inv_sub_bytes (inv_shift_rows s)

length_restored_of : (s : List ℕ) → length (restored_of s) ≡ 16
length_restored_of s = length-map (inv_shift_rows s) inv_sub_byte ∙ length_inv_shift_rows s

pub inv_rounds_less : (key s : List ℕ) (n : ℕ) → 1 ≤ n → length key ≡ 16
    → inv_rounds key (restored_of s) n
    ≡ inv_rounds key (restored_of (xor_of (inv_mix_columns (restored_of s)) (inv_mix_columns (round_key key n)))) (n - 1)
unfolding inv_rounds
inv_rounds_less key s zero h l = absurd (omega arith)
inv_rounds_less key s (suc n) h l =
    let f : suc n - 1 ≡ n = omega arith in
    ap (λ t. inv_rounds key (restored_of t) n) (inv_mix_columns_xor (restored_of s) (round_key key (suc n)) (length_restored_of s) (length_round_key key l (suc n)))
    ∙ ap (inv_rounds key (restored_of (xor_of (inv_mix_columns (restored_of s)) (inv_mix_columns (round_key key (suc n)))))) (sym f)

pub decrypted_first : (key block first : List ℕ) → first ≡ xor_of block (round_key key 10) → decrypted key block ≡ inv_rounds key (restored_of first) 9
unfolding decrypted
decrypted_first key block first e = ap (λ s. inv_rounds key (restored_of s) 9) (sym e)

-- the whole decryption, from its last state
pub decrypted_last : (key block last : List ℕ) (n : ℕ) → n ≡ 0
    → decrypted key block ≡ inv_rounds key (restored_of last) n → xor_of (restored_of last) (round_key key 0) ≡ decrypted key block
unfolding inv_rounds
decrypted_last key block last n z h = sym (h ∙ ap (inv_rounds key (restored_of last)) z)

-- Unwrapping undoes wrapping.
use Rattle.std.proofs.Common.{◌≡◌, ℕ, zero, suc, ◌+◌, ◌-◌, ◌*◌, ◌/◌, ◌%◌, ◌<◌, ◌≤◌, true, List, [], ◌∷◌, ◌++◌, length, slice_index, get_or, take, drop, replicate, refl, ap, ap₂, ◌∙◌, sym, arith, lit<, length-append}
use Rattle.std.{proofs.lemmas.{List.{take_at, drop_at, take-append-drop}, Bool.{and_from, eq-eqb, le-leb}}, specs.{Int.{w64, to_be_bytes, byte_at, bytes_high_first}, List.concat, Simd.first_chunks}}
use Rattle.aes_block.specs.Aes.{IsBytes, xor_of, encrypted, decrypted}
use Rattle.aes_block.proofs.{Blocks.{AreBlocks, IsBytes_take, IsBytes_drop, IsBytes_append, concat_first_chunks, first_chunks_concat, length_concat, first_chunks_blocks, length_first_chunks}, XorLemmas.xor_of_twice}
use Rattle.aes_block.proofs.Undone.{decrypted_encrypted, encrypted_bytes, xor_of_bytes}
use Rattle.key_wrap.specs.KeyWrap.{Registers, initial_value, wrap_pass, unwrap_pass, wrap_passes, unwrap_passes, wrapped_of, unwrapped_of, is_wrapped_length}

-- each register is 8 bytes
pub record AreRegisters (s : Registers) : Type 0 where
  pub check : IsBytes 8 s.check
  pub blocks : AreBlocks 8 s.blocks

byte_at_small : (k n : ℕ) → byte_at k n < 256
byte_at_small zero n = omega arith
byte_at_small (suc k) n = omega arith

high_first_small : (k n i : ℕ) → get_or (bytes_high_first k n) i 0 < 256
high_first_small zero n i = lit< tt
high_first_small (suc k) n zero = byte_at_small k n
high_first_small (suc k) n (suc i) = high_first_small k n i

number_bytes : (t : ℕ) → IsBytes 8 (to_be_bytes w64 t)
number_bytes t = record { len = refl; small = high_first_small 8 t }

-- what one step makes of the registers A and R
both_bytes : (key a r : List ℕ) → IsBytes 16 key → IsBytes 8 a → IsBytes 8 r → IsBytes 16 (encrypted key (a ++ r))
both_bytes key a r h x y = encrypted_bytes key (a ++ r) h (IsBytes_append 8 8 a r x y)

next_check_bytes : (b : List ℕ) (t : ℕ) → IsBytes 16 b → IsBytes 8 (xor_of (take 8 b) (to_be_bytes w64 t))
next_check_bytes b t h = xor_of_bytes 8 _ _ (IsBytes_take 8 16 b (omega arith) h) (number_bytes t)

wrap_pass_registers : (key a : List ℕ) (t : ℕ) (rs : List (List ℕ)) → IsBytes 16 key → IsBytes 8 a → AreBlocks 8 rs → AreRegisters (wrap_pass key a t rs)
unfolding wrap_pass
wrap_pass_registers key a t [] h x y = record { check = x; blocks = tt }
wrap_pass_registers key a t (r ∷ rs) h x y =
    let b = both_bytes key a r h x y.0 in
    let rest = wrap_pass_registers key (xor_of (take 8 (encrypted key (a ++ r))) (to_be_bytes w64 t)) (t + 1) rs h (next_check_bytes (encrypted key (a ++ r)) t b) y.1 in
    record { check = rest.check; blocks = (IsBytes_drop 8 16 8 _ refl b, rest.blocks) }

length_wrap_pass : (key a : List ℕ) (t : ℕ) (rs : List (List ℕ)) → length (wrap_pass key a t rs).blocks ≡ length rs
unfolding wrap_pass
length_wrap_pass key a t [] = refl
length_wrap_pass key a t (r ∷ rs) = ap suc (length_wrap_pass key (xor_of (take 8 (encrypted key (a ++ r))) (to_be_bytes w64 t)) (t + 1) rs)

unwrap_pass_wrap_pass : (key a : List ℕ) (t : ℕ) (rs : List (List ℕ)) → IsBytes 16 key → IsBytes 8 a → AreBlocks 8 rs
    → let s = wrap_pass key a t rs in unwrap_pass key s.check t s.blocks ≡ record { check = a; blocks = rs }
unfolding wrap_pass unwrap_pass
unwrap_pass_wrap_pass key a t [] h x y = refl
unwrap_pass_wrap_pass key a t (r ∷ rs) h x y =
    let b = encrypted key (a ++ r) in
    let is_b = both_bytes key a r h x y.0 in
    let number = to_be_bytes w64 t in
    let rest = unwrap_pass_wrap_pass key (xor_of (take 8 b) number) (t + 1) rs h (next_check_bytes b t is_b) y.1 in
    let left = IsBytes_take 8 16 b (omega arith) is_b in
    let back : xor_of (xor_of (take 8 b) number) number ++ drop 8 b ≡ b =
    ap (λ c. c ++ drop 8 b) (xor_of_twice (take 8 b) number (left.len ∙ sym (number_bytes t).len)) ∙ take-append-drop 8 b in
    let opened : decrypted key (xor_of (xor_of (take 8 b) number) number ++ drop 8 b) ≡ a ++ r =
    ap (decrypted key) back ∙ decrypted_encrypted key (a ++ r) h (IsBytes_append 8 8 a r x y.0) in
    let f : Registers → Registers = λ s.
    let o = decrypted key (xor_of s.check number ++ drop 8 b) in
    record { check = take 8 o; blocks = drop 8 o ∷ s.blocks } in
    let g : List ℕ → Registers = λ o. record { check = take 8 o; blocks = drop 8 o ∷ rs } in
    let e : List ℕ → List ℕ → Registers = λ c o. record { check = c; blocks = o ∷ rs } in
    ap f rest ∙ ap g opened ∙ ap₂ e (take_at a r 8 x.len) (drop_at a r 8 x.len)

wrap_passes_registers : (key : List ℕ) (n k : ℕ) (s : Registers) → IsBytes 16 key → AreRegisters s → AreRegisters (wrap_passes key n k s)
unfolding wrap_passes
wrap_passes_registers key n zero s h r = r
wrap_passes_registers key n (suc j) s h r =
    let before = wrap_passes_registers key n j s h r in
    wrap_pass_registers key (wrap_passes key n j s).check (n * j + 1) (wrap_passes key n j s).blocks h before.check before.blocks

length_wrap_passes : (key : List ℕ) (n k : ℕ) (s : Registers) → length (wrap_passes key n k s).blocks ≡ length s.blocks
unfolding wrap_passes
length_wrap_passes key n zero s = refl
length_wrap_passes key n (suc j) s = length_wrap_pass key _ (n * j + 1) _ ∙ length_wrap_passes key n j s

unwrap_passes_wrap_passes : (key : List ℕ) (n k : ℕ) (s : Registers) → IsBytes 16 key → AreRegisters s → unwrap_passes key n k (wrap_passes key n k s) ≡ s
unfolding wrap_passes unwrap_passes
unwrap_passes_wrap_passes key n zero s h r = refl
unwrap_passes_wrap_passes key n (suc j) s h r =
    let w = wrap_passes key n j s in
    let before = wrap_passes_registers key n j s h r in
    ap (unwrap_passes key n j) (unwrap_pass_wrap_pass key w.check (n * j + 1) w.blocks h before.check before.blocks)
    ∙ unwrap_passes_wrap_passes key n j s h r

-- ---- bytes

replicate_small : (n k : ℕ) → slice_index (replicate n 0xA6) k < 256
replicate_small zero k = lit< tt
replicate_small (suc n) zero = lit< tt
replicate_small (suc n) (suc k) = replicate_small n k

initial_bytes : IsBytes 8 initial_value
initial_bytes = record { len = refl; small = replicate_small 8 }

-- what is known of the bytes of a key
pub record IsPlain (plain : List ℕ) : Type 0 where
  pub bytes : IsBytes (length plain) plain
  pub whole : length plain % 8 ≡ 0
  pub least : 16 ≤ length plain
  pub most : length plain ≤ 65536

multiple : (plain : List ℕ) → IsPlain plain → length plain ≡ 8 * (length plain / 8)
multiple plain p = omega (arith, p.whole)

-- what a wrapping begins with
abbrev pub start : List ℕ → Registers
start plain = record { check = initial_value; blocks = first_chunks 8 (length plain / 8) plain }

-- what it ends with
ending : List ℕ → List ℕ → Registers
ending key plain = wrap_passes key (length plain / 8) 6 (start plain)

start_registers : (plain : List ℕ) → IsPlain plain → AreRegisters (start plain)
start_registers plain p = record {
  check = initial_bytes;
  blocks = first_chunks_blocks 8 (length plain / 8) plain (record { len = multiple plain p; small = p.bytes.small });
}

ending_registers : (key plain : List ℕ) → IsBytes 16 key → IsPlain plain → AreRegisters (ending key plain)
unfolding ending
ending_registers key plain h p = wrap_passes_registers key (length plain / 8) 6 (start plain) h (start_registers plain p)

length_ending : (key plain : List ℕ) → length (ending key plain).blocks ≡ length plain / 8
unfolding ending
length_ending key plain =
    length_wrap_passes key (length plain / 8) 6 (start plain) ∙ length_first_chunks 8 (length plain / 8) plain

wrapped_of_ending : (key plain : List ℕ) → wrapped_of key plain ≡ (ending key plain).check ++ concat (ending key plain).blocks
unfolding wrapped_of ending
wrapped_of_ending key plain = refl

length_wrapped_of : (key plain : List ℕ) → IsBytes 16 key → IsPlain plain → length (wrapped_of key plain) ≡ 8 + length plain
length_wrapped_of key plain h p =
    let s = ending key plain in
    let r = ending_registers key plain h p in
    let long = length-append s.check (concat s.blocks) in
    ap length (wrapped_of_ending key plain)
    ∙ omega (arith, long, r.check.len, length_concat 8 s.blocks r.blocks, length_ending key plain, multiple plain p)

is_wrapped_length_from : (n : ℕ) → n % 8 ≡ 0 → 24 ≤ n → n ≤ 65544 → is_wrapped_length n ≡ true
is_wrapped_length_from n whole least most =
    and_from _ _ (and_from _ _ (eq-eqb (n % 8) 0 whole) (le-leb 24 n least)) (le-leb n 65544 most)

pub is_wrapped_length_wrapped_of : (key plain : List ℕ) → IsBytes 16 key → IsPlain plain
    → is_wrapped_length (length (wrapped_of key plain)) ≡ true
is_wrapped_length_wrapped_of key plain h p =
    let long = length_wrapped_of key plain h p in
    is_wrapped_length_from (length (wrapped_of key plain))
    (omega (arith, long, p.whole)) (omega (arith, long, p.least)) (omega (arith, long, p.most))

undone : (key plain : List ℕ) → IsBytes 16 key → IsPlain plain
    → unwrap_passes key (length plain / 8) 6 (ending key plain) ≡ start plain
unfolding ending
undone key plain h p = unwrap_passes_wrap_passes key (length plain / 8) 6 (start plain) h (start_registers plain p)

pub unwrapped_of_wrapped_of : (key plain : List ℕ) → IsBytes 16 key → IsPlain plain → unwrapped_of key (wrapped_of key plain) ≡ start plain
unfolding unwrapped_of
unwrapped_of_wrapped_of key plain h p =
    let n = length plain / 8 in
    let s = ending key plain in
    let r = ending_registers key plain h p in
    let count : length (wrapped_of key plain) / 8 - 1 ≡ n = omega (arith, length_wrapped_of key plain h p) in
    let first : take 8 (wrapped_of key plain) ≡ s.check =
    ap (take 8) (wrapped_of_ending key plain) ∙ take_at s.check (concat s.blocks) 8 r.check.len in
    let rest : drop 8 (wrapped_of key plain) ≡ concat s.blocks =
    ap (drop 8) (wrapped_of_ending key plain) ∙ drop_at s.check (concat s.blocks) 8 r.check.len in
    let blocks : first_chunks 8 n (concat s.blocks) ≡ s.blocks =
    ap (λ k. first_chunks 8 k (concat s.blocks)) (sym (length_ending key plain)) ∙ first_chunks_concat 8 s.blocks r.blocks in
    let f : ℕ → List ℕ → List ℕ → Registers = λ k a bytes. unwrap_passes key k 6 (record { check = a; blocks = first_chunks 8 k bytes }) in
    let g : List (List ℕ) → Registers = λ bs. unwrap_passes key n 6 (record { check = s.check; blocks = bs }) in
    ap (λ k. f k (take 8 (wrapped_of key plain)) (drop 8 (wrapped_of key plain))) count
    ∙ ap₂ (f n) first rest
    ∙ ap g blocks
    ∙ undone key plain h p

-- the bytes of a key, from its blocks
pub concat_start : (plain : List ℕ) → IsPlain plain → concat (start plain).blocks ≡ plain
concat_start plain p = concat_first_chunks 8 (length plain / 8) plain (multiple plain p)

-- Bytes cut into blocks of one size, and joined again.
use Rattle.std.proofs.{Common.{◌≡◌, ℕ, zero, suc, ◌+◌, ◌-◌, ◌*◌, ◌<◌, ◌≤◌, List, [], ◌∷◌, ◌++◌, length, slice_index, take, drop, refl, ap, ap₂, ◌∙◌, arith, inl, inr, lit<, length-append, length-take, length-drop}, lemmas.Bool.cases_lt}
use Rattle.std.{proofs.lemmas.List.{take_at, drop_at, take-append-drop, get_or-take, get_or-drop, get_or_past, get_or_append_left, get_or-append_right}, specs.{List.concat, Simd.first_chunks}}
use Rattle.aes_block.specs.Aes.{IsBytes}

-- ---- parts of lists of bytes

small_take : (n : ℕ) (s : List ℕ) → ((k : ℕ) → slice_index s k < 256) → (k : ℕ) → slice_index (take n s) k < 256
small_take n s small k = elim (cases_lt k n) [
  | inl below ↦ rw (get_or-take n s k 0 below) (small k)
  | inr past ↦ rw (get_or_past (take n s) k 0 (omega (arith, length-take n s))) (lit< tt)
]

pub IsBytes_take : (m n : ℕ) (s : List ℕ) → m ≤ n → IsBytes n s → IsBytes m (take m s)
IsBytes_take m n s le h = record { len = omega (arith, length-take m s, h.len); small = small_take m s h.small }

pub IsBytes_drop : (m n k : ℕ) (s : List ℕ) → n ≡ m + k → IsBytes n s → IsBytes k (drop m s)
IsBytes_drop m n k s e h = record { len = omega (arith, length-drop m s, h.len); small = λ i. rw get_or-drop (h.small (m + i)) }

pub IsBytes_append : (m n : ℕ) (a b : List ℕ) → IsBytes m a → IsBytes n b → IsBytes (m + n) (a ++ b)
IsBytes_append m n a b h k = record {
  len = omega (arith, length-append a b, h.len, k.len);
  small = λ i. elim (cases_lt i (length a)) [
    | inl below ↦ rw (get_or_append_left a b 0 i below) (h.small i)
    | inr past ↦ rw (get_or-append_right a b (length a) i 0 refl past) (k.small (i - length a))
  ];
}

-- ---- blocks

-- each is a list of so many bytes
abbrev pub AreBlocks : ℕ → List (List ℕ) → Type 0
AreBlocks size [] = Unit {0}
AreBlocks size (b ∷ bs) = IsBytes size b × AreBlocks size bs

pub concat_first_chunks : (size n : ℕ) (s : List ℕ) → length s ≡ size * n → concat (first_chunks size n s) ≡ s
concat_first_chunks size zero [] h = refl
concat_first_chunks size zero (x ∷ xs) h = absurd (omega arith)
concat_first_chunks size (suc n) s h =
    ap (λ t. take size s ++ t) (concat_first_chunks size n (drop size s) (omega (arith, length-drop size s)))
    ∙ take-append-drop size s

pub length_concat : (size : ℕ) (bs : List (List ℕ)) → AreBlocks size bs → length (concat bs) ≡ size * length bs
length_concat size [] h = omega arith
length_concat size (b ∷ bs) h = omega (arith, length-append b (concat bs), h.0.len, length_concat size bs h.1)

pub first_chunks_concat : (size : ℕ) (bs : List (List ℕ)) → AreBlocks size bs → first_chunks size (length bs) (concat bs) ≡ bs
first_chunks_concat size [] h = refl
first_chunks_concat size (b ∷ bs) h =
    ap₂ ◌∷◌ (take_at b (concat bs) size h.0.len)
    (ap (first_chunks size (length bs)) (drop_at b (concat bs) size h.0.len) ∙ first_chunks_concat size bs h.1)

pub first_chunks_blocks : (size n : ℕ) (s : List ℕ) → IsBytes (size * n) s → AreBlocks size (first_chunks size n s)
first_chunks_blocks size zero s h = tt
first_chunks_blocks size (suc n) s h = (
  IsBytes_take size (size * suc n) s (omega arith) h,
  first_chunks_blocks size n (drop size s) (IsBytes_drop size (size * suc n) (size * n) s (omega arith) h),
)

pub length_first_chunks : (size n : ℕ) (s : List ℕ) → length (first_chunks size n s) ≡ n
length_first_chunks size zero s = refl
length_first_chunks size (suc n) s = ap suc (length_first_chunks size n (drop size s))

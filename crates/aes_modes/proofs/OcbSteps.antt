-- The loops over the blocks of OCB, step by step.
use Rattle.std.proofs.Common.{◌≡◌, ℕ, suc, ◌+◌, ◌-◌, ◌*◌, ◌/◌, ◌<◌, ◌≤◌, List, [], ◌∷◌, ◌++◌, length, get_or, set, map, take, drop, refl, ap, ap₂, ◌∙◌, sym, arith, append_assoc, length-append, length-drop, add-one}
use Rattle.std.{proofs.{lemmas.List.{take-append-drop, drop-drop, take_all, drop_all, take_at, drop_at, append-nil, drop-replicate, set_at}, Math.Seq.drop-cons}, specs.{Prelude.{bit_xor, replicate}, Int.{w64, trailing_zeros}, List.concat}}
use Rattle.aes_block.{specs.Aes.{IsBytes, xor_of, encrypted}, proofs.XorLemmas.Added}
use Rattle.aes_modes.specs.{Cbc.blocks_of, Ocb.{zeros, l_star, l_mask, offset, offset_after, last_offset, partial_block, masked, masked_blocks, sum_from, hashed_blocks, padded, checksum, hash, l_dollar, first_offset, ocb_tag}}
use Rattle.aes_modes.proofs.Chains.{IsPut, chain_more, blocks_of_next, blocks_of_none}

pub offset_more : (key first now next mask : List ℕ) (i : ℕ) → now ≡ offset key first i → next ≡ xor_of now mask
    → mask ≡ l_mask key (trailing_zeros w64 (i + 1)) → next ≡ offset key first (i + 1)
unfolding offset
offset_more key first now next mask i e n m =
    n ∙ ap₂ xor_of e m ∙ ap (offset key first) (sym (add-one i))

-- ---- blocks that are masked in their place

-- the blocks of s after the first i, masked, and what follows them
abbrev pub masking : (List ℕ → List ℕ) → List ℕ → List ℕ → ℕ → List ℕ → List ℕ
masking f key first i s = concat (masked_blocks f key first i (blocks_of s)) ++ partial_block s

partial_block_next : (s : List ℕ) → 16 ≤ length s → partial_block s ≡ partial_block (drop 16 s)
partial_block_next s h =
    let e : 16 * (length s / 16) ≡ 16 + 16 * (length (drop 16 s) / 16) = omega (arith, length-drop 16 s) in
    ap (λ n. drop n s) e ∙ sym (drop-drop (16 * (length (drop 16 s) / 16)) 16 s)

masking_next : (f : List ℕ → List ℕ) (key first : List ℕ) (i : ℕ) (s : List ℕ) → 16 ≤ length s
    → let o = offset key first (i + 1) in
    masking f key first i s ≡ xor_of (f (xor_of (take 16 s) o)) o ++ masking f key first (i + 1) (drop 16 s)
unfolding masked_blocks
masking_next f key first i s h =
    let o = offset key first (i + 1) in
    ap₂ (λ bs r. concat (masked_blocks f key first i bs) ++ r) (blocks_of_next s h) (partial_block_next s h)
    ∙ append_assoc (xor_of (f (xor_of (take 16 s) o)) o) (concat (masked_blocks f key first (i + 1) (blocks_of (drop 16 s)))) (partial_block (drop 16 s))

masking_none : (f : List ℕ → List ℕ) (key first : List ℕ) (i : ℕ) (s : List ℕ) → length s < 16 → masking f key first i s ≡ s
unfolding masked_blocks
masking_none f key first i s h =
    let e : 16 * (length s / 16) ≡ 0 = omega arith in
    ap (λ bs. concat (masked_blocks f key first i bs) ++ partial_block s) (blocks_of_none s h) ∙ ap (λ n. drop n s) e

-- i blocks of before are masked in now, and o is the offset of the last of them
pub record Masking (f : List ℕ → List ℕ) (key first o now before : List ℕ) (i : ℕ) : Type 0 where
  pub done : take (16 * i) now ++ masking f key first i (drop (16 * i) now) ≡ masking f key first 0 before
  pub offset : o ≡ offset key first i
  pub old : IsBytes (length before) before

pub mask_none : (f : List ℕ → List ℕ) (key first s : List ℕ) → ((k : ℕ) → get_or s k 0 < 256) → Masking f key first first s s 0
unfolding offset
mask_none f key first s small = record { done = refl; offset = refl; old = record { len = refl; small = small } }

pub mask_more : (f : List ℕ → List ℕ) (key first o s old mask next c now : List ℕ) (i : ℕ) → IsPut s c now (16 * i)
    → Masking f key first o s old i → mask ≡ l_mask key (trailing_zeros w64 (i + 1)) → next ≡ xor_of o mask
    → c ≡ xor_of (f (xor_of (take 16 (drop (16 * i) s)) next)) next
    → Masking f key first next now old (i + 1)
mask_more f key first o s old mask next c now i h m l n e =
    let at = offset_more key first o next mask i m.offset n l in
    let room : 16 ≤ length (drop (16 * i) s) = omega (arith, length-drop (16 * i) s, h.fits) in
    let same = e ∙ ap (λ o. xor_of (f (xor_of (take 16 (drop (16 * i) s)) o)) o) at in
    record {
      done = chain_more (masking f key first i) (masking f key first (i + 1)) s c now (masking f key first 0 old) i h
          (masking_next f key first i (drop (16 * i) s) room ∙ ap (λ x. x ++ masking f key first (i + 1) (drop 16 (drop (16 * i) s))) (sym same))
          m.done;
      offset = at;
      old = m.old;
    }

pub masked_at_end : (f : List ℕ → List ℕ) (key first o s old : List ℕ) (i : ℕ) → length s < 16 * i + 16 → Masking f key first o s old i
    → s ≡ masking f key first 0 old
masked_at_end f key first o s old i h m =
    sym (take-append-drop (16 * i) s)
    ∙ ap (λ t. take (16 * i) s ++ t) (sym (masking_none f key first i (drop (16 * i) s) (omega (arith, length-drop (16 * i) s))))
    ∙ m.done

-- ---- the rest

xor_of_shorter : (s a b : List ℕ) → length s ≡ length a → length a ≤ length b
    → ((k : ℕ) → k < length a → get_or s k 0 ≡ bit_xor (get_or a k 0) (get_or b k 0)) → s ≡ xor_of a b
xor_of_shorter [] [] b h le each = refl
xor_of_shorter (z ∷ zs) [] b h le each = absurd (omega arith)
xor_of_shorter [] (x ∷ xs) b h le each = absurd (omega arith)
xor_of_shorter (z ∷ zs) (x ∷ xs) [] h le each = absurd (omega arith)
xor_of_shorter (z ∷ zs) (x ∷ xs) (y ∷ ys) h le each =
    ap₂ ◌∷◌ (each 0 (omega arith)) (xor_of_shorter zs xs ys (cc) (omega arith) (λ i lt. each (suc i) (omega arith)))

pub added_is_xor : (left right sum : List ℕ) (i : ℕ) → Added left right sum i → length sum ≤ i → length left ≤ length right → sum ≡ xor_of left right
added_is_xor left right sum i h all le =
    xor_of_shorter sum left right h.len le (λ k lt. h.done k (omega (arith, h.len)))

pub offset_after_none : (key before rest : List ℕ) → length rest ≡ 0 → before ≡ offset_after key before rest
unfolding offset_after
offset_after_none key before [] h = refl
offset_after_none key before (x ∷ xs) h = absurd (omega arith)

pub offset_after_some : (key before rest : List ℕ) → 0 < length rest → xor_of before (l_star key) ≡ offset_after key before rest
unfolding offset_after
offset_after_some key before [] h = absurd (omega arith)
offset_after_some key before (x ∷ xs) h = refl

pub rest_none : (key before s : List ℕ) → length s / 16 * 16 ≡ length s
    → s ≡ take (16 * (length s / 16)) s ++ xor_of (partial_block s) (encrypted key (offset_after key before (partial_block s)))
rest_none key before s h =
    let none : partial_block s ≡ [] = drop_all (16 * (length s / 16)) s (omega arith) in
    sym
    (ap₂ (λ t r. t ++ xor_of r (encrypted key (offset_after key before (partial_block s)))) (take_all (16 * (length s / 16)) s (omega arith)) none
    ∙ append-nil s)

pub no_rest_of : (s : List ℕ) → length s / 16 * 16 ≡ length s → length (partial_block s) ≡ 0
no_rest_of s h = omega (arith, length-drop (16 * (length s / 16)) s)

-- the rest is written after what is before it
pub record Rest (key before s now end : List ℕ) : Type 0 where
  pub bytes : now ≡ take (16 * (length s / 16)) s ++ xor_of (partial_block s) (encrypted key (offset_after key before (partial_block s)))
  pub last : end ≡ offset_after key before (partial_block s)

pub rest_some : (key before s part pad last : List ℕ) → let n = length s / 16 * 16 in ¬ (n ≡ length s)
    → part ≡ xor_of (take (length s - n) (drop n s)) pad → pad ≡ encrypted key last → last ≡ xor_of before (l_star key)
    → Rest key before s (take n s ++ (part ++ drop (length s - n) (drop n s))) last
rest_some key before s part pad last ne e p l =
    let n = length s / 16 * 16 in
    let there : n ≡ 16 * (length s / 16) = omega arith in
    let tail : drop n s ≡ partial_block s = ap (λ k. drop k s) there in
    let len : length (drop n s) ≡ length s - n = length-drop n s in
    let some : 0 < length (partial_block s) = omega (arith, length-drop (16 * (length s / 16)) s) in
    let end : last ≡ offset_after key before (partial_block s) = l ∙ offset_after_some key before (partial_block s) some in
    let whole : take (length s - n) (drop n s) ≡ partial_block s = take_all (length s - n) (drop n s) (omega arith) ∙ tail in
    let none : drop (length s - n) (drop n s) ≡ [] = drop_all (length s - n) (drop n s) (omega arith) in
    let put : part ≡ xor_of (partial_block s) (encrypted key (offset_after key before (partial_block s))) = e ∙ ap₂ xor_of whole (p ∙ ap (encrypted key) end) in
    record {
      bytes = ap (λ t. take n s ++ (part ++ t)) none ∙ ap (λ t. take n s ++ t) (append-nil part) ∙ ap₂ (λ k t. take k s ++ t) there put;
      last = end;
    }

offset_after_length : (key before a b : List ℕ) → length a ≡ length b → offset_after key before a ≡ offset_after key before b
unfolding offset_after
offset_after_length key before [] [] h = refl
offset_after_length key before [] (y ∷ ys) h = absurd (omega arith)
offset_after_length key before (x ∷ xs) [] h = absurd (omega arith)
offset_after_length key before (x ∷ xs) (y ∷ ys) h = refl

pub last_offset_length : (key first a b : List ℕ) → length a ≡ length b → last_offset key first a ≡ last_offset key first b
unfolding last_offset
last_offset_length key first a b h =
    let rests : length (partial_block a) ≡ length (partial_block b) = omega (arith, length-drop (16 * (length a / 16)) a, length-drop (16 * (length b / 16)) b) in
    ap (λ n. offset_after key (offset key first (n / 16)) (partial_block a)) h
    ∙ offset_after_length key (offset key first (length b / 16)) (partial_block a) (partial_block b) rests

-- the blocks and then the rest
pub record Masked (f : List ℕ → List ℕ) (key first s now end : List ℕ) : Type 0 where
  pub bytes : now ≡ masked f key first s
  pub last : end ≡ last_offset key first s

pub masked_from : (f : List ℕ → List ℕ) (key first s between before now last : List ℕ) → length between ≡ length s
    → between ≡ masking f key first 0 s → before ≡ offset key first (length s / 16) → Rest key before between now last
    → Masked f key first s now last
unfolding masked last_offset
masked_from f key first s between before now last same e o h =
    let front = concat (masked_blocks f key first 0 (blocks_of s)) in
    let n = 16 * (length s / 16) in
    let at : 16 * (length between / 16) ≡ n = ap (λ k. 16 * (k / 16)) same in
    let len : length front ≡ n = omega (arith, ap length e, same, length-append front (partial_block s), length-drop n s) in
    let rest : partial_block between ≡ partial_block s = ap₂ drop at e ∙ drop_at front (partial_block s) n len in
    let blocks : take (16 * (length between / 16)) between ≡ front = ap₂ take at e ∙ take_at front (partial_block s) n len in
    let end : last ≡ offset_after key (offset key first (length s / 16)) (partial_block s) = h.last ∙ ap₂ (offset_after key) o rest in
    record {
      bytes = h.bytes ∙ ap₂ ◌++◌ blocks (ap₂ (λ r p. xor_of r (encrypted key p)) rest (sym h.last ∙ end));
      last = end;
    }

padded_some : (rest : List ℕ) → 0 < length rest → padded rest ≡ (rest ++ 0x80 ∷ replicate (15 - length rest) 0) ∷ []
unfolding padded
padded_some [] h = absurd (omega arith)
padded_some (x ∷ xs) h = refl

pub padded_from : (rest front : List ℕ) → 0 < length rest → length rest < 16 → front ≡ rest
    → padded rest ≡ set (front ++ drop (length rest) zeros) (length rest) 0x80 ∷ []
padded_from rest front some fits e =
    let n = length rest in
    let left : 16 - n ≡ suc (15 - n) = omega arith in
    let room : drop n zeros ≡ 0 ∷ replicate (15 - n) 0 = drop-replicate n 16 0 ∙ ap (λ k. replicate k 0) left in
    padded_some rest some
    ∙ ap (λ b. b ∷ []) (sym (ap₂ (λ f r. set (f ++ r) n 0x80) e room ∙ set_at rest 0 (replicate (15 - n) 0) 0x80 n refl))

-- ---- sums

sum_from_append : (s : List ℕ) (a b : List (List ℕ)) → sum_from s (a ++ b) ≡ sum_from (sum_from s a) b
unfolding sum_from
sum_from_append s [] b = refl
sum_from_append s (x ∷ xs) b = sum_from_append (xor_of s x) xs b

drop_next : (s : List (List ℕ)) (i : ℕ) → i < length s → drop i s ≡ get_or s i [] ∷ drop (i + 1) s
drop_next s i lt = drop-cons s i [] lt ∙ ap (λ k. get_or s i [] ∷ drop k s) (sym (add-one i))

pub sum_more : (s next : List ℕ) (bs : List (List ℕ)) (whole : List ℕ) (i : ℕ) → i < length bs → next ≡ xor_of s (get_or bs i [])
    → sum_from s (drop i bs) ≡ whole → sum_from next (drop (i + 1) bs) ≡ whole
unfolding sum_from
sum_more s next bs whole i lt n h = ap (λ t. sum_from t (drop (i + 1) bs)) n ∙ ap (sum_from s) (sym (drop_next bs i lt)) ∙ h

sum_at_end : (s whole : List ℕ) (bs : List (List ℕ)) (i : ℕ) → length bs ≤ i → sum_from s (drop i bs) ≡ whole → s ≡ whole
unfolding sum_from
sum_at_end s whole bs i le h = ap (sum_from s) (sym (drop_all i bs le)) ∙ h

-- what is left of a sum once the whole blocks are added
checksum_left : (plain : List ℕ) (bs : List (List ℕ)) (rest sum : List ℕ) (i : ℕ) → bs ≡ blocks_of plain → rest ≡ drop (length plain / 16 * 16) plain
    → length bs ≤ i → sum_from sum (drop i bs) ≡ sum_from zeros bs → sum_from sum (padded rest) ≡ checksum plain
unfolding checksum
checksum_left plain bs rest sum i front back le h =
    let there : length plain / 16 * 16 ≡ 16 * (length plain / 16) = omega arith in
    ap₂ (λ s r. sum_from s (padded r)) (sum_at_end sum (sum_from zeros bs) bs i le h ∙ ap (sum_from zeros) front) (back ∙ ap (λ n. drop n plain) there)
    ∙ sym (sum_from_append zeros (blocks_of plain) (padded (partial_block plain)))

no_rest : (rest : List ℕ) → length rest ≡ 0 → padded rest ≡ []
unfolding padded
no_rest [] h = refl
no_rest (x ∷ xs) h = absurd (omega arith)

pub checksum_whole : (plain : List ℕ) (bs : List (List ℕ)) (rest sum : List ℕ) (i : ℕ) → bs ≡ blocks_of plain → rest ≡ drop (length plain / 16 * 16) plain
    → length bs ≤ i → sum_from sum (drop i bs) ≡ sum_from zeros bs → length rest ≡ 0 → sum ≡ checksum plain
unfolding sum_from
checksum_whole plain bs rest sum i front back le h none =
    ap (sum_from sum) (sym (no_rest rest none)) ∙ checksum_left plain bs rest sum i front back le h

pub checksum_padded : (plain : List ℕ) (bs : List (List ℕ)) (rest sum last all : List ℕ) (i : ℕ) → bs ≡ blocks_of plain → rest ≡ drop (length plain / 16 * 16) plain
    → length bs ≤ i → sum_from sum (drop i bs) ≡ sum_from zeros bs → padded rest ≡ last ∷ [] → all ≡ xor_of sum last → all ≡ checksum plain
unfolding sum_from
checksum_padded plain bs rest sum last all i front back le h p a =
    a ∙ ap (sum_from sum) (sym p) ∙ checksum_left plain bs rest sum i front back le h

-- ---- the hash

-- i blocks are hashed into sum, and o is the offset of the last of them
pub record Hashing (key o sum : List ℕ) (bs : List (List ℕ)) (i : ℕ) : Type 0 where
  pub left : sum_from sum (hashed_blocks key i (drop i bs)) ≡ sum_from zeros (hashed_blocks key 0 bs)
  pub offset : o ≡ offset key zeros i

pub hash_none : (key : List ℕ) (bs : List (List ℕ)) → Hashing key zeros zeros bs 0
unfolding offset
hash_none key bs = record { left = refl; offset = refl }

pub hash_more : (key o sum mask next all : List ℕ) (bs : List (List ℕ)) (i : ℕ) → i < length bs → Hashing key o sum bs i
    → mask ≡ l_mask key (trailing_zeros w64 (i + 1)) → next ≡ xor_of o mask
    → all ≡ xor_of sum (encrypted key (xor_of (get_or bs i []) next))
    → Hashing key next all bs (i + 1)
unfolding sum_from hashed_blocks
hash_more key o sum mask next all bs i lt h l n a =
    let at = offset_more key zeros o next mask i h.offset n l in
    let b = get_or bs i [] in
    record {
      left = ap (λ t. sum_from t (hashed_blocks key (i + 1) (drop (i + 1) bs))) (a ∙ ap (λ o. xor_of sum (encrypted key (xor_of b o))) at)
          ∙ ap (λ ds. sum_from sum (hashed_blocks key i ds)) (sym (drop_next bs i lt))
          ∙ h.left;
      offset = at;
    }

hash_left : (key assoc o sum rest : List ℕ) (bs : List (List ℕ)) (i : ℕ) → bs ≡ blocks_of assoc → rest ≡ drop (length assoc / 16 * 16) assoc
    → length bs ≤ i → Hashing key o sum bs i
    → sum_from sum (map (λ b. encrypted key (xor_of b (last_offset key zeros assoc))) (padded rest)) ≡ hash key assoc
unfolding hash sum_from hashed_blocks
hash_left key assoc o sum rest bs i front back le h =
    let there : length assoc / 16 * 16 ≡ 16 * (length assoc / 16) = omega arith in
    let f : List ℕ → List ℕ = λ b. encrypted key (xor_of b (last_offset key zeros assoc)) in
    let all : sum ≡ sum_from zeros (hashed_blocks key 0 (blocks_of assoc)) =
    ap (λ ds. sum_from sum (hashed_blocks key i ds)) (sym (drop_all i bs le)) ∙ h.left ∙ ap (λ ds. sum_from zeros (hashed_blocks key 0 ds)) front in
    ap₂ (λ s r. sum_from s (map f (padded r))) all (back ∙ ap (λ n. drop n assoc) there)
    ∙ sym (sum_from_append zeros (hashed_blocks key 0 (blocks_of assoc)) (map f (padded (partial_block assoc))))

pub hash_whole : (key assoc o sum rest : List ℕ) (bs : List (List ℕ)) (i : ℕ) → bs ≡ blocks_of assoc → rest ≡ drop (length assoc / 16 * 16) assoc
    → length bs ≤ i → Hashing key o sum bs i → length rest ≡ 0 → sum ≡ hash key assoc
unfolding sum_from
hash_whole key assoc o sum rest bs i front back le h none =
    ap (λ ps. sum_from sum (map (λ b. encrypted key (xor_of b (last_offset key zeros assoc))) ps)) (sym (no_rest rest none))
    ∙ hash_left key assoc o sum rest bs i front back le h

pub hash_padded : (key assoc o sum rest pad last all : List ℕ) (bs : List (List ℕ)) (i : ℕ) → bs ≡ blocks_of assoc → rest ≡ drop (length assoc / 16 * 16) assoc
    → length bs ≤ i → i ≡ length assoc / 16 → Hashing key o sum bs i → 0 < length rest → padded rest ≡ pad ∷ []
    → last ≡ xor_of o (l_star key) → all ≡ xor_of sum (encrypted key (xor_of pad last)) → all ≡ hash key assoc
unfolding sum_from last_offset
hash_padded key assoc o sum rest pad last all bs i front back le at h some p l a =
    let there : length assoc / 16 * 16 ≡ 16 * (length assoc / 16) = omega arith in
    let same : rest ≡ partial_block assoc = back ∙ ap (λ n. drop n assoc) there in
    let end : last ≡ last_offset key zeros assoc =
    l ∙ ap (λ o. xor_of o (l_star key)) (h.offset ∙ ap (offset key zeros) at) ∙ offset_after_some key (offset key zeros (length assoc / 16)) rest some
    ∙ ap (offset_after key (offset key zeros (length assoc / 16))) same in
    a ∙ ap (λ o. xor_of sum (encrypted key (xor_of pad o))) end
    ∙ ap (λ ps. sum_from sum (map (λ b. encrypted key (xor_of b (last_offset key zeros assoc))) ps)) (sym p)
    ∙ hash_left key assoc o sum rest bs i front back le h

-- ---- the tag

pub tag_from : (key nonce assoc s cipher first sum last tag : List ℕ) → cipher ≡ key → first ≡ first_offset cipher nonce → sum ≡ checksum s
    → last ≡ last_offset cipher first s
    → tag ≡ xor_of (encrypted cipher (xor_of (xor_of sum last) (l_dollar cipher))) (hash cipher assoc) → tag ≡ ocb_tag key nonce assoc s
unfolding ocb_tag
tag_from key nonce assoc s cipher first sum last tag k f c l t = cc

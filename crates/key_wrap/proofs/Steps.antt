-- The loops over the registers, step by step.
use Rattle.std.proofs.Common.{◌≡◌, ℕ, suc, ◌+◌, ◌-◌, ◌*◌, ◌/◌, ◌<◌, ◌≤◌, List, [], ◌∷◌, ◌++◌, length, get_or, set, take, drop, refl, ap, ap₂, ◌∙◌, sym, arith, append_assoc, length-take, add-one}
use Rattle.std.{proofs.{lemmas.List.{drop-set-lt, set_at, get_or_at, append-nil, take_more, take_all, drop_all, Folds.concat-append}, Math.Seq.{drop-cons, take-suc-set}}, specs.{Int.{w64, to_be_bytes}, List.concat, Simd.first_chunks}}
use Rattle.aes_block.{specs.Aes.{xor_of, encrypted, decrypted}, proofs.{Lists.literal, Blocks.length_first_chunks}}
use Rattle.key_wrap.specs.KeyWrap.{Registers, initial_value, wrap_pass, unwrap_pass, wrap_passes, unwrap_passes, wrapped_of, unwrapped_of}

pub two_halves : (left right : List ℕ) → length left ≡ 8 → length right ≡ 8
    → take 8 (left ++ 0 ∷ 0 ∷ 0 ∷ 0 ∷ 0 ∷ 0 ∷ 0 ∷ 0 ∷ []) ++ (right ++ drop 8 (drop 8 (left ++ 0 ∷ 0 ∷ 0 ∷ 0 ∷ 0 ∷ 0 ∷ 0 ∷ 0 ∷ []))) ≡ left ++ right
two_halves left right h k = rw (literal 8 left h) (rw (literal 8 right k) refl)

-- ---- a pass

-- the registers that are done, and what the pass makes of the others
abbrev pub wrapping : List ℕ → List ℕ → ℕ → List (List ℕ) → List (List ℕ) → Registers
wrapping key check t done others =
    let rest = wrap_pass key check t others in
    record { check = rest.check; blocks = done ++ rest.blocks }

abbrev pub unwrapping : List ℕ → List ℕ → ℕ → List (List ℕ) → List (List ℕ) → Registers
unwrapping key check t done others =
    let rest = unwrap_pass key check t others in
    record { check = rest.check; blocks = done ++ rest.blocks }

wrapping_next : (key check : List ℕ) (t : ℕ) (done : List (List ℕ)) (r : List ℕ) (rs : List (List ℕ))
    → let b = encrypted key (check ++ r) in
    wrapping key check t done (r ∷ rs) ≡ wrapping key (xor_of (take 8 b) (to_be_bytes w64 t)) (t + 1) (done ++ drop 8 b ∷ []) rs
unfolding wrap_pass
wrapping_next key check t done r rs =
    let b = encrypted key (check ++ r) in
    let rest = wrap_pass key (xor_of (take 8 b) (to_be_bytes w64 t)) (t + 1) rs in
    let f : List (List ℕ) → Registers = λ bs. record { check = rest.check; blocks = bs } in
    ap f (sym (append_assoc done (drop 8 b ∷ []) rest.blocks))

drop_next : (s : List (List ℕ)) (i : ℕ) → i < length s → drop i s ≡ get_or s i [] ∷ drop (i + 1) s
drop_next s i lt = drop-cons s i [] lt ∙ ap (λ k. get_or s i [] ∷ drop k s) (sym (add-one i))

pub wrap_more : (key check next : List ℕ) (t i : ℕ) (now : List (List ℕ)) (r : List ℕ) (whole : Registers) → i < length now
    → next ≡ xor_of (take 8 (encrypted key (check ++ get_or now i []))) (to_be_bytes w64 (t + i))
    → r ≡ drop 8 (encrypted key (check ++ get_or now i []))
    → wrapping key check (t + i) (take i now) (drop i now) ≡ whole
    → wrapping key next (t + (i + 1)) (take (i + 1) (set now i r)) (drop (i + 1) (set now i r)) ≡ whole
wrap_more key check next t i now r whole lt n e h =
    let x = get_or now i [] in
    let there : t + (i + 1) ≡ t + i + 1 = omega arith in
    let suc_is : i + 1 ≡ suc i = omega arith in
    let first = take-suc-set now i r lt in
    let others = drop-set-lt (i + 1) now i r (omega arith) in
    let taken : take (i + 1) (set now i r) ≡ take i now ++ r ∷ [] = ap (λ k. take k (set now i r)) suc_is ∙ first in
    rw (there, taken, others, n, e)
    (sym (wrapping_next key check (t + i) (take i now) x (drop (i + 1) now))
    ∙ ap (wrapping key check (t + i) (take i now)) (sym (drop_next now i lt))
    ∙ h)

pub wrapped_at_end : (key check : List ℕ) (t i : ℕ) (now : List (List ℕ)) (whole : Registers) → length now ≤ i
    → wrapping key check t (take i now) (drop i now) ≡ whole → record { check = check; blocks = now } ≡ whole
unfolding wrap_pass
wrapped_at_end key check t i now whole le h =
    let f : List (List ℕ) → Registers = λ bs. record { check = check; blocks = bs } in
    ap f (sym (append-nil now) ∙ ap (λ d. d ++ []) (sym (take_all i now le)))
    ∙ ap (wrapping key check t (take i now)) (sym (drop_all i now le))
    ∙ h

pub unwrap_more : (key first check next : List ℕ) (t i : ℕ) (old now : List (List ℕ)) (r : List ℕ) → i < length old
    → next ≡ take 8 (decrypted key (xor_of check (to_be_bytes w64 (t + i)) ++ get_or now i []))
    → r ≡ drop 8 (decrypted key (xor_of check (to_be_bytes w64 (t + i)) ++ get_or now i []))
    → record { check = check; blocks = now } ≡ unwrapping key first (t + (i + 1)) (take (i + 1) old) (drop (i + 1) old)
    → record { check = next; blocks = set now i r } ≡ unwrapping key first (t + i) (take i old) (drop i old)
unfolding unwrap_pass
unwrap_more key first check next t i old now r lt n e h =
    let x = get_or old i [] in
    let there : t + (i + 1) ≡ t + i + 1 = omega arith in
    let rest = unwrap_pass key first (t + i + 1) (drop (i + 1) old) in
    let front : length (take i old) ≡ i = omega (arith, length-take i old) in
    let at = h ∙ ap (λ k. unwrapping key first k (take (i + 1) old) (drop (i + 1) old)) there in
    let blocks : now ≡ take i old ++ x ∷ rest.blocks =
    ap (λ s. s.blocks) at ∙ ap (λ d. d ++ rest.blocks) (take_more old i [] lt) ∙ append_assoc (take i old) (x ∷ []) rest.blocks in
    let same : get_or now i [] ≡ x = ap (λ l. get_or l i []) blocks ∙ get_or_at (take i old) x rest.blocks [] i front in
    let both : decrypted key (xor_of check (to_be_bytes w64 (t + i)) ++ get_or now i [])
    ≡ decrypted key (xor_of rest.check (to_be_bytes w64 (t + i)) ++ x) =
    ap₂ (λ c b. decrypted key (xor_of c (to_be_bytes w64 (t + i)) ++ b)) (ap (λ s. s.check) at) same in
    let written : set now i r ≡ take i old ++ drop 8 (decrypted key (xor_of rest.check (to_be_bytes w64 (t + i)) ++ x)) ∷ rest.blocks =
    ap (λ l. set l i r) blocks ∙ set_at (take i old) x rest.blocks r i front ∙ ap (λ y. take i old ++ y ∷ rest.blocks) (e ∙ ap (drop 8) both) in
    let f : List ℕ → List (List ℕ) → Registers = λ c bs. record { check = c; blocks = bs } in
    ap₂ f (n ∙ ap (take 8) both) written
    ∙ ap (unwrapping key first (t + i) (take i old)) (sym (drop_next old i lt))

pub unwrap_none : (key check : List ℕ) (t : ℕ) (old : List (List ℕ))
    → record { check = check; blocks = old } ≡ unwrapping key check t (take (length old) old) (drop (length old) old)
unfolding unwrap_pass
unwrap_none key check t old =
    let all = take_all (length old) old (omega arith) in
    let f : List (List ℕ) → Registers = λ bs. record { check = check; blocks = bs } in
    ap f (sym (append-nil old) ∙ ap (λ d. d ++ []) (sym all))
    ∙ ap (unwrapping key check t (take (length old) old)) (sym (drop_all (length old) old (omega arith)))

-- ---- the registers as bytes

pub joined_more : (front : List ℕ) (bs : List (List ℕ)) (i : ℕ) → i < length bs
    → (front ++ concat (take i bs)) ++ get_or bs i [] ≡ front ++ concat (take (i + 1) bs)
joined_more front bs i lt =
    append_assoc front (concat (take i bs)) (get_or bs i [])
    ∙ ap (λ x. front ++ x)
    (ap (λ x. concat (take i bs) ++ x) (sym (append-nil (get_or bs i [])))
    ∙ sym (concat-append (take i bs) (get_or bs i [] ∷ []))
    ∙ ap concat (sym (take_more bs i [] lt)))

-- ---- the passes

pub passes_more : (key : List ℕ) (n j : ℕ) (before now after : Registers) → now ≡ wrap_passes key n j before
    → after ≡ wrap_pass key now.check (n * j + 1) now.blocks → after ≡ wrap_passes key n (j + 1) before
unfolding wrap_passes
passes_more key n j before now after e f =
    f ∙ ap (λ s. wrap_pass key s.check (n * j + 1) s.blocks) e ∙ ap (λ k. wrap_passes key n k before) (sym (add-one j))

pub passes_less : (key : List ℕ) (n j : ℕ) (now after whole : Registers)
    → after ≡ unwrap_pass key now.check (n * j + 1) now.blocks → unwrap_passes key n (j + 1) now ≡ whole
    → unwrap_passes key n j after ≡ whole
unfolding unwrap_passes
passes_less key n j now after whole e h = ap (unwrap_passes key n j) e ∙ ap (λ k. unwrap_passes key n k now) (sym (add-one j)) ∙ h

pub passes_none : (key : List ℕ) (n j : ℕ) (now whole : Registers) → j ≡ 0 → unwrap_passes key n j now ≡ whole → now ≡ whole
unfolding unwrap_passes
passes_none key n j now whole z h = ap (λ k. unwrap_passes key n k now) (sym z) ∙ h

-- ---- bytes

pub wrapped_from : (key bytes : List ℕ) (blocks : List (List ℕ)) (after : Registers) → blocks ≡ first_chunks 8 (length bytes / 8) bytes
    → after ≡ wrap_passes key (length blocks) 6 (record { check = initial_value; blocks = blocks })
    → after.check ++ concat after.blocks ≡ wrapped_of key bytes
unfolding wrapped_of
wrapped_from key bytes blocks after e h =
    let n = length bytes / 8 in
    let f : ℕ → List (List ℕ) → Registers = λ n bs. wrap_passes key n 6 (record { check = initial_value; blocks = bs }) in
    ap (λ s. s.check ++ concat s.blocks) (h ∙ ap₂ f (ap length e ∙ length_first_chunks 8 n bytes) e)

pub unwrapped_from : (key bytes : List ℕ) (all blocks : List (List ℕ)) (after : Registers) → 8 ≤ length bytes
    → all ≡ first_chunks 8 (length bytes / 8) bytes → blocks ≡ drop 1 all
    → after ≡ unwrap_passes key (length blocks) 6 (record { check = get_or all 0 []; blocks = blocks })
    → after ≡ unwrapped_of key bytes
unfolding unwrapped_of
unwrapped_from key bytes all blocks after some e rest h =
    let n = length bytes / 8 - 1 in
    let more : length bytes / 8 ≡ suc n = omega arith in
    let cut : all ≡ take 8 bytes ∷ first_chunks 8 n (drop 8 bytes) = e ∙ ap (λ k. first_chunks 8 k bytes) more in
    let others : blocks ≡ first_chunks 8 n (drop 8 bytes) = rest ∙ ap (drop 1) cut in
    let f : ℕ → List ℕ → List (List ℕ) → Registers = λ k a bs. unwrap_passes key k 6 (record { check = a; blocks = bs }) in
    h
    ∙ ap (λ k. f k (get_or all 0 []) blocks) (ap length others ∙ length_first_chunks 8 n (drop 8 bytes))
    ∙ ap₂ (f n) (ap (λ l. get_or l 0 []) cut) others

-- What follows an expression doesn't matter, but for a byte that goes on a token.
use Rattle.std.proofs.Common.{◌≡◌, ℕ, zero, suc, ◌+◌, ◌-◌, ◌*◌, ◌≤◌, ◌⊎◌, inl, inr, Bool, true, false, cond, ◌==◌, ◌||◌, List, [], ◌∷◌, ◌++◌, length, take, drop, Option, Some, None, Result, Ok, Err, refl, sym, ap, subst, ◌∙◌, arith}
use Rattle.std.{proofs.{Common.{length-append, length-drop}, lemmas.List.{take-append-le, take-append-drop, length-take-le}}, specs.Int.is_in_range}
use Rattle.sexp_canonical.specs.{View.tree_of, Spelling.IsReadable, Reading.ReadsCanonical, declared.{tree.Sexp.{Sexp, TheVariants.{Atom as Atomic, List as Listed}}, fault.SexpFault.SexpFault}}
use Rattle.sexp_advanced.specs.Bytes.{is_space_byte, is_token_byte, hex_value, class_of, front_of, without_front}
use Rattle.sexp_advanced.specs.Pieces.{Piece, byte, close, broken, cut, low_digit, pair_here, pair, hex_escape, is_octal, third_octal, second_octal, letter, escape, quoted_piece, piece_at}
use Rattle.sexp_advanced.specs.{Signs.{sign, no_item, Spells, outcome, IsDelimited, verbatim, verbatim_tree, IsVerbatim, IsOf, IsAt}, Reading.{signs, Begins, IsExpression}, Writing.EndsToken, declared.bytes.Class.Class}
use Rattle.sexp_advanced.specs.declared.{bytes.Class.TheVariants.{Opens, Closes, Hexadecimal, Quoted, Verbatim, Token, Nothing}, pieces.Form.{Form, TheVariants.{Hexadecimal as InHexadecimal, Quoted as InQuotes}}, signs.Sign.Sign}
use Rattle.sexp_advanced.specs.declared.signs.Sign.TheVariants.{Open, Close, Atom}
use Rattle.sexp_advanced.proofs.Behind.{IsEnd, LiesBehind, without_front_end, without_front_le, close_behind, behind_shorter, lies_more, low_digit_behind, pair_here_behind, hex_escape_behind, third_octal_behind, second_octal_behind}
use Rattle.sexp_advanced.proofs.{Behind.{escape_behind, quoted_piece_behind}, OneSign.{sign_behind, spells_end, no_sign}, Again.drop_front, Open.{begins_end, end_shorter}}

no_length : (v : List ℕ) → length v ≡ 0 → v ≡ []
no_length [] e = refl
no_length (c ∷ v) e = absurd (omega arith)

drop_into : (n : ℕ) (v x : List ℕ) → n ≤ length v → drop n (v ++ x) ≡ drop n v ++ x
drop_into zero v x h = refl
drop_into (suc n) [] x h = absurd (omega arith)
drop_into (suc n) (c ∷ v) x h = drop_into n v x (omega arith)

ends_front : (x : List ℕ) → EndsToken x → (without_front is_token_byte x ≡ x) × (front_of is_token_byte x ≡ [])
ends_front [] e = (refl, refl)
ends_front (c ∷ x) e = (rw e refl, rw e refl)

ends_by_test : (c : ℕ) (x : List ℕ) (t : Bool) → is_token_byte c ≡ t → length (c ∷ x) ≤ length (without_front is_token_byte (c ∷ x)) → t ≡ false
ends_by_test c x true e h =
    let whole : length (c ∷ x) ≤ length (without_front is_token_byte x) = (rw e at h) in
    absurd (omega (arith, without_front_le is_token_byte x))
ends_by_test c x false e h = refl

ends_from : (x : List ℕ) → length x ≤ length (without_front is_token_byte x) → EndsToken x
ends_from [] h = tt
ends_from (c ∷ x) h = ends_by_test c x (is_token_byte c) refl h

module _ (y z : List ℕ) where
  -- the piece isn't at all within y, but for what is behind it
  abbrev Before : Piece → Type 0
  Before (byte b more) = length y ≤ length more
  Before (close more) = length y ≤ length more
  Before broken = Unit {0}
  Before cut = Unit {0}

  -- the other piece is the same, with z behind it in the place of y
  abbrev Swaps : Piece → Piece → Type 0
  Swaps (byte b more) q = (w : List ℕ) × (more ≡ w ++ y) × (q ≡ byte b (w ++ z))
  Swaps (close more) q = (w : List ℕ) × (more ≡ w ++ y) × (q ≡ close (w ++ z))
  Swaps broken q = Unit {0}
  Swaps cut q = Unit {0}

  none_before : (p q : Piece) → LiesBehind y p → Before p → Swaps p q
  none_before (byte b more) q h g = absurd (let l = behind_shorter more y h in omega arith)
  none_before (close more) q h g = absurd (let l = behind_shorter more y h in omega arith)
  none_before broken q h g = tt
  none_before cut q h g = tt

  swaps_either : (b : Bool) (p q r s : Piece) → (Before p → Swaps p r) → (Before q → Swaps q s) → Before (cond b p q) → Swaps (cond b p q) (cond b r s)
  swaps_either true p q r s h g = h
  swaps_either false p q r s h g = g

  swaps_known : (o : Option ℕ) (f g : ℕ → Piece) → ((n : ℕ) → Before (f n) → Swaps (f n) (g n))
      → Before (elim o [ Some n ↦ f n | None ↦ broken ]) → Swaps (elim o [ Some n ↦ f n | None ↦ broken ]) (elim o [ Some n ↦ g n | None ↦ broken ])
  swaps_known (Some n) f g h = h n
  swaps_known None f g h = λ _. tt

  front_by_test : (kind : ℕ → Bool) (c : ℕ) (v : List ℕ) (t : Bool) → kind c ≡ t
      → ((w : List ℕ) × (without_front kind (v ++ y) ≡ w ++ y) × (without_front kind (v ++ z) ≡ w ++ z)) ⊎ IsEnd (without_front kind (v ++ y)) y
      → ((w : List ℕ) × (without_front kind (c ∷ (v ++ y)) ≡ w ++ y) × (without_front kind (c ∷ (v ++ z)) ≡ w ++ z)) ⊎ IsEnd (without_front kind (c ∷ (v ++ y))) y
  front_by_test kind c v true e h = rw e h
  front_by_test kind c v false e h = rw e (inl (c ∷ v, refl, refl))

  -- what is left without a front is before y, or within it
  front_swaps : (kind : ℕ → Bool) (v : List ℕ) → ((w : List ℕ) × (without_front kind (v ++ y) ≡ w ++ y) × (without_front kind (v ++ z) ≡ w ++ z)) ⊎ IsEnd (without_front kind (v ++ y)) y
  front_swaps kind [] = inr (without_front_end kind y)
  front_swaps kind (c ∷ v) = front_by_test kind c v (kind c) refl (front_swaps kind v)

  -- a piece behind blanks
  behind_blanks : (f : List ℕ → Piece) → ((text : List ℕ) → LiesBehind text (f text)) → ((v : List ℕ) → Before (f (v ++ y)) → Swaps (f (v ++ y)) (f (v ++ z)))
      → (v : List ℕ) → Before (f (without_front is_space_byte (v ++ y))) → Swaps (f (without_front is_space_byte (v ++ y))) (f (without_front is_space_byte (v ++ z)))
  behind_blanks f lies swaps v before =
      elim (front_swaps is_space_byte v) [
        | inl w ↦
            let there = swaps w.0 (subst (λ (t : List ℕ). Before (f t)) w.1 before) in
            subst (λ (t : List ℕ × List ℕ). Swaps (f t.0) (f t.1)) (λ i. (sym w.1 i, sym w.2 i)) there
        | inr e ↦
            let text = without_front is_space_byte (v ++ y) in
            none_before (f text) (f (without_front is_space_byte (v ++ z))) (lies_more (f text) text y (lies text) e) before
      ]

  low_digit_swaps : (high : ℕ) (v : List ℕ) → Before (low_digit high (v ++ y)) → Swaps (low_digit high (v ++ y)) (low_digit high (v ++ z))
  unfolding low_digit
  low_digit_swaps high [] h = none_before (low_digit high y) (low_digit high z) (low_digit_behind high y) h
  low_digit_swaps high (c ∷ v) h = swaps_known (hex_value c) (λ low. byte (16 * high + low) (v ++ y)) (λ low. byte (16 * high + low) (v ++ z)) (λ low g. (v, refl, refl)) h

  pair_here_swaps : (v : List ℕ) → Before (pair_here (v ++ y)) → Swaps (pair_here (v ++ y)) (pair_here (v ++ z))
  unfolding pair_here
  pair_here_swaps [] h = none_before (pair_here y) (pair_here z) (pair_here_behind y) h
  pair_here_swaps (c ∷ v) h =
      let first : Piece = elim (hex_value c) [ Some high ↦ low_digit high (without_front is_space_byte (v ++ y)) | None ↦ broken ] in
      let second : Piece = elim (hex_value c) [ Some high ↦ low_digit high (without_front is_space_byte (v ++ z)) | None ↦ broken ] in
      swaps_either (c == 35) (close (v ++ y)) first (close (v ++ z)) second (λ g. (v, refl, refl))
      (swaps_known (hex_value c) (λ high. low_digit high (without_front is_space_byte (v ++ y))) (λ high. low_digit high (without_front is_space_byte (v ++ z)))
      (λ high. behind_blanks (low_digit high) (low_digit_behind high) (low_digit_swaps high) v)) h

  hex_escape_swaps : (v : List ℕ) → Before (hex_escape (v ++ y)) → Swaps (hex_escape (v ++ y)) (hex_escape (v ++ z))
  unfolding hex_escape
  hex_escape_swaps [] h = none_before (hex_escape y) (hex_escape z) (hex_escape_behind y) h
  hex_escape_swaps (c ∷ v) h = swaps_known (hex_value c) (λ high. low_digit high (v ++ y)) (λ high. low_digit high (v ++ z)) (λ high. low_digit_swaps high v) h

  third_octal_swaps : (first second : ℕ) (v : List ℕ) → Before (third_octal first second (v ++ y)) → Swaps (third_octal first second (v ++ y)) (third_octal first second (v ++ z))
  unfolding third_octal
  third_octal_swaps first second [] h = none_before (third_octal first second y) (third_octal first second z) (third_octal_behind first second y) h
  third_octal_swaps first second (c ∷ v) h =
      swaps_either (is_octal c) (byte (64 * first + 8 * second + (c - 48)) (v ++ y)) broken (byte (64 * first + 8 * second + (c - 48)) (v ++ z)) broken (λ g. (v, refl, refl)) (λ _. tt) h

  second_octal_swaps : (first : ℕ) (v : List ℕ) → Before (second_octal first (v ++ y)) → Swaps (second_octal first (v ++ y)) (second_octal first (v ++ z))
  unfolding second_octal
  second_octal_swaps first [] h = none_before (second_octal first y) (second_octal first z) (second_octal_behind first y) h
  second_octal_swaps first (c ∷ v) h =
      swaps_either (is_octal c) (third_octal first (c - 48) (v ++ y)) broken (third_octal first (c - 48) (v ++ z)) broken (third_octal_swaps first (c - 48) v) (λ _. tt) h

  escape_swaps : (v : List ℕ) → Before (escape (v ++ y)) → Swaps (escape (v ++ y)) (escape (v ++ z))
  unfolding escape
  escape_swaps [] h = none_before (escape y) (escape z) (escape_behind y) h
  escape_swaps (c ∷ v) h =
      let meant-y : Piece = elim (letter c) [ Some n ↦ byte n (v ++ y) | None ↦ broken ] in
      let meant-z : Piece = elim (letter c) [ Some n ↦ byte n (v ++ z) | None ↦ broken ] in
      let octal-y : Piece = cond (is_in_range 48 51 c) (second_octal (c - 48) (v ++ y)) meant-y in
      let octal-z : Piece = cond (is_in_range 48 51 c) (second_octal (c - 48) (v ++ z)) meant-z in
      swaps_either (c == 120) (hex_escape (v ++ y)) octal-y (hex_escape (v ++ z)) octal-z (hex_escape_swaps v)
      (swaps_either (is_in_range 48 51 c) (second_octal (c - 48) (v ++ y)) meant-y (second_octal (c - 48) (v ++ z)) meant-z (second_octal_swaps (c - 48) v)
      (swaps_known (letter c) (λ n. byte n (v ++ y)) (λ n. byte n (v ++ z)) (λ n g. (v, refl, refl)))) h

  quoted_piece_swaps : (v : List ℕ) → Before (quoted_piece (v ++ y)) → Swaps (quoted_piece (v ++ y)) (quoted_piece (v ++ z))
  unfolding quoted_piece
  quoted_piece_swaps [] h = none_before (quoted_piece y) (quoted_piece z) (quoted_piece_behind y) h
  quoted_piece_swaps (c ∷ v) h =
      let plain-y : Piece = cond (c == 10 || c == 13) broken (byte c (v ++ y)) in
      let plain-z : Piece = cond (c == 10 || c == 13) broken (byte c (v ++ z)) in
      let others-y : Piece = cond (c == 92) (escape (v ++ y)) plain-y in
      let others-z : Piece = cond (c == 92) (escape (v ++ z)) plain-z in
      swaps_either (c == 34) (close (v ++ y)) others-y (close (v ++ z)) others-z (λ g. (v, refl, refl))
      (swaps_either (c == 92) (escape (v ++ y)) plain-y (escape (v ++ z)) plain-z (escape_swaps v)
      (swaps_either (c == 10 || c == 13) broken (byte c (v ++ y)) broken (byte c (v ++ z)) (λ _. tt) (λ g. (v, refl, refl)))) h

  piece_at_swaps : (form : Form) (v : List ℕ) → Before (piece_at form (v ++ y)) → Swaps (piece_at form (v ++ y)) (piece_at form (v ++ z))
  unfolding pair
  piece_at_swaps InHexadecimal v = behind_blanks pair_here pair_here_behind pair_here_swaps v
  piece_at_swaps InQuotes v = quoted_piece_swaps v

  byte_swaps : (form : Form) (v more : List ℕ) (b : ℕ) → piece_at form (v ++ y) ≡ byte b more → length y ≤ length more → (w : List ℕ) × (more ≡ w ++ y) × (piece_at form (v ++ z) ≡ byte b (w ++ z))
  byte_swaps form v more b e before = subst (λ (p : Piece). Before p → Swaps p (piece_at form (v ++ z))) e (piece_at_swaps form v) before

  close_swaps : (form : Form) (v more : List ℕ) → piece_at form (v ++ y) ≡ close more → length y ≤ length more → (w : List ℕ) × (more ≡ w ++ y) × (piece_at form (v ++ z) ≡ close (w ++ z))
  close_swaps form v more e before = subst (λ (p : Piece). Before p → Swaps p (piece_at form (v ++ z))) e (piece_at_swaps form v) before

  -- ---- atoms between two marks

  pub spells_swaps : (form : Form) (v bytes at : List ℕ) → Spells form (v ++ y) bytes at → length y ≤ length at → (w : List ℕ) × (at ≡ w ++ y) × Spells form (v ++ z) bytes (w ++ z)
  spells_swaps form v [] at h before = (v, sym h, refl)
  spells_swaps form v (b ∷ bytes) at h before =
      let less = end_shorter at h.0 (spells_end form h.0 bytes at h.2) in
      let first = byte_swaps form v h.0 b h.1 (omega arith) in
      let rest = spells_swaps form first.0 bytes at (subst (λ (t : List ℕ). Spells form t bytes at) first.1 h.2) before in
      (rest.0, rest.1, (first.0 ++ z, first.2, rest.2))

  pub closed_by : (bytes : List ℕ) (p : Piece) (s : Sign) (rest : List ℕ) → outcome bytes p ≡ Some (sign s rest) → (p ≡ close rest) × (s ≡ Atom bytes)
  closed_by bytes (byte b more) s rest e = absurd cc
  closed_by bytes (close more) s rest e = (let same : more ≡ rest = cc in ap close same, let atom : s ≡ Atom bytes = cc in atom)
  closed_by bytes broken s rest e = absurd cc
  closed_by bytes cut s rest e = absurd cc

  delimited_swaps : (form : Form) (v : List ℕ) (s : Sign) (rest : List ℕ) → IsDelimited form (v ++ y) (sign s rest) → length y ≤ length rest → (w : List ℕ) × (rest ≡ w ++ y) × IsDelimited form (v ++ z) (sign s (w ++ z))
  delimited_swaps form v s rest h before =
      let by = closed_by h.bytes (piece_at form h.at) s rest h.is in
      let less = behind_shorter rest h.at (close_behind form h.at rest by.0) in
      let front = spells_swaps form v h.bytes h.at h.spelled (omega arith) in
      let last = close_swaps form front.0 rest (ap (piece_at form) (sym front.1) ∙ by.0) before in (
        last.0,
        last.1,
        record { bytes = h.bytes; at = front.0 ++ z; spelled = front.2; is = ap (outcome h.bytes) last.2 ∙ ap (λ (t : Sign). Some (sign t (last.0 ++ z))) (sym by.1) },
      )

  -- ---- canonical atoms

  verbatim_swaps_atom : (v bytes : List ℕ) (n : ℕ) (s : Sign) (rest : List ℕ) → ReadsCanonical (v ++ y) (Ok (Atomic bytes, n)) → sign (Atom bytes) (drop n (v ++ y)) ≡ sign s rest → length y ≤ length rest
      → (w : List ℕ) × (rest ≡ w ++ y) × IsVerbatim (v ++ z) (sign s (w ++ z))
  verbatim_swaps_atom v bytes n s rest h e before =
      let there : drop n (v ++ y) ≡ rest = cc in
      let atom : Atom bytes ≡ s = cc in
      let l = ap length there in
      let h0 = h.0 in
      let within : n ≤ length v = omega (arith, length-append v y, length-drop n (v ++ y)) in
      let front : take n (v ++ y) ≡ take n (v ++ z) = take-append-le n v y within ∙ sym (take-append-le n v z within) in (
        drop n v,
        sym there ∙ drop_into n v y within,
        record {
          answer = Ok (Atomic bytes, n);
          reads = (omega (arith, length-append v z), subst (λ (t : List ℕ). IsReadable t (Atomic bytes)) front h.1);
          is = λ i. sign (atom i) (drop_into n v z within i);
        },
      )

  verbatim_swaps_tree : (v : List ℕ) (tree : Sexp) (n : ℕ) (s : Sign) (rest : List ℕ) → ReadsCanonical (v ++ y) (Ok (tree, n)) → verbatim_tree (v ++ y) tree n ≡ sign s rest → length y ≤ length rest
      → (w : List ℕ) × (rest ≡ w ++ y) × IsVerbatim (v ++ z) (sign s (w ++ z))
  verbatim_swaps_tree v (Atomic bytes) n s rest h e before = verbatim_swaps_atom v bytes n s rest h e before
  verbatim_swaps_tree v (Listed items) n s rest h e before = absurd cc

  verbatim_swaps : (v : List ℕ) (answer : Result (Sexp × ℕ) SexpFault) (s : Sign) (rest : List ℕ) → ReadsCanonical (v ++ y) answer → verbatim (v ++ y) answer ≡ sign s rest → length y ≤ length rest
      → (w : List ℕ) × (rest ≡ w ++ y) × IsVerbatim (v ++ z) (sign s (w ++ z))
  verbatim_swaps v (Ok read) s rest h e before = verbatim_swaps_tree v read.0 read.1 s rest h e before
  verbatim_swaps v (Err fault) s rest h e before = absurd (no_sign fault s rest e)

  -- ---- tokens

  abbrev TokenSwaps : List ℕ → Type 0
  TokenSwaps v =
      (w : List ℕ) × (without_front is_token_byte (v ++ y) ≡ w ++ y) × (without_front is_token_byte (v ++ z) ≡ w ++ z) × (front_of is_token_byte (v ++ y) ≡ front_of is_token_byte (v ++ z))

  token_by_test : (c : ℕ) (v : List ℕ) (t : Bool) → is_token_byte c ≡ t → (t ≡ true → TokenSwaps v) → TokenSwaps (c ∷ v)
  token_by_test c v true e h =
      let there = h refl in
      rw e (there.0, there.1, there.2, ap (λ (s : List ℕ). c ∷ s) there.3)
  token_by_test c v false e h = rw e (c ∷ v, refl, refl, refl)

  token_swaps : (EndsToken y → EndsToken z) → (v : List ℕ) → length y ≤ length (without_front is_token_byte (v ++ y)) → TokenSwaps v
  token_swaps same [] before =
      let first = ends_from y before in
      let y-ends = ends_front y first in
      let z-ends = ends_front z (same first) in
      ([], y-ends.0, z-ends.0, y-ends.1 ∙ sym z-ends.1)
  token_swaps same (c ∷ v) before = token_by_test c v (is_token_byte c) refl (λ goes. token_swaps same v (rw goes at before))

  -- ---- signs

  of_swaps : (EndsToken y → EndsToken z) → (k : Class) (c : ℕ) (v : List ℕ) (s : Sign) (rest : List ℕ) → IsOf k (c ∷ (v ++ y)) (v ++ y) (sign s rest) → length y ≤ length rest
      → (w : List ℕ) × (rest ≡ w ++ y) × IsOf k (c ∷ (v ++ z)) (v ++ z) (sign s (w ++ z))
  of_swaps same Opens c v s rest h before = (v, (let e : rest ≡ v ++ y = cc in e), (let e : s ≡ Open = cc in ap (λ (t : Sign). sign t (v ++ z)) e))
  of_swaps same Closes c v s rest h before = (v, (let e : rest ≡ v ++ y = cc in e), (let e : s ≡ Close = cc in ap (λ (t : Sign). sign t (v ++ z)) e))
  of_swaps same Hexadecimal c v s rest h before = delimited_swaps _ v s rest h before
  of_swaps same Quoted c v s rest h before = delimited_swaps _ v s rest h before
  of_swaps same Verbatim c v s rest h before = verbatim_swaps (c ∷ v) h.answer s rest h.reads h.is before
  of_swaps same Token c v s rest h before =
      let e : rest ≡ without_front is_token_byte (c ∷ (v ++ y)) = cc in
      let f : s ≡ Atom (front_of is_token_byte (c ∷ (v ++ y))) = cc in
      let l = ap length e in
      let there = token_swaps same (c ∷ v) (omega arith) in
      (there.0, e ∙ there.1, λ i. sign ((f ∙ ap Atom there.3) i) (sym there.2 i))
  of_swaps same Nothing c v s rest h before = absurd (let f : no_item ≡ sign s rest = sym h in cc)

  at_swaps : (EndsToken y → EndsToken z) → (v : List ℕ) (s : Sign) (rest : List ℕ) → IsAt (v ++ y) (sign s rest) → length y ≤ length rest → (w : List ℕ) × (rest ≡ w ++ y) × IsAt (v ++ z) (sign s (w ++ z))
  at_swaps same [] s rest h before = absurd (let l = behind_shorter rest y (sign_behind y s rest h) in omega arith)
  at_swaps same (c ∷ v) s rest h before = of_swaps same (class_of c) c v s rest h before

  pub begins_swaps : (EndsToken y → EndsToken z) → (xs : List Sign) (v : List ℕ) → Begins (v ++ y) xs y → Begins (v ++ z) xs z
  begins_swaps same [] v h = let l = ap length h in ap (λ (u : List ℕ). u ++ z) (no_length v (omega (arith, length-append v y)))
  begins_swaps same (x ∷ xs) v h =
      let less = end_shorter y h.0 (begins_end h.0 xs y h.2) in
      elim (front_swaps is_space_byte v) [
        | inl w ↦
            let there = at_swaps same w.0 x h.0 (subst (λ (t : List ℕ). IsAt t (sign x h.0)) w.1 h.1) less in (
              there.0 ++ z,
              subst (λ (t : List ℕ). IsAt t (sign x (there.0 ++ z))) (sym w.2) there.2,
              begins_swaps same xs there.0 (subst (λ (t : List ℕ). Begins t xs y) there.1 h.2),
            )
        | inr e ↦
            let shorter = behind_shorter h.0 (without_front is_space_byte (v ++ y)) (sign_behind (without_front is_space_byte (v ++ y)) x h.0 h.1) in
            let within = end_shorter (without_front is_space_byte (v ++ y)) y e in
            absurd (omega arith)
      ]

pub following : (x y z : List ℕ) (tree : Sexp) → (EndsToken y → EndsToken z) → IsExpression (x ++ y) tree (length x) → IsExpression (x ++ z) tree (length x)
following x y z tree same h = record {
  within = omega (arith, length-append x z);
  shallow = h.shallow;
  spelled = subst (Begins (x ++ z) (signs (tree_of tree))) (sym (drop_front x z))
      (begins_swaps y z same (signs (tree_of tree)) x (subst (Begins (x ++ y) (signs (tree_of tree))) (drop_front x y) h.spelled));
}

pub following_read : (bytes : List ℕ) (tree : Sexp) (n : ℕ) → IsExpression bytes tree n → (more : List ℕ) → (EndsToken (drop n bytes) → EndsToken more) → IsExpression (take n bytes ++ more) tree n
following_read bytes tree n h more same =
    let len : length (take n bytes) ≡ n = length-take-le n bytes h.within in
    let parts : bytes ≡ take n bytes ++ drop n bytes = sym (take-append-drop n bytes) in
    let there : IsExpression (take n bytes ++ drop n bytes) tree (length (take n bytes)) =
    subst (λ (t : List ℕ × ℕ). IsExpression t.0 tree t.1) (λ i. (parts i, sym len i)) h in
    subst (IsExpression (take n bytes ++ more) tree) len (following (take n bytes) (drop n bytes) more tree same there)

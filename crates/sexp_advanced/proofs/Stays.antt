-- A fault is that of what stands before it: it stays, whatever follows, but for texts that are cut off.
use Rattle.std.proofs.Common.{◌≡◌, ℕ, zero, suc, ◌+◌, ◌-◌, ◌*◌, inl, inr, Bool, true, false, cond, ltb, ◌==◌, ◌||◌, List, [], ◌∷◌, ◌++◌, length, take, Option, Some, None, Result, Ok, Err, refl, sym, ap, subst, ◌∙◌, append_assoc, arith}
use Rattle.std.{proofs.{Common.length-append, lemmas.List.{append-nil, take-append-le}}, specs.{Int.is_in_range, Char.is_ascii_digit}}
use Rattle.sexp_canonical.specs.{Spelling.{most_bytes, numeral, IsReadable}, Reading.{opening_bytes, item_fault, length_fault, IsFaultAt, IsFirstSexpFault, ReadsCanonical}, declared.tree.Sexp.Sexp}
use Rattle.sexp_canonical.specs.declared.{tree.Sexp.TheVariants.{Atom as Atomic, List as Listed}, fault.SexpFault.SexpFault}
use Rattle.sexp_canonical.specs.declared.fault.SexpFault.TheVariants.{Short as CanonicalShort, BadByte as CanonicalBadByte, BadLength as CanonicalBadLength, Deep as CanonicalDeep, NoMemory as CanonicalNoMemory}
use Rattle.sexp_advanced.specs.Bytes.{is_space_byte, hex_value, class_of, without_front}
use Rattle.sexp_advanced.specs.Pieces.{Piece, byte, close, broken, cut, low_digit, pair_here, pair, hex_escape, is_octal, third_octal, second_octal, letter, escape, quoted_piece, piece_at}
use Rattle.sexp_advanced.specs.Signs.{Found, sign, broken_atom, ended, no_item, Spells, outcome, IsDelimited, verbatim, verbatim_tree, verbatim_fault, IsVerbatim, IsOf, IsAt}
use Rattle.sexp_advanced.specs.{Reading.{opening_signs, Begins, IsFirstAdvFault, fault_of, place_of}, Writing.EndsToken, declared.bytes.Class.{Class, TheVariants.{Opens, Closes, Hexadecimal, Quoted, Verbatim, Token, Nothing}}}
use Rattle.sexp_advanced.specs.declared.{pieces.Form.{Form, TheVariants.{Hexadecimal as InHexadecimal, Quoted as InQuotes}}, signs.Sign.{Sign, TheVariants.{Open, Close, Atom}}, fault.AdvFault.{AdvFault, TheVariants.Short}}
use Rattle.sexp_advanced.proofs.{Behind.IsEnd, Open.begins_end, Following.{closed_by, spells_swaps, begins_swaps}}

-- ---- texts

end_front : (rest text : List ℕ) → IsEnd rest text → (v : List ℕ) × (text ≡ v ++ rest)
end_front rest text (inl e) = ([], sym e)
end_front rest [] (inr h) = absurd h
end_front rest (c ∷ text) (inr h) = let front = end_front rest text h in (c ∷ front.0, ap (λ (s : List ℕ). c ∷ s) front.1)

none_is : (fault : AdvFault) → ◌≡◌ {A = Option AdvFault} None (Some fault) → ⊥
none_is fault e = cc

module _ (x : List ℕ) where
  front_by_test : (kind : ℕ → Bool) (b c : ℕ) (v w : List ℕ) (t : Bool) → kind b ≡ t → (without_front kind v ≡ c ∷ w → without_front kind (v ++ x) ≡ c ∷ (w ++ x))
      → without_front kind (b ∷ v) ≡ c ∷ w → without_front kind (b ∷ (v ++ x)) ≡ c ∷ (w ++ x)
  front_by_test kind b c v w true e more h = rw e (more (rw e at h))
  front_by_test kind b c v w false e more h =
      let same : b ∷ v ≡ c ∷ w = (rw e at h) in
      let whole : b ∷ (v ++ x) ≡ c ∷ (w ++ x) = ap (λ (s : List ℕ). s ++ x) same in
      rw e whole

  front_more : (kind : ℕ → Bool) (v : List ℕ) (c : ℕ) (w : List ℕ) → without_front kind v ≡ c ∷ w → without_front kind (v ++ x) ≡ c ∷ (w ++ x)
  front_more kind [] c w e = absurd cc
  front_more kind (b ∷ v) c w e = front_by_test kind b c v w (kind b) refl (front_more kind v c w) e

  -- ---- pieces

  either_stays : (t : Bool) (p q r s : Piece) → (p ≡ broken → r ≡ broken) → (q ≡ broken → s ≡ broken) → cond t p q ≡ broken → cond t r s ≡ broken
  either_stays true p q r s h g = h
  either_stays false p q r s h g = g

  known_stays : (o : Option ℕ) (f g : ℕ → Piece) → ((n : ℕ) → f n ≡ broken → g n ≡ broken) → elim o [ Some n ↦ f n | None ↦ broken ] ≡ broken → elim o [ Some n ↦ g n | None ↦ broken ] ≡ broken
  known_stays (Some n) f g h = h n
  known_stays None f g h = λ e. refl

  byte_whole : (b : ℕ) (v : List ℕ) (p : Piece) → byte b v ≡ broken → p ≡ broken
  byte_whole b v p e = absurd cc

  close_whole : (v : List ℕ) (p : Piece) → close v ≡ broken → p ≡ broken
  close_whole v p e = absurd cc

  behind_blanks : (f : List ℕ → Piece) → (f [] ≡ broken → ⊥) → ((v : List ℕ) → f v ≡ broken → f (v ++ x) ≡ broken) → (v u : List ℕ) → without_front is_space_byte v ≡ u → f u ≡ broken
      → f (without_front is_space_byte (v ++ x)) ≡ broken
  behind_blanks f whole stays v [] e h = absurd (whole h)
  behind_blanks f whole stays v (c ∷ u) e h = ap f (front_more is_space_byte v c u e) ∙ stays (c ∷ u) h

  low_digit_stays : (high : ℕ) (v : List ℕ) → low_digit high v ≡ broken → low_digit high (v ++ x) ≡ broken
  unfolding low_digit
  low_digit_stays high [] e = absurd cc
  low_digit_stays high (c ∷ v) e = known_stays (hex_value c) (λ low. byte (16 * high + low) v) (λ low. byte (16 * high + low) (v ++ x)) (λ n. byte_whole (16 * high + n) v (byte (16 * high + n) (v ++ x))) e

  low_digit_whole : (high : ℕ) → low_digit high [] ≡ broken → ⊥
  unfolding low_digit
  low_digit_whole high e = cc

  pair_here_whole : pair_here [] ≡ broken → ⊥
  unfolding pair_here
  pair_here_whole e = cc

  pair_here_stays : (v : List ℕ) → pair_here v ≡ broken → pair_here (v ++ x) ≡ broken
  unfolding pair_here
  pair_here_stays [] e = absurd cc
  pair_here_stays (c ∷ v) e =
      let first : Piece = elim (hex_value c) [ Some high ↦ low_digit high (without_front is_space_byte v) | None ↦ broken ] in
      let second : Piece = elim (hex_value c) [ Some high ↦ low_digit high (without_front is_space_byte (v ++ x)) | None ↦ broken ] in
      either_stays (c == 35) (close v) first (close (v ++ x)) second (close_whole v (close (v ++ x)))
      (known_stays (hex_value c) (λ high. low_digit high (without_front is_space_byte v)) (λ high. low_digit high (without_front is_space_byte (v ++ x)))
      (λ high. behind_blanks (low_digit high) (low_digit_whole high) (low_digit_stays high) v (without_front is_space_byte v) refl)) e

  hex_escape_stays : (v : List ℕ) → hex_escape v ≡ broken → hex_escape (v ++ x) ≡ broken
  unfolding hex_escape
  hex_escape_stays [] e = absurd cc
  hex_escape_stays (c ∷ v) e = known_stays (hex_value c) (λ high. low_digit high v) (λ high. low_digit high (v ++ x)) (λ high. low_digit_stays high v) e

  third_octal_stays : (i j : ℕ) (v : List ℕ) → third_octal i j v ≡ broken → third_octal i j (v ++ x) ≡ broken
  unfolding third_octal
  third_octal_stays i j [] e = absurd cc
  third_octal_stays i j (c ∷ v) e =
      either_stays (is_octal c) (byte (64 * i + 8 * j + (c - 48)) v) broken (byte (64 * i + 8 * j + (c - 48)) (v ++ x)) broken
      (byte_whole (64 * i + 8 * j + (c - 48)) v (byte (64 * i + 8 * j + (c - 48)) (v ++ x))) (λ h. h) e

  second_octal_stays : (i : ℕ) (v : List ℕ) → second_octal i v ≡ broken → second_octal i (v ++ x) ≡ broken
  unfolding second_octal
  second_octal_stays i [] e = absurd cc
  second_octal_stays i (c ∷ v) e = either_stays (is_octal c) (third_octal i (c - 48) v) broken (third_octal i (c - 48) (v ++ x)) broken (third_octal_stays i (c - 48) v) (λ h. h) e

  escape_stays : (v : List ℕ) → escape v ≡ broken → escape (v ++ x) ≡ broken
  unfolding escape
  escape_stays [] e = absurd cc
  escape_stays (c ∷ v) e =
      let meant-v : Piece = elim (letter c) [ Some n ↦ byte n v | None ↦ broken ] in
      let meant-x : Piece = elim (letter c) [ Some n ↦ byte n (v ++ x) | None ↦ broken ] in
      let octal-v : Piece = cond (is_in_range 48 51 c) (second_octal (c - 48) v) meant-v in
      let octal-x : Piece = cond (is_in_range 48 51 c) (second_octal (c - 48) (v ++ x)) meant-x in
      either_stays (c == 120) (hex_escape v) octal-v (hex_escape (v ++ x)) octal-x (hex_escape_stays v)
      (either_stays (is_in_range 48 51 c) (second_octal (c - 48) v) meant-v (second_octal (c - 48) (v ++ x)) meant-x (second_octal_stays (c - 48) v)
      (known_stays (letter c) (λ n. byte n v) (λ n. byte n (v ++ x)) (λ n. byte_whole n v (byte n (v ++ x))))) e

  quoted_piece_stays : (v : List ℕ) → quoted_piece v ≡ broken → quoted_piece (v ++ x) ≡ broken
  unfolding quoted_piece
  quoted_piece_stays [] e = absurd cc
  quoted_piece_stays (c ∷ v) e =
      let plain-v : Piece = cond (c == 10 || c == 13) broken (byte c v) in
      let plain-x : Piece = cond (c == 10 || c == 13) broken (byte c (v ++ x)) in
      let others-v : Piece = cond (c == 92) (escape v) plain-v in
      let others-x : Piece = cond (c == 92) (escape (v ++ x)) plain-x in
      either_stays (c == 34) (close v) others-v (close (v ++ x)) others-x (close_whole v (close (v ++ x)))
      (either_stays (c == 92) (escape v) plain-v (escape (v ++ x)) plain-x (escape_stays v)
      (either_stays (c == 10 || c == 13) broken (byte c v) broken (byte c (v ++ x)) (λ h. h) (byte_whole c v (byte c (v ++ x))))) e

  piece_at_stays : (form : Form) (v : List ℕ) → piece_at form v ≡ broken → piece_at form (v ++ x) ≡ broken
  unfolding pair
  piece_at_stays InHexadecimal v e = behind_blanks pair_here pair_here_whole pair_here_stays v (without_front is_space_byte v) refl e
  piece_at_stays InQuotes v e = quoted_piece_stays v e

  -- ---- atoms

  broken_by : (bytes : List ℕ) (p : Piece) → outcome bytes p ≡ Some broken_atom → p ≡ broken
  broken_by bytes (byte b more) e = absurd cc
  broken_by bytes (close more) e = absurd cc
  broken_by bytes broken e = refl
  broken_by bytes cut e = absurd cc

  delimited_stays : (form : Form) (v : List ℕ) → IsDelimited form v broken_atom → IsDelimited form (v ++ x) broken_atom
  delimited_stays form v h =
      let whole : v ≡ v ++ [] = sym (append-nil v) in
      let there = spells_swaps [] x form v h.bytes h.at (subst (λ (t : List ℕ). Spells form t h.bytes h.at) whole h.spelled) (omega arith) in
      let at : h.at ≡ there.0 = there.1 ∙ append-nil there.0 in
      let break : piece_at form (there.0 ++ x) ≡ broken = piece_at_stays form there.0 (ap (piece_at form) (sym at) ∙ broken_by h.bytes (piece_at form h.at) h.is) in
      record { bytes = h.bytes; at = there.0 ++ x; spelled = there.2; is = ap (outcome h.bytes) break }

  -- ---- canonical atoms

  take_more : (n : ℕ) (v : List ℕ) → take n (v ++ x) ≡ take n v ++ take (n - length v) x
  take_more zero v = let none : zero - length v ≡ 0 = omega arith in rw none refl
  take_more (suc n) [] = let whole : suc n - 0 ≡ suc n = omega arith in rw whole refl
  take_more (suc n) (c ∷ v) = let less : suc n - suc (length v) ≡ n - length v = omega arith in ap (λ (s : List ℕ). c ∷ s) (take_more n v) ∙ rw less refl

canonical_item : (place lists_open : ℕ) (bytes u : List ℕ) (fault : SexpFault) → (fault ≡ CanonicalShort → ⊥) → item_fault place lists_open bytes ≡ Some fault → item_fault place lists_open (bytes ++ u) ≡ Some fault
unfolding item_fault
canonical_item place lists_open [] u fault other e = absurd (other (let same : CanonicalShort ≡ fault = cc in sym same))
canonical_item place lists_open (b ∷ bytes) u fault other e = e

short_or_none : (t : Bool) (fault : SexpFault) → (fault ≡ CanonicalShort → ⊥) → cond t (Some CanonicalShort) None ≡ Some fault → ⊥
short_or_none true fault other e = other (let same : CanonicalShort ≡ fault = cc in sym same)
short_or_none false fault other e = cc

length_tests : (digit colon : Bool) (a b c d : Option SexpFault) (fault : SexpFault) → (b ≡ Some fault → ⊥) → cond digit a (cond colon b c) ≡ Some fault → cond digit a (cond colon d c) ≡ Some fault
length_tests true colon a b c d fault other e = e
length_tests false true a b c d fault other e = absurd (other e)
length_tests false false a b c d fault other e = e

canonical_length : (place count : ℕ) (after u : List ℕ) (fault : SexpFault) → (fault ≡ CanonicalShort → ⊥) → length_fault place count after ≡ Some fault → length_fault place count (after ++ u) ≡ Some fault
unfolding length_fault
canonical_length place count [] u fault other e = absurd (other (let same : CanonicalShort ≡ fault = cc in sym same))
canonical_length place count (b ∷ after) u fault other e =
    length_tests (is_ascii_digit b) (b == 58) _ (cond (ltb (length after) count) (Some CanonicalShort) None) _ (cond (ltb (length (after ++ u)) count) (Some CanonicalShort) None) fault
    (short_or_none (ltb (length after) count) fault other) e

canonical_at : (place lists_open : ℕ) (bytes u : List ℕ) (fault : SexpFault) → (fault ≡ CanonicalShort → ⊥) → IsFaultAt place lists_open bytes fault → IsFaultAt place lists_open (bytes ++ u) fault
canonical_at place lists_open bytes u fault other (inl e) = inl (canonical_item place lists_open bytes u fault other e)
canonical_at place lists_open bytes u fault other (inr h) = inr (record {
  count = h.count;
  after = h.after ++ u;
  within = h.within;
  parts = ap (λ (s : List ℕ). s ++ u) h.parts ∙ append_assoc (numeral h.count) h.after u;
  at = canonical_length place h.count h.after u fault other h.at;
})

canonical_stays : (text u : List ℕ) (fault : SexpFault) → (fault ≡ CanonicalShort → ⊥) → IsFirstSexpFault text fault → IsFirstSexpFault (text ++ u) fault
canonical_stays text u fault other h = record {
  lists = h.lists;
  shallow = h.shallow;
  bytes = h.bytes ++ u;
  parts = ap (λ (s : List ℕ). s ++ u) h.parts ∙ append_assoc (opening_bytes h.lists) h.bytes u;
  at = canonical_at (length (opening_bytes h.lists)) (length h.lists) h.bytes u fault other h.at;
}

verbatim_whole : (text : List ℕ) (read : Sexp × ℕ) (x : List ℕ) (tree : Sexp) → ReadsCanonical text (Ok (tree, read.1)) → verbatim_tree text tree read.1 ≡ broken_atom → IsVerbatim (text ++ x) broken_atom
verbatim_whole text read x (Atomic bytes) h e = absurd cc
verbatim_whole text read x (Listed items) h e =
    let within = h.0 in record {
      answer = Ok (Listed items, read.1);
      reads = (omega (arith, length-append text x), subst (λ (t : List ℕ). IsReadable t (Listed items)) (sym (take-append-le read.1 text x within)) h.1);
      is = refl;
    }

not_short : (fault : SexpFault) → verbatim_fault fault ≡ broken_atom → fault ≡ CanonicalShort → ⊥
not_short fault e same = let both : ended ≡ broken_atom = sym (ap verbatim_fault same) ∙ e in cc

verbatim_answer_stays : (text x : List ℕ) (answer : Result (Sexp × ℕ) SexpFault) → ReadsCanonical text answer → verbatim text answer ≡ broken_atom → IsVerbatim (text ++ x) broken_atom
verbatim_answer_stays text x (Ok read) h e = verbatim_whole text read x read.0 h e
verbatim_answer_stays text x (Err fault) h e = record {
  answer = Err fault;
  reads = subst (λ (t : List ℕ). IsFirstSexpFault t fault) (sym (take_more x most_bytes text)) (canonical_stays (take most_bytes text) (take (most_bytes - length text) x) fault (not_short fault e) h);
  is = e;
}

-- ---- what stands at a place

-- some thing stands there, with the same fault
abbrev Still : (text : List ℕ) (place n : ℕ) (fault : AdvFault) → Type 0
Still text place n fault = (found : Found) × IsAt text found × (fault_of place n found ≡ Some fault)

no_item_found : (bytes : List ℕ) (p : Piece) → outcome bytes p ≡ Some no_item → ⊥
no_item_found bytes (byte b more) e = cc
no_item_found bytes (close more) e = cc
no_item_found bytes broken e = cc
no_item_found bytes cut e = cc

no_item_read : (text : List ℕ) (answer : Result (Sexp × ℕ) SexpFault) → verbatim text answer ≡ no_item → ⊥
no_item_read text (Ok read) e = in_tree read.0 e
  where
    in_tree : (tree : Sexp) → verbatim_tree text tree read.1 ≡ no_item → ⊥
    in_tree (Atomic bytes) f = cc
    in_tree (Listed items) f = cc
no_item_read text (Err CanonicalShort) e = cc
no_item_read text (Err (CanonicalBadByte n)) e = cc
no_item_read text (Err (CanonicalBadLength n)) e = cc
no_item_read text (Err (CanonicalDeep n)) e = cc
no_item_read text (Err CanonicalNoMemory) e = cc

no_fault_of_atom : (place n : ℕ) (s : Sign) (bytes : List ℕ) (fault : AdvFault) → Atom bytes ≡ s → fault_of place n (sign s []) ≡ Some fault → ⊥
no_fault_of_atom place n s bytes fault e f = none_is fault (ap (λ (t : Sign). fault_of place n (sign t [])) e ∙ f)

atom_read : (text : List ℕ) (answer : Result (Sexp × ℕ) SexpFault) (s : Sign) (rest : List ℕ) → verbatim text answer ≡ sign s rest → (bytes : List ℕ) × (Atom bytes ≡ s)
atom_read text (Ok read) s rest e = in_tree read.0 e
  where
    in_tree : (tree : Sexp) → verbatim_tree text tree read.1 ≡ sign s rest → (bytes : List ℕ) × (Atom bytes ≡ s)
    in_tree (Atomic bytes) f = (bytes, (let same : Atom bytes ≡ s = cc in same))
    in_tree (Listed items) f = absurd cc
atom_read text (Err CanonicalShort) s rest e = absurd cc
atom_read text (Err (CanonicalBadByte n)) s rest e = absurd cc
atom_read text (Err (CanonicalBadLength n)) s rest e = absurd cc
atom_read text (Err (CanonicalDeep n)) s rest e = absurd cc
atom_read text (Err CanonicalNoMemory) s rest e = absurd cc

module _ (x : List ℕ) (place n : ℕ) (fault : AdvFault) (other : fault ≡ Short → ⊥) where
  short_is : Some Short ≡ Some fault → ⊥
  short_is e = other (let same : Short ≡ fault = cc in sym same)

  delimited_still : (form : Form) (w : List ℕ) (found : Found) → IsDelimited form w found → fault_of place n found ≡ Some fault → (next : Found) × IsDelimited form (w ++ x) next × (fault_of place n next ≡ Some fault)
  delimited_still form w (sign s rest) h e = absurd (no_fault_of_atom place n s h.bytes fault (sym (closed_by [] [] h.bytes (piece_at form h.at) s rest h.is).1) e)
  delimited_still form w broken_atom h e = (broken_atom, delimited_stays x form w h, e)
  delimited_still form w ended h e = absurd (short_is e)
  delimited_still form w no_item h e = absurd (no_item_found h.bytes (piece_at form h.at) h.is)

  verbatim_still : (w : List ℕ) (found : Found) → IsVerbatim w found → fault_of place n found ≡ Some fault → (next : Found) × IsVerbatim (w ++ x) next × (fault_of place n next ≡ Some fault)
  verbatim_still w (sign s rest) h e = let atom = atom_read w h.answer s rest h.is in absurd (no_fault_of_atom place n s atom.0 fault atom.1 e)
  verbatim_still w broken_atom h e = (broken_atom, verbatim_answer_stays w x h.answer h.reads h.is, e)
  verbatim_still w ended h e = absurd (short_is e)
  verbatim_still w no_item h e = absurd (no_item_read w h.answer h.is)

  of_still : (k : Class) (b : ℕ) (w : List ℕ) (found : Found) → IsOf k (b ∷ w) w found → fault_of place n found ≡ Some fault
      → (next : Found) × IsOf k (b ∷ (w ++ x)) (w ++ x) next × (fault_of place n next ≡ Some fault)
  of_still Opens b w found h e = (sign Open (w ++ x), refl, ap (fault_of place n) (sym h) ∙ e)
  of_still Closes b w found h e = (sign Close (w ++ x), refl, ap (fault_of place n) (sym h) ∙ e)
  of_still Hexadecimal b w found h e = delimited_still _ w found h e
  of_still Quoted b w found h e = delimited_still _ w found h e
  of_still Verbatim b w found h e = verbatim_still (b ∷ w) found h e
  of_still Token b w found h e = absurd (none_is fault (ap (fault_of place n) (sym h) ∙ e))
  of_still Nothing b w found h e = (no_item, refl, ap (fault_of place n) (sym h) ∙ e)

  at_still : (u v : List ℕ) (found : Found) → without_front is_space_byte v ≡ u → IsAt u found → fault_of place n found ≡ Some fault
      → (b : ℕ) × (w : List ℕ) × (without_front is_space_byte v ≡ b ∷ w) × Still (without_front is_space_byte (v ++ x)) place n fault
  at_still [] v found e at is = absurd (short_is (ap (fault_of place n) (sym at) ∙ is))
  at_still (b ∷ w) v found e at is =
      let next = of_still (class_of b) b w found at is in
      (b, w, e, subst (λ (t : List ℕ). Still t place n fault) (sym (front_more x is_space_byte v b w e)) next)

still_ends : (rest x : List ℕ) (b : ℕ) (w : List ℕ) → without_front is_space_byte rest ≡ b ∷ w → EndsToken rest → EndsToken (rest ++ x)
still_ends [] x b w e h = absurd cc
still_ends (c ∷ rest) x b w e h = h

pub first_fault_stays : (text x : List ℕ) (fault : AdvFault) → (fault ≡ Short → ⊥) → IsFirstAdvFault text fault → IsFirstAdvFault (text ++ x) fault
first_fault_stays text x fault other h =
    let place = place_of text (without_front is_space_byte h.rest) in
    let there = at_still x place (length h.lists) fault other (without_front is_space_byte h.rest) h.rest h.found refl h.stands h.is in
    let front = end_front h.rest text (begins_end text (opening_signs h.lists) h.rest h.begins) in
    let longer = front_more x is_space_byte h.rest there.0 there.1 there.2 in
    let same : place_of (text ++ x) (without_front is_space_byte (h.rest ++ x)) ≡ place =
    omega (arith, ap length longer, ap length there.2, length-append text x, length-append there.1 x) in
    let whole : front.0 ++ (h.rest ++ x) ≡ text ++ x = sym (append_assoc front.0 h.rest x) ∙ ap (λ (s : List ℕ). s ++ x) (sym front.1) in
    record {
      lists = h.lists;
      shallow = h.shallow;
      rest = h.rest ++ x;
      begins = subst (λ (t : List ℕ). Begins t (opening_signs h.lists) (h.rest ++ x)) whole
          (begins_swaps h.rest (h.rest ++ x) (still_ends h.rest x there.0 there.1 there.2) (opening_signs h.lists) front.0 (subst (λ (t : List ℕ). Begins t (opening_signs h.lists) h.rest) front.1 h.begins));
      found = there.3.0;
      stands = there.3.1;
      is = ap (λ (p : ℕ). fault_of p (length h.lists) there.3.0) same ∙ there.3.2;
    }

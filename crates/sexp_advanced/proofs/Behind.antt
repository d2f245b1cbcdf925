-- What stands behind a part of a text is shorter, and is an end of the text.
use Rattle.std.{proofs.Common.{◌≡◌, ℕ, ◌+◌, ◌-◌, ◌*◌, ◌<◌, ◌≤◌, ◌⊎◌, inl, inr, Bool, true, false, cond, ◌==◌, ◌||◌, List, [], ◌∷◌, length, take, drop, Option, Some, None, refl, sym, ap, subst, arith, add-one}, specs.Int.is_in_range}
use Rattle.sexp_advanced.specs.{Bytes.{is_space_byte, hex_value, front_of, without_front}, Pieces.{Piece, byte, close, broken, cut, low_digit, pair_here, pair, hex_escape, third_octal, second_octal, letter, escape, quoted_piece, piece_at}}
use Rattle.sexp_advanced.specs.declared.pieces.Form.{Form, TheVariants.{Hexadecimal, Quoted}}

-- the first is a proper end of the second
abbrev pub IsBehind : List ℕ → List ℕ → Type 0
IsBehind rest [] = ⊥
IsBehind rest (b ∷ more) = (rest ≡ more) ⊎ IsBehind rest more

pub behind_shorter : (rest text : List ℕ) → IsBehind rest text → length rest < length text
behind_shorter rest [] h = absurd h
behind_shorter rest (b ∷ more) (inl e) = let l = ap length e in omega arith
behind_shorter rest (b ∷ more) (inr h) = omega (arith, behind_shorter rest more h)

pub behind_drop : (rest text : List ℕ) → IsBehind rest text → drop (length text - length rest) text ≡ rest
behind_drop rest [] h = absurd h
behind_drop rest (b ∷ more) (inl e) =
    let n : length (b ∷ more) - length rest ≡ 1 = let l = ap length e in omega arith in
    rw n (sym e)
behind_drop rest (b ∷ more) (inr h) =
    let less = behind_shorter rest more h in
    let n : length (b ∷ more) - length rest ≡ (length more - length rest) + 1 = omega arith in
    rw (n, add-one) (behind_drop rest more h)

pub behind_more : (a b c : List ℕ) → IsBehind a b → IsBehind b c → IsBehind a c
behind_more a b [] h g = absurd g
behind_more a b (x ∷ c) h (inl e) = inr (subst (IsBehind a) e h)
behind_more a b (x ∷ c) h (inr g) = inr (behind_more a b c h g)

-- as behind_more, where nothing may stand between
abbrev pub IsEnd : List ℕ → List ℕ → Type 0
IsEnd rest text = (rest ≡ text) ⊎ IsBehind rest text

pub without_front_end : (kind : ℕ → Bool) (text : List ℕ) → IsEnd (without_front kind text) text
without_front_end kind [] = inl refl
without_front_end kind (b ∷ more) =
    elim (kind b) as (λ v. IsEnd (cond v (without_front kind more) (b ∷ more)) (b ∷ more)) [
      | true ↦ inr (without_front_end kind more)
      | false ↦ inl refl
    ]

pub behind_end : (a b c : List ℕ) → IsBehind a b → IsEnd b c → IsBehind a c
behind_end a b c h (inl e) = subst (IsBehind a) e h
behind_end a b c h (inr g) = behind_more a b c h g

-- ---- behind a piece

abbrev pub LiesBehind : List ℕ → Piece → Type 0
LiesBehind text (byte b rest) = IsBehind rest text
LiesBehind text (close rest) = IsBehind rest text
LiesBehind text broken = Unit {0}
LiesBehind text cut = Unit {0}

pub lies_more : (p : Piece) (a b : List ℕ) → LiesBehind a p → IsEnd a b → LiesBehind b p
lies_more (byte n rest) a b h e = behind_end rest a b h e
lies_more (close rest) a b h e = behind_end rest a b h e
lies_more broken a b h e = tt
lies_more cut a b h e = tt

either : (text : List ℕ) (b : Bool) (p q : Piece) → LiesBehind text p → LiesBehind text q → LiesBehind text (cond b p q)
either text true p q h g = h
either text false p q h g = g

known : (text : List ℕ) (o : Option ℕ) (f : ℕ → Piece) → ((n : ℕ) → LiesBehind text (f n)) → LiesBehind text (elim o [ Some n ↦ f n | None ↦ broken ])
known text (Some n) f h = h n
known text None f h = tt

pub low_digit_behind : (high : ℕ) (text : List ℕ) → LiesBehind text (low_digit high text)
unfolding low_digit
low_digit_behind high [] = tt
low_digit_behind high (b ∷ more) = known (b ∷ more) (hex_value b) (λ low. byte (16 * high + low) more) (λ n. inl refl)

low_digit_more : (high b : ℕ) (text more : List ℕ) → IsEnd text more → LiesBehind (b ∷ more) (low_digit high text)
low_digit_more high b text more e = lies_more (low_digit high text) text (b ∷ more) (low_digit_behind high text) (inr e)

pub pair_here_behind : (text : List ℕ) → LiesBehind text (pair_here text)
unfolding pair_here
pair_here_behind [] = tt
pair_here_behind (b ∷ more) =
    either (b ∷ more) _ (close more) _ (inl refl)
    (known (b ∷ more) (hex_value b) (λ high. low_digit high (without_front is_space_byte more)) (λ high. low_digit_more high b (without_front is_space_byte more) more (without_front_end is_space_byte more)))

pair_behind : (text : List ℕ) → LiesBehind text (pair text)
unfolding pair
pair_behind text = lies_more (pair text) (without_front is_space_byte text) text (pair_here_behind (without_front is_space_byte text)) (without_front_end is_space_byte text)

pub hex_escape_behind : (text : List ℕ) → LiesBehind text (hex_escape text)
unfolding hex_escape
hex_escape_behind [] = tt
hex_escape_behind (b ∷ more) = known (b ∷ more) (hex_value b) (λ high. low_digit high more) (λ high. low_digit_more high b more more (inl refl))

pub third_octal_behind : (first second : ℕ) (text : List ℕ) → LiesBehind text (third_octal first second text)
unfolding third_octal
third_octal_behind first second [] = tt
third_octal_behind first second (b ∷ more) = either (b ∷ more) _ (byte (64 * first + 8 * second + (b - 48)) more) broken (inl refl) tt

pub second_octal_behind : (first : ℕ) (text : List ℕ) → LiesBehind text (second_octal first text)
unfolding second_octal
second_octal_behind first [] = tt
second_octal_behind first (b ∷ more) =
    either (b ∷ more) _ (third_octal first (b - 48) more) broken (lies_more (third_octal first (b - 48) more) more (b ∷ more) (third_octal_behind first (b - 48) more) (inr (inl refl))) tt

pub escape_behind : (text : List ℕ) → LiesBehind text (escape text)
unfolding escape
escape_behind [] = tt
escape_behind (b ∷ more) =
    let meant : Piece = elim (letter b) [ Some c ↦ byte c more | None ↦ broken ] in
    let octal : Piece = cond (is_in_range 48 51 b) (second_octal (b - 48) more) meant in
    either (b ∷ more) (b == 120) (hex_escape more) octal (lies_more (hex_escape more) more (b ∷ more) (hex_escape_behind more) (inr (inl refl)))
    (either (b ∷ more) (is_in_range 48 51 b) (second_octal (b - 48) more) meant (lies_more (second_octal (b - 48) more) more (b ∷ more) (second_octal_behind (b - 48) more) (inr (inl refl)))
    (known (b ∷ more) (letter b) (λ c. byte c more) (λ c. inl refl)))

pub quoted_piece_behind : (text : List ℕ) → LiesBehind text (quoted_piece text)
unfolding quoted_piece
quoted_piece_behind [] = tt
quoted_piece_behind (b ∷ more) =
    let plain : Piece = cond (b == 10 || b == 13) broken (byte b more) in
    let others : Piece = cond (b == 92) (escape more) plain in
    either (b ∷ more) (b == 34) (close more) others (inl refl)
    (either (b ∷ more) (b == 92) (escape more) plain (lies_more (escape more) more (b ∷ more) (escape_behind more) (inr (inl refl)))
    (either (b ∷ more) (b == 10 || b == 13) broken (byte b more) tt (inl refl)))

pub piece_at_behind : (form : Form) (text : List ℕ) → LiesBehind text (piece_at form text)
piece_at_behind Hexadecimal text = pair_behind text
piece_at_behind Quoted text = quoted_piece_behind text

pub byte_behind : (form : Form) (text more : List ℕ) (b : ℕ) → piece_at form text ≡ byte b more → IsBehind more text
byte_behind form text more b e = subst (LiesBehind text) e (piece_at_behind form text)

pub close_behind : (form : Form) (text more : List ℕ) → piece_at form text ≡ close more → IsBehind more text
close_behind form text more e = subst (LiesBehind text) e (piece_at_behind form text)

-- ---- a front of a kind

pub without_front_le : (kind : ℕ → Bool) (text : List ℕ) → length (without_front kind text) ≤ length text
without_front_le kind text =
    elim (without_front_end kind text) [
      | inl e ↦ let l = ap length e in omega arith
      | inr h ↦ let l = behind_shorter (without_front kind text) text h in omega arith
    ]

front_by_test : (kind : ℕ → Bool) (b : ℕ) (more : List ℕ) (v : Bool) → kind b ≡ v → take (length more - length (without_front kind more)) more ≡ front_of kind more
    → take (length (b ∷ more) - length (without_front kind (b ∷ more))) (b ∷ more) ≡ front_of kind (b ∷ more)
front_by_test kind b more true e h =
    let less = without_front_le kind more in
    let n : length (b ∷ more) - length (without_front kind more) ≡ (length more - length (without_front kind more)) + 1 = omega arith in
    rw e (rw (n, add-one) (ap (λ (s : List ℕ). b ∷ s) h))
front_by_test kind b more false e h =
    let n : length (b ∷ more) - length (b ∷ more) ≡ 0 = omega arith in
    rw e (rw n refl)

pub front_is_taken : (kind : ℕ → Bool) (text : List ℕ) → take (length text - length (without_front kind text)) text ≡ front_of kind text
front_is_taken kind [] = refl
front_is_taken kind (b ∷ more) = front_by_test kind b more (kind b) refl (front_is_taken kind more)

-- The atoms that are read are those of the grammar.
use Rattle.std.proofs.Common.{◌≡◌, ℕ, ◌+◌, ◌-◌, ◌*◌, ◌<◌, ◌≤◌, ◌⊎◌, inl, inr, ◌↔◌, Bool, true, false, cond, eqb, leb, ◌==◌, ◌||◌, List, [], ◌∷◌, ◌++◌, Option, Some, None, refl, sym, ap, subst, ◌∙◌, append_assoc, arith}
use Rattle.std.{proofs.lemmas.Bool.{eqb-true, eq-eqb, ne_eqb, leb-true, le-leb, cases_lt}, specs.Int.is_in_range}
use Rattle.sexp_advanced.specs.{Bytes.{is_space_byte, hex_value, without_front}, Pieces.{Piece, byte, close, broken, low_digit, pair_here, pair, hex_escape, is_octal, third_octal, second_octal, letter, escape, quoted_piece, piece_at}}
use Rattle.sexp_advanced.specs.{Signs.{sign, Spells, outcome, IsDelimited}, Grammar.{AreBlanks, IsPair, IsSpelling, IsClosed, IsSpelled}, declared.{pieces.Form.{Form, TheVariants.{Hexadecimal, Quoted}}, signs.Sign.TheVariants.Atom}}
use Rattle.sexp_advanced.proofs.{Again.{blanks_front, and_true, not_true}, Following.closed_by}
use Rattle.sexp_canonical.proofs.Faults.{or_true}

-- ---- what a test or a look-up gave

chosen : (t : Bool) (x y z : Piece) → cond t x y ≡ z → ((t ≡ true) × (x ≡ z)) ⊎ ((t ≡ false) × (y ≡ z))
chosen true x y z e = inl (refl, e)
chosen false x y z e = inr (refl, e)

looked_up : (o : Option ℕ) (f : ℕ → Piece) (z : Piece) → (broken ≡ z → ⊥) → elim o [ Some n ↦ f n | None ↦ broken ] ≡ z → (n : ℕ) × (o ≡ Some n) × (f n ≡ z)
looked_up (Some n) f z sound e = (n, refl, e)
looked_up None f z sound e = absurd (sound e)

no_byte_is_broken : (b : ℕ) (more : List ℕ) → broken ≡ byte b more → ⊥
no_byte_is_broken b more e = cc

no_close_is_broken : (rest : List ℕ) → broken ≡ close rest → ⊥
no_close_is_broken rest e = cc

-- the same value of a function at two bytes, where they are one
at_one : (f : ℕ → Option ℕ) (b c v : ℕ) → f b ≡ Some v → f c ≡ None → b ≡ c → ⊥
at_one f b c v e g same = let clash : Some v ≡ None = sym e ∙ ap f same ∙ g in cc

range_is : (low high b : ℕ) → is_in_range low high b ≡ true → (low ≤ b) × (b ≤ high)
range_is low high b e = let both = and_true (leb low b) (leb b high) e in (leb-true low b both.0, leb-true b high both.1)

in_range : (low high b : ℕ) → low ≤ b → b ≤ high → is_in_range low high b ≡ true
in_range low high b h g = rw (le-leb low b h, le-leb b high g) refl

-- ---- blanks

record Split (text : List ℕ) : Type 0 where
  blanks : List ℕ
  are : AreBlanks blanks
  parts : text ≡ blanks ++ without_front is_space_byte text

split_by_test : (b : ℕ) (more : List ℕ) (t : Bool) → is_space_byte b ≡ t → Split more → Split (b ∷ more)
split_by_test b more true e h = record { blanks = b ∷ h.blanks; are = (e, h.are); parts = ap (λ (s : List ℕ). b ∷ s) h.parts ∙ rw e refl }
split_by_test b more false e h = record { blanks = []; are = tt; parts = rw e refl }

split : (text : List ℕ) → Split text
split [] = record { blanks = []; are = tt; parts = refl }
split (b ∷ more) = split_by_test b more (is_space_byte b) refl (split more)

all_blanks : (blanks : List ℕ) → AreBlanks blanks → without_front is_space_byte blanks ≡ []
all_blanks [] h = refl
all_blanks (b ∷ blanks) h = let first = h.0 in rw first (all_blanks blanks h.1)

hex_no_blank : (b v : ℕ) → hex_value b ≡ Some v → is_space_byte b ≡ false
unfolding hex_value is_space_byte
hex_no_blank b v e = not_true (is_space_byte b) (λ blank.
    elim (or_true _ _ blank) [
      | inr cr ↦ at_one hex_value b 13 v e refl (eqb-true b 13 cr)
      | inl more ↦ elim (or_true _ _ more) [
        | inr lf ↦ at_one hex_value b 10 v e refl (eqb-true b 10 lf)
        | inl most ↦ elim (or_true _ _ most) [
          | inr tab ↦ at_one hex_value b 9 v e refl (eqb-true b 9 tab)
          | inl space ↦ at_one hex_value b 32 v e refl (eqb-true b 32 space)
        ]
      ]
    ])

hex_no_mark : (b v : ℕ) → hex_value b ≡ Some v → eqb b 35 ≡ false
unfolding hex_value
hex_no_mark b v e = ne_eqb b 35 (at_one hex_value b 35 v e refl)

-- ---- pairs of hexadecimal digits

record LowDigit (high : ℕ) (text : List ℕ) (b : ℕ) (more : List ℕ) : Type 0 where
  low : ℕ
  value : ℕ
  parts : text ≡ low ∷ more
  low_is : hex_value low ≡ Some value
  is : b ≡ 16 * high + value

low_digit_is : (high : ℕ) (text : List ℕ) (b : ℕ) (more : List ℕ) → low_digit high text ≡ byte b more → LowDigit high text b more
unfolding low_digit
low_digit_is high [] b more e = absurd cc
low_digit_is high (c ∷ text) b more e =
    let found = looked_up (hex_value c) (λ low. byte (16 * high + low) text) (byte b more) (no_byte_is_broken b more) e in
    let piece = found.2 in
    let rest : text ≡ more = cc in
    let number : 16 * high + found.0 ≡ b = cc in
    record { low = c; value = found.0; parts = ap (λ (s : List ℕ). c ∷ s) rest; low_is = found.1; is = sym number }

low_digit_no_close : (high : ℕ) (text rest : List ℕ) → low_digit high text ≡ close rest → ⊥
unfolding low_digit
low_digit_no_close high [] rest e = cc
low_digit_no_close high (c ∷ text) rest e =
    let found = looked_up (hex_value c) (λ low. byte (16 * high + low) text) (close rest) (no_close_is_broken rest) e in
    let piece = found.2 in cc

low_digit_again : (high low v : ℕ) (more : List ℕ) → hex_value low ≡ Some v → low_digit high (low ∷ more) ≡ byte (16 * high + v) more
unfolding low_digit
low_digit_again high low v more e = rw (e, low_digit) refl

record PairHere (text : List ℕ) (b : ℕ) (more : List ℕ) : Type 0 where
  high : ℕ
  value : ℕ
  behind : List ℕ
  parts : text ≡ high ∷ behind
  high_is : hex_value high ≡ Some value
  low : LowDigit value (without_front is_space_byte behind) b more

pair_here_is : (text : List ℕ) (b : ℕ) (more : List ℕ) → pair_here text ≡ byte b more → PairHere text b more
unfolding pair_here
pair_here_is [] b more e = absurd cc
pair_here_is (c ∷ text) b more e =
    elim (chosen (c == 35) (close text) (elim (hex_value c) [ Some high ↦ low_digit high (without_front is_space_byte text) | None ↦ broken ]) (byte b more) e) [
      | inl shut ↦ absurd (let f = shut.1 in cc)
      | inr on ↦
          let found = looked_up (hex_value c) (λ high. low_digit high (without_front is_space_byte text)) (byte b more) (no_byte_is_broken b more) on.1 in
          record { high = c; value = found.0; behind = text; parts = refl; high_is = found.1; low = low_digit_is found.0 (without_front is_space_byte text) b more found.2 }
    ]

pair_here_closes : (text rest : List ℕ) → pair_here text ≡ close rest → text ≡ 35 ∷ rest
unfolding pair_here
pair_here_closes [] rest e = absurd cc
pair_here_closes (c ∷ text) rest e =
    elim (chosen (c == 35) (close text) (elim (hex_value c) [ Some high ↦ low_digit high (without_front is_space_byte text) | None ↦ broken ]) (close rest) e) [
      | inl shut ↦
          let same = shut.1 in
          let mark : c ≡ 35 = eqb-true c 35 shut.0 in
          let behind : text ≡ rest = cc in
          λ i. mark i ∷ behind i
      | inr on ↦
          let found = looked_up (hex_value c) (λ high. low_digit high (without_front is_space_byte text)) (close rest) (no_close_is_broken rest) on.1 in
          absurd (low_digit_no_close found.0 (without_front is_space_byte text) rest found.2)
    ]

pair_spelled : (text : List ℕ) (b : ℕ) (more : List ℕ) → pair text ≡ byte b more → (spelling : List ℕ) × IsPair spelling b × (text ≡ spelling ++ more)
unfolding pair
pair_spelled text b more e =
    let front = split text in
    let here = pair_here_is (without_front is_space_byte text) b more e in
    let between = split here.behind in
    let tail : here.behind ≡ between.blanks ++ here.low.low ∷ more = between.parts ∙ ap (λ (s : List ℕ). between.blanks ++ s) here.low.parts in
    let spelling = front.blanks ++ here.high ∷ (between.blanks ++ here.low.low ∷ []) in (
      spelling,
      record {
        before = front.blanks;
        between = between.blanks;
        high = here.high;
        low = here.low.low;
        high_value = here.value;
        low_value = here.low.value;
        blanks_before = front.are;
        blanks_between = between.are;
        high_is = here.high_is;
        low_is = here.low.low_is;
        parts = refl;
        is = here.low.is;
      },
      front.parts ∙ ap (λ (s : List ℕ). front.blanks ++ s) (here.parts ∙ ap (λ (s : List ℕ). here.high ∷ s) (tail ∙ sym (append_assoc between.blanks (here.low.low ∷ []) more)))
          ∙ sym (append_assoc front.blanks (here.high ∷ (between.blanks ++ here.low.low ∷ [])) more),
    )

pair_from : (spelling : List ℕ) (b : ℕ) (more : List ℕ) → IsPair spelling b → pair (spelling ++ more) ≡ byte b more
unfolding pair pair_here
pair_from spelling b more h =
    let tail = h.between ++ h.low ∷ more in
    let text : spelling ++ more ≡ h.before ++ h.high ∷ tail =
    ap (λ (s : List ℕ). s ++ more) h.parts ∙ append_assoc h.before (h.high ∷ (h.between ++ h.low ∷ [])) more ∙ ap (λ (s : List ℕ). h.before ++ h.high ∷ s) (append_assoc h.between (h.low ∷ []) more) in
    let high_stays = hex_no_blank h.high h.high_value h.high_is in
    let low_stays = hex_no_blank h.low h.low_value h.low_is in
    let front : without_front is_space_byte (spelling ++ more) ≡ h.high ∷ tail =
    ap (without_front is_space_byte) text ∙ blanks_front h.before (h.high ∷ tail) (all_blanks h.before h.blanks_before) ∙ rw high_stays refl in
    let second : without_front is_space_byte tail ≡ h.low ∷ more = blanks_front h.between (h.low ∷ more) (all_blanks h.between h.blanks_between) ∙ rw low_stays refl in
    let mark = hex_no_mark h.high h.high_value h.high_is in
    let value = h.high_is in
    ap pair_here front ∙ rw mark (rw value (ap (low_digit h.high_value) second ∙ low_digit_again h.high_value h.low h.low_value more h.low_is ∙ ap (λ (n : ℕ). byte n more) (sym h.is)))

pair_closes : (text rest : List ℕ) → pair text ≡ close rest → IsClosed Hexadecimal text rest
unfolding pair
pair_closes text rest e =
    let front = split text in
    (front.blanks, front.are, front.parts ∙ ap (λ (s : List ℕ). front.blanks ++ s) (pair_here_closes (without_front is_space_byte text) rest e))

pair_closed : (text rest : List ℕ) → IsClosed Hexadecimal text rest → pair text ≡ close rest
unfolding pair pair_here is_space_byte
pair_closed text rest h = ap pair_here (ap (without_front is_space_byte) h.2 ∙ blanks_front h.0 (35 ∷ rest) (all_blanks h.0 h.1))

-- ---- quoted texts

record TwoDigits (first : ℕ) (text : List ℕ) (b : ℕ) (more : List ℕ) : Type 0 where
  second : ℕ
  third : ℕ
  second_digit : second ≤ 7
  third_digit : third ≤ 7
  parts : text ≡ (48 + second) ∷ (48 + third) ∷ more
  is : b ≡ 64 * first + 8 * second + third

third_is : (first second : ℕ) (text : List ℕ) (b : ℕ) (more : List ℕ) → third_octal first second text ≡ byte b more → (third : ℕ) × (third ≤ 7) × (text ≡ (48 + third) ∷ more) × (b ≡ 64 * first + 8 * second + third)
unfolding third_octal
third_is first second [] b more e = absurd cc
third_is first second (c ∷ text) b more e =
    elim (chosen (is_octal c) (byte (64 * first + 8 * second + (c - 48)) text) broken (byte b more) e) [
      | inl here ↦
          let range = range_is 48 55 c here.0 in
          let r0 = range.0 in
          let r1 = range.1 in
          let piece = here.1 in
          let behind : text ≡ more = cc in
          let number : 64 * first + 8 * second + (c - 48) ≡ b = cc in
          let glyph : c ≡ 48 + (c - 48) = omega arith in
          (c - 48, omega arith, (λ i. glyph i ∷ behind i), sym number)
      | inr on ↦ absurd (no_byte_is_broken b more on.1)
    ]

second_is : (first : ℕ) (text : List ℕ) (b : ℕ) (more : List ℕ) → second_octal first text ≡ byte b more → TwoDigits first text b more
unfolding second_octal
second_is first [] b more e = absurd cc
second_is first (c ∷ text) b more e =
    elim (chosen (is_octal c) (third_octal first (c - 48) text) broken (byte b more) e) [
      | inl here ↦
          let range = range_is 48 55 c here.0 in
          let r0 = range.0 in
          let r1 = range.1 in
          let last = third_is first (c - 48) text b more here.1 in
          let glyph : c ≡ 48 + (c - 48) = omega arith in
          record { second = c - 48; third = last.0; second_digit = omega arith; third_digit = last.1; parts = λ i. glyph i ∷ last.2 i; is = last.3 }
      | inr on ↦ absurd (no_byte_is_broken b more on.1)
    ]

abbrev Behind : (text : List ℕ) (b : ℕ) (more : List ℕ) → Type 0
Behind text b more = (spelling : List ℕ) × IsSpelling Quoted spelling b × (text ≡ spelling ++ more)

hex_escape_is : (text : List ℕ) (b : ℕ) (more : List ℕ) → hex_escape text ≡ byte b more → Behind (92 ∷ 120 ∷ text) b more
unfolding hex_escape
hex_escape_is [] b more e = absurd cc
hex_escape_is (c ∷ text) b more e =
    let found = looked_up (hex_value c) (λ high. low_digit high text) (byte b more) (no_byte_is_broken b more) e in
    let low = low_digit_is found.0 text b more found.2 in (
      92 ∷ 120 ∷ c ∷ low.low ∷ [],
      inr (inr (inr (record { high = c; low = low.low; high_value = found.0; low_value = low.value; high_is = found.1; low_is = low.low_is; parts = refl; is = low.is }))),
      ap (λ (s : List ℕ). 92 ∷ 120 ∷ c ∷ s) low.parts,
    )

octal_is : (c : ℕ) (text : List ℕ) (b : ℕ) (more : List ℕ) → is_in_range 48 51 c ≡ true → second_octal (c - 48) text ≡ byte b more → Behind (92 ∷ c ∷ text) b more
octal_is c text b more digit e =
    let range = range_is 48 51 c digit in
    let r0 = range.0 in
    let r1 = range.1 in
    let two = second_is (c - 48) text b more e in
    let d2 = two.second_digit in
    let d3 = two.third_digit in
    let is = two.is in
    let glyph : c ≡ 48 + (c - 48) = omega arith in (
      92 ∷ (48 + (c - 48)) ∷ (48 + two.second) ∷ (48 + two.third) ∷ [],
      inr (inr (inl (record {
        first = c - 48;
        second = two.second;
        third = two.third;
        first_digit = omega arith;
        second_digit = two.second_digit;
        third_digit = two.third_digit;
        parts = refl;
        is = two.is;
        most = omega arith;
      }))),
      λ i. 92 ∷ glyph i ∷ two.parts i,
    )

letter_is : (c : ℕ) (text : List ℕ) (b : ℕ) (more : List ℕ) → elim (letter c) [ Some n ↦ byte n text | None ↦ broken ] ≡ byte b more → Behind (92 ∷ c ∷ text) b more
letter_is c text b more e =
    let found = looked_up (letter c) (λ n. byte n text) (byte b more) (no_byte_is_broken b more) e in
    let piece = found.2 in
    let number : found.0 ≡ b = cc in
    let behind : text ≡ more = cc in
    (92 ∷ c ∷ [], inr (inl (record { at = c; parts = refl; is = found.1 ∙ ap (λ (n : ℕ). Some n) number })), ap (λ (s : List ℕ). 92 ∷ c ∷ s) behind)

escape_is : (text : List ℕ) (b : ℕ) (more : List ℕ) → escape text ≡ byte b more → Behind (92 ∷ text) b more
unfolding escape
escape_is [] b more e = absurd cc
escape_is (c ∷ text) b more e =
    let meant : Piece = elim (letter c) [ Some n ↦ byte n text | None ↦ broken ] in
    let octal : Piece = cond (is_in_range 48 51 c) (second_octal (c - 48) text) meant in
    elim (chosen (c == 120) (hex_escape text) octal (byte b more) e) [
      | inl hex ↦
          let x : c ≡ 120 = eqb-true c 120 hex.0 in
          subst (λ (n : ℕ). Behind (92 ∷ n ∷ text) b more) (sym x) (hex_escape_is text b more hex.1)
      | inr on ↦ elim (chosen (is_in_range 48 51 c) (second_octal (c - 48) text) meant (byte b more) on.1) [
        | inl digit ↦ octal_is c text b more digit.0 digit.1
        | inr other ↦ letter_is c text b more other.1
      ]
    ]

or_false : (s t : Bool) → (s || t) ≡ false → (s ≡ false) × (t ≡ false)
or_false true t e = absurd cc
or_false false t e = (refl, e)

differs : (b c : ℕ) → eqb b c ≡ false → b ≡ c → ⊥
differs b c e same = let both : true ≡ false = sym (eq-eqb b c same) ∙ e in cc

quoted_spelled : (text : List ℕ) (b : ℕ) (more : List ℕ) → quoted_piece text ≡ byte b more → Behind text b more
unfolding quoted_piece
quoted_spelled [] b more e = absurd cc
quoted_spelled (c ∷ text) b more e =
    let plain : Piece = cond (c == 10 || c == 13) broken (byte c text) in
    let others : Piece = cond (c == 92) (escape text) plain in
    elim (chosen (c == 34) (close text) others (byte b more) e) [
      | inl shut ↦ absurd (let f = shut.1 in cc)
      | inr on ↦ elim (chosen (c == 92) (escape text) plain (byte b more) on.1) [
        | inl slash ↦
            let mark : c ≡ 92 = eqb-true c 92 slash.0 in
            subst (λ (n : ℕ). Behind (n ∷ text) b more) (sym mark) (escape_is text b more slash.1)
        | inr off ↦ elim (chosen (c == 10 || c == 13) broken (byte c text) (byte b more) off.1) [
          | inl ends ↦ absurd (no_byte_is_broken b more ends.1)
          | inr stays ↦
              let piece = stays.1 in
              let number : c ≡ b = cc in
              let behind : text ≡ more = cc in
              let lines = or_false (c == 10) (c == 13) stays.0 in (
                b ∷ [],
                inl (record {
                  parts = refl;
                  no_quote = λ same. differs c 34 on.0 (number ∙ same);
                  no_backslash = λ same. differs c 92 off.0 (number ∙ same);
                  no_line_feed = λ same. differs c 10 lines.0 (number ∙ same);
                  no_carriage_return = λ same. differs c 13 lines.1 (number ∙ same);
                }),
                λ i. number i ∷ behind i,
              )
        ]
      ]
    ]

-- ---- and the other way round

plain_from : (b : ℕ) (more : List ℕ) → (b ≡ 34 → ⊥) → (b ≡ 92 → ⊥) → (b ≡ 10 → ⊥) → (b ≡ 13 → ⊥) → quoted_piece (b ∷ more) ≡ byte b more
unfolding quoted_piece
plain_from b more h0 h1 h2 h3 =
    let e0 = ne_eqb b 34 h0 in
    let e1 = ne_eqb b 92 h1 in
    let e2 = ne_eqb b 10 h2 in
    let e3 = ne_eqb b 13 h3 in
    rw e0 (rw e1 (rw e2 (rw e3 refl)))

four : (c : ℕ) → 48 ≤ c → c ≤ 51 → (c ≡ 48) ⊎ ((c ≡ 49) ⊎ ((c ≡ 50) ⊎ (c ≡ 51)))
four c low high = by_cases (cases_lt c 49) (cases_lt c 50) (cases_lt c 51)
  where
    by_cases : ((c < 49) ⊎ (49 ≤ c)) → ((c < 50) ⊎ (50 ≤ c)) → ((c < 51) ⊎ (51 ≤ c)) → (c ≡ 48) ⊎ ((c ≡ 49) ⊎ ((c ≡ 50) ⊎ (c ≡ 51)))
    by_cases (inl a) s t = inl (omega arith)
    by_cases (inr a) (inl s) t = inr (inl (omega arith))
    by_cases (inr a) (inr s) (inl t) = inr (inr (inl (omega arith)))
    by_cases (inr a) (inr s) (inr t) = inr (inr (inr (omega arith)))

letter_no_digit : (c v : ℕ) → letter c ≡ Some v → is_in_range 48 51 c ≡ false
unfolding letter
letter_no_digit c v e = not_true (is_in_range 48 51 c) (λ digit.
    let range = range_is 48 51 c digit in
    elim (four c range.0 range.1) [
      | inl a ↦ at_one letter c 48 v e refl a
      | inr (inl a) ↦ at_one letter c 49 v e refl a
      | inr (inr (inl a)) ↦ at_one letter c 50 v e refl a
      | inr (inr (inr a)) ↦ at_one letter c 51 v e refl a
    ])

letter_no_x : (c v : ℕ) → letter c ≡ Some v → eqb c 120 ≡ false
unfolding letter
letter_no_x c v e = ne_eqb c 120 (at_one letter c 120 v e refl)

letter_from : (c v : ℕ) (more : List ℕ) → letter c ≡ Some v → quoted_piece (92 ∷ c ∷ more) ≡ byte v more
unfolding quoted_piece escape
letter_from c v more e =
    let no_x = letter_no_x c v e in
    let no_digit = letter_no_digit c v e in
    rw no_x (rw no_digit (rw e refl))

third_from : (i j k : ℕ) (more : List ℕ) → k ≤ 7 → third_octal i j ((48 + k) ∷ more) ≡ byte (64 * i + 8 * j + k) more
unfolding third_octal
third_from i j k more h =
    let digit : is_octal (48 + k) ≡ true = in_range 48 55 (48 + k) (omega arith) (omega arith) in
    let value : (48 + k) - 48 ≡ k = omega arith in
    rw digit (rw value refl)

second_from : (i j k : ℕ) (more : List ℕ) → j ≤ 7 → k ≤ 7 → second_octal i ((48 + j) ∷ (48 + k) ∷ more) ≡ byte (64 * i + 8 * j + k) more
unfolding second_octal
second_from i j k more h g =
    let digit : is_octal (48 + j) ≡ true = in_range 48 55 (48 + j) (omega arith) (omega arith) in
    let value : (48 + j) - 48 ≡ j = omega arith in
    rw digit (ap (λ (n : ℕ). third_octal i n ((48 + k) ∷ more)) value ∙ third_from i j k more g)

octal_from : (i j k : ℕ) (more : List ℕ) → i ≤ 3 → j ≤ 7 → k ≤ 7 → quoted_piece (92 ∷ (48 + i) ∷ (48 + j) ∷ (48 + k) ∷ more) ≡ byte (64 * i + 8 * j + k) more
unfolding quoted_piece escape
octal_from i j k more f h g =
    let no_x : eqb (48 + i) 120 ≡ false = ne_eqb (48 + i) 120 (λ same. omega arith) in
    let digit : is_in_range 48 51 (48 + i) ≡ true = in_range 48 51 (48 + i) (omega arith) (omega arith) in
    let value : (48 + i) - 48 ≡ i = omega arith in
    rw no_x (rw digit (ap (λ (n : ℕ). second_octal n ((48 + j) ∷ (48 + k) ∷ more)) value ∙ second_from i j k more h g))

hex_from : (high low v w : ℕ) (more : List ℕ) → hex_value high ≡ Some v → hex_value low ≡ Some w → quoted_piece (92 ∷ 120 ∷ high ∷ low ∷ more) ≡ byte (16 * v + w) more
unfolding quoted_piece escape hex_escape
hex_from high low v w more e f = rw (e, hex_escape) (low_digit_again v low w more f)

module _ (more : List ℕ) (b : ℕ) (spelling : List ℕ) where
  quoted_from : IsSpelling Quoted spelling b → quoted_piece (spelling ++ more) ≡ byte b more
  quoted_from (inl h) = ap (λ (s : List ℕ). quoted_piece (s ++ more)) h.parts ∙ plain_from b more h.no_quote h.no_backslash h.no_line_feed h.no_carriage_return
  quoted_from (inr (inl h)) = ap (λ (s : List ℕ). quoted_piece (s ++ more)) h.parts ∙ letter_from h.at b more h.is
  quoted_from (inr (inr (inl h))) =
      let is = h.is in
      let most = h.most in
      ap (λ (s : List ℕ). quoted_piece (s ++ more)) h.parts ∙ octal_from h.first h.second h.third more (omega arith) h.second_digit h.third_digit ∙ ap (λ (n : ℕ). byte n more) (sym h.is)
  quoted_from (inr (inr (inr h))) =
      ap (λ (s : List ℕ). quoted_piece (s ++ more)) h.parts ∙ hex_from h.high h.low h.high_value h.low_value more h.high_is h.low_is ∙ ap (λ (n : ℕ). byte n more) (sym h.is)

no_byte_closes : (c : ℕ) (text rest : List ℕ) → byte c text ≡ close rest → ⊥
no_byte_closes c text rest e = cc

third_no_close : (i j : ℕ) (text rest : List ℕ) → third_octal i j text ≡ close rest → ⊥
unfolding third_octal
third_no_close i j [] rest e = cc
third_no_close i j (c ∷ text) rest e =
    elim (chosen (is_octal c) (byte (64 * i + 8 * j + (c - 48)) text) broken (close rest) e) [ inl a ↦ no_byte_closes (64 * i + 8 * j + (c - 48)) text rest a.1 | inr a ↦ no_close_is_broken rest a.1 ]

second_no_close : (i : ℕ) (text rest : List ℕ) → second_octal i text ≡ close rest → ⊥
unfolding second_octal
second_no_close i [] rest e = cc
second_no_close i (c ∷ text) rest e =
    elim (chosen (is_octal c) (third_octal i (c - 48) text) broken (close rest) e) [ inl a ↦ third_no_close i (c - 48) text rest a.1 | inr a ↦ no_close_is_broken rest a.1 ]

hex_no_close : (text rest : List ℕ) → hex_escape text ≡ close rest → ⊥
unfolding hex_escape
hex_no_close [] rest e = cc
hex_no_close (c ∷ text) rest e =
    let found = looked_up (hex_value c) (λ high. low_digit high text) (close rest) (no_close_is_broken rest) e in
    low_digit_no_close found.0 text rest found.2

escape_no_close : (text rest : List ℕ) → escape text ≡ close rest → ⊥
unfolding escape
escape_no_close [] rest e = cc
escape_no_close (c ∷ text) rest e =
    let meant : Piece = elim (letter c) [ Some n ↦ byte n text | None ↦ broken ] in
    let octal : Piece = cond (is_in_range 48 51 c) (second_octal (c - 48) text) meant in
    elim (chosen (c == 120) (hex_escape text) octal (close rest) e) [
      | inl a ↦ hex_no_close text rest a.1
      | inr a ↦ elim (chosen (is_in_range 48 51 c) (second_octal (c - 48) text) meant (close rest) a.1) [
        | inl d ↦ second_no_close (c - 48) text rest d.1
        | inr d ↦ let found = looked_up (letter c) (λ n. byte n text) (close rest) (no_close_is_broken rest) d.1 in no_byte_closes found.0 text rest found.2
      ]
    ]

quoted_closes : (text rest : List ℕ) → quoted_piece text ≡ close rest → text ≡ 34 ∷ rest
unfolding quoted_piece
quoted_closes [] rest e = absurd cc
quoted_closes (c ∷ text) rest e =
    let plain : Piece = cond (c == 10 || c == 13) broken (byte c text) in
    let others : Piece = cond (c == 92) (escape text) plain in
    elim (chosen (c == 34) (close text) others (close rest) e) [
      | inl shut ↦
          let same = shut.1 in
          let mark : c ≡ 34 = eqb-true c 34 shut.0 in
          let behind : text ≡ rest = cc in
          λ i. mark i ∷ behind i
      | inr on ↦ elim (chosen (c == 92) (escape text) plain (close rest) on.1) [
        | inl a ↦ absurd (escape_no_close text rest a.1)
        | inr a ↦ elim (chosen (c == 10 || c == 13) broken (byte c text) (close rest) a.1) [
          | inl d ↦ absurd (no_close_is_broken rest d.1)
          | inr d ↦ absurd (no_byte_closes c text rest d.1)
        ]
      ]
    ]

quoted_closed : (text rest : List ℕ) → text ≡ 34 ∷ rest → quoted_piece text ≡ close rest
unfolding quoted_piece
quoted_closed text rest e = ap quoted_piece e

-- ---- both forms

spelled : (form : Form) (text : List ℕ) (b : ℕ) (more : List ℕ) → piece_at form text ≡ byte b more → (spelling : List ℕ) × IsSpelling form spelling b × (text ≡ spelling ++ more)
spelled Hexadecimal text b more e = pair_spelled text b more e
spelled Quoted text b more e = quoted_spelled text b more e

from_spelling : (form : Form) (spelling : List ℕ) (b : ℕ) (more : List ℕ) → IsSpelling form spelling b → piece_at form (spelling ++ more) ≡ byte b more
from_spelling Hexadecimal spelling b more h = pair_from spelling b more h
from_spelling Quoted spelling b more h = quoted_from more b spelling h

closes : (form : Form) (text rest : List ℕ) → piece_at form text ≡ close rest → IsClosed form text rest
closes Hexadecimal text rest e = pair_closes text rest e
closes Quoted text rest e = quoted_closes text rest e

from_closed : (form : Form) (text rest : List ℕ) → IsClosed form text rest → piece_at form text ≡ close rest
from_closed Hexadecimal text rest h = pair_closed text rest h
from_closed Quoted text rest h = quoted_closed text rest h

all_spelled : (form : Form) (text bytes at rest : List ℕ) → Spells form text bytes at → piece_at form at ≡ close rest → IsSpelled form text bytes rest
all_spelled form text [] at rest h e = closes form text rest (ap (piece_at form) h ∙ e)
all_spelled form text (b ∷ bytes) at rest h e =
    let one = spelled form text b h.0 h.1 in
    (one.0, h.0, one.1, one.2, all_spelled form h.0 bytes at rest h.2 e)

from_spelled : (form : Form) (text bytes rest : List ℕ) → IsSpelled form text bytes rest → (at : List ℕ) × Spells form text bytes at × (piece_at form at ≡ close rest)
from_spelled form text [] rest h = (text, refl, from_closed form text rest h)
from_spelled form text (b ∷ bytes) rest h =
    let others = from_spelled form h.1 bytes rest h.4 in
    (others.0, (h.1, ap (piece_at form) h.3 ∙ from_spelling form h.0 b h.1 h.2, others.1), others.2)

pub atoms_are_spelled : (form : Form) (text bytes rest : List ℕ) → IsDelimited form text (sign (Atom bytes) rest) ↔ IsSpelled form text bytes rest
atoms_are_spelled form text bytes rest = (
  λ h.
      let by = closed_by [] [] h.bytes (piece_at form h.at) (Atom bytes) rest h.is in
      let same : h.bytes ≡ bytes = let atom = by.1 in cc in
      subst (λ (s : List ℕ). IsSpelled form text s rest) same (all_spelled form text h.bytes h.at rest h.spelled by.0),
  λ h.
      let there = from_spelled form text bytes rest h in
      record { bytes = bytes; at = there.0; spelled = there.1; is = ap (outcome bytes) there.2 },
)

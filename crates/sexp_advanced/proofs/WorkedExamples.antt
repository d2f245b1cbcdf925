-- The definitions at worked rows.
use Rattle.std.proofs.Common.{◌≡◌, ℕ, zero, suc, List, [], ◌∷◌, ◌++◌, replicate, Ok, Err, refl, inr, arith}
use Rattle.sexp_canonical.specs.{Tree.leaf, Spelling.numeral, Reading.{OpenLists, length_fault}, declared.{tree.Sexp.TheVariants.{Atom as Atomic, List as Listed}, fault.SexpFault.TheVariants.BadLength as CanonicalBadLength}}
use Rattle.sexp_advanced.specs.Bytes.{is_space_byte, is_token_mark, is_token_start, is_token_byte, hex_value, class_of}
use Rattle.sexp_advanced.specs.{Pieces.{byte, close, broken, cut, low_digit, pair_here, pair, hex_escape, third_octal, second_octal, letter, escape, quoted_piece, piece_at}, Signs.{sign, broken_atom, ended, no_item}}
use Rattle.sexp_advanced.specs.{Reading.{opening_signs, Begins, ReadsAdvanced}, Writing.advanced_of, declared.{pieces.Form.TheVariants.Quoted, signs.Sign.TheVariants.{Open, Close}}}
use Rattle.sexp_advanced.specs.declared.fault.AdvFault.TheVariants.{BadByte, BadAtom, Deep, Short}

-- ---- quoted texts: each escape, and what is none

module _ (more : List ℕ) where
  -- `\b \t \v \n \f \r \" \' \\`
  letters : (piece_at Quoted (92 ∷ 98 ∷ more) ≡ byte 8 more) × (piece_at Quoted (92 ∷ 116 ∷ more) ≡ byte 9 more) × (piece_at Quoted (92 ∷ 118 ∷ more) ≡ byte 11 more)
      × (piece_at Quoted (92 ∷ 110 ∷ more) ≡ byte 10 more) × (piece_at Quoted (92 ∷ 102 ∷ more) ≡ byte 12 more) × (piece_at Quoted (92 ∷ 114 ∷ more) ≡ byte 13 more)
      × (piece_at Quoted (92 ∷ 34 ∷ more) ≡ byte 34 more) × (piece_at Quoted (92 ∷ 39 ∷ more) ≡ byte 39 more) × (piece_at Quoted (92 ∷ 92 ∷ more) ≡ byte 92 more)
  unfolding quoted_piece escape letter
  letters = (refl, refl, refl, refl, refl, refl, refl, refl, refl)

  -- `\000`, `\377`, `\400`, `\378`
  octals : (piece_at Quoted (92 ∷ 48 ∷ 48 ∷ 48 ∷ more) ≡ byte 0 more) × (piece_at Quoted (92 ∷ 51 ∷ 55 ∷ 55 ∷ more) ≡ byte 255 more)
      × (piece_at Quoted (92 ∷ 52 ∷ 48 ∷ 48 ∷ more) ≡ broken) × (piece_at Quoted (92 ∷ 51 ∷ 55 ∷ 56 ∷ more) ≡ broken)
  unfolding quoted_piece escape letter second_octal third_octal
  octals = (refl, refl, refl, refl)

  -- `\x4a`, `\xFf`, `\x4g`, `\xg`
  hexadecimals : (piece_at Quoted (92 ∷ 120 ∷ 52 ∷ 97 ∷ more) ≡ byte 74 more) × (piece_at Quoted (92 ∷ 120 ∷ 70 ∷ 102 ∷ more) ≡ byte 255 more)
      × (piece_at Quoted (92 ∷ 120 ∷ 52 ∷ 103 ∷ more) ≡ broken) × (piece_at Quoted (92 ∷ 120 ∷ 103 ∷ more) ≡ broken)
  unfolding quoted_piece escape hex_escape low_digit hex_value
  hexadecimals = (refl, refl, refl, refl)

  -- LF, CR, `\q`, a backslash before LF, the closing quote, and a byte above ASCII
  others : (piece_at Quoted (10 ∷ more) ≡ broken) × (piece_at Quoted (13 ∷ more) ≡ broken) × (piece_at Quoted (92 ∷ 113 ∷ more) ≡ broken)
      × (piece_at Quoted (92 ∷ 10 ∷ more) ≡ broken) × (piece_at Quoted (34 ∷ more) ≡ close more) × (piece_at Quoted (195 ∷ more) ≡ byte 195 more)
  unfolding quoted_piece escape letter
  others = (refl, refl, refl, refl, refl, refl)

-- nothing, `\`, `\x`, `\x4`, `\3`, `\37` at the end of the bytes
cuts : (piece_at Quoted [] ≡ cut) × (piece_at Quoted (92 ∷ []) ≡ cut) × (piece_at Quoted (92 ∷ 120 ∷ []) ≡ cut) × (piece_at Quoted (92 ∷ 120 ∷ 52 ∷ []) ≡ cut)
    × (piece_at Quoted (92 ∷ 51 ∷ []) ≡ cut) × (piece_at Quoted (92 ∷ 51 ∷ 55 ∷ []) ≡ cut)
unfolding quoted_piece escape hex_escape low_digit hex_value second_octal third_octal
cuts = (refl, refl, refl, refl, refl, refl)

-- ---- items

-- ` d)`: a blank, and a token that ends before `)`
a_token : ReadsAdvanced (32 ∷ 100 ∷ 45 ∷ 48 ∷ 41 ∷ []) (Ok (Atomic (100 ∷ 45 ∷ 48 ∷ []), 4))
unfolding is_space_byte class_of is_token_mark is_token_start is_token_byte
a_token = record { within = omega arith; shallow = omega arith; spelled = (41 ∷ [], refl, refl) }

-- `# 4 4#`: blanks between the two digits of a pair too
blanks_in_hexadecimal : ReadsAdvanced (35 ∷ 32 ∷ 52 ∷ 32 ∷ 52 ∷ 35 ∷ []) (Ok (Atomic (68 ∷ []), 6))
unfolding is_space_byte class_of pair pair_here low_digit hex_value
blanks_in_hexadecimal = record {
  within = omega arith;
  shallow = omega arith;
  spelled = ([], record { bytes = 68 ∷ []; at = 35 ∷ []; spelled = (35 ∷ [], refl, refl); is = refl }, refl);
}

-- `("Q"2:a b)`: a quoted text, and a canonical atom beside it without a blank
a_list : ReadsAdvanced (40 ∷ 34 ∷ 81 ∷ 34 ∷ 50 ∷ 58 ∷ 97 ∷ 32 ∷ 41 ∷ []) (Ok (Listed (leaf (81 ∷ []) ∷ leaf (97 ∷ 32 ∷ []) ∷ []), 9))
unfolding is_space_byte class_of quoted_piece numeral
a_list = record {
  within = omega arith;
  shallow = omega arith;
  spelled = (
    34 ∷ 81 ∷ 34 ∷ 50 ∷ 58 ∷ 97 ∷ 32 ∷ 41 ∷ [],
    refl,
    (
      50 ∷ 58 ∷ 97 ∷ 32 ∷ 41 ∷ [],
      record { bytes = 81 ∷ []; at = 34 ∷ 50 ∷ 58 ∷ 97 ∷ 32 ∷ 41 ∷ []; spelled = (34 ∷ 50 ∷ 58 ∷ 97 ∷ 32 ∷ 41 ∷ [], refl, refl); is = refl },
      (
        41 ∷ [],
        record { answer = Ok (Atomic (97 ∷ 32 ∷ []), 4); reads = (omega arith, record { spelled = refl; shallow = omega arith; short = omega arith }); is = refl },
        ([], refl, refl),
      ),
    ),
  );
}

-- it is written `(Q #6120#)`
a_list_written : advanced_of (Listed (leaf (81 ∷ []) ∷ leaf (97 ∷ 32 ∷ []) ∷ [])) ≡ 40 ∷ 81 ∷ 32 ∷ 35 ∷ 54 ∷ 49 ∷ 50 ∷ 48 ∷ 35 ∷ 41 ∷ []
unfolding is_token_mark is_token_start is_token_byte
a_list_written = refl

-- ---- faults

-- the bytes end at once
nothing_there : ReadsAdvanced [] (Err Short)
nothing_there = record { lists = []; shallow = omega arith; rest = []; begins = refl; found = ended; stands = refl; is = refl }

-- ` )`
an_end_too_many : ReadsAdvanced (32 ∷ 41 ∷ []) (Err (BadByte 1))
unfolding is_space_byte class_of
an_end_too_many = record { lists = []; shallow = omega arith; rest = 32 ∷ 41 ∷ []; begins = refl; found = sign Close []; stands = refl; is = refl }

-- `(a [`: the place of the byte
no_display_hint : ReadsAdvanced (40 ∷ 97 ∷ 32 ∷ 91 ∷ []) (Err (BadByte 3))
unfolding is_space_byte class_of is_token_mark is_token_start is_token_byte
no_display_hint = record {
  lists = (leaf (97 ∷ []) ∷ []) ∷ [];
  shallow = omega arith;
  rest = 32 ∷ 91 ∷ [];
  begins = (97 ∷ 32 ∷ 91 ∷ [], refl, (32 ∷ 91 ∷ [], refl, refl));
  found = no_item;
  stands = refl;
  is = refl;
}

-- `(#4`: cut off; ` #4#`: an odd count of digits, with the place of the first `#`
cut_in_hexadecimal : ReadsAdvanced (40 ∷ 35 ∷ 52 ∷ []) (Err Short)
unfolding is_space_byte class_of pair pair_here low_digit hex_value
cut_in_hexadecimal = record {
  lists = [] ∷ [];
  shallow = omega arith;
  rest = 35 ∷ 52 ∷ [];
  begins = (35 ∷ 52 ∷ [], refl, refl);
  found = ended;
  stands = record { bytes = []; at = 52 ∷ []; spelled = refl; is = refl };
  is = refl;
}

an_odd_digit : ReadsAdvanced (32 ∷ 35 ∷ 52 ∷ 35 ∷ []) (Err (BadAtom 1))
unfolding is_space_byte class_of pair pair_here low_digit hex_value
an_odd_digit = record {
  lists = [];
  shallow = omega arith;
  rest = 32 ∷ 35 ∷ 52 ∷ 35 ∷ [];
  begins = refl;
  found = broken_atom;
  stands = record { bytes = []; at = 52 ∷ 35 ∷ []; spelled = refl; is = refl };
  is = refl;
}

-- `"a` and LF: the place of the quote
a_bare_line_feed : ReadsAdvanced (34 ∷ 97 ∷ 10 ∷ []) (Err (BadAtom 0))
unfolding is_space_byte class_of quoted_piece
a_bare_line_feed = record {
  lists = [];
  shallow = omega arith;
  rest = 34 ∷ 97 ∷ 10 ∷ [];
  begins = refl;
  found = broken_atom;
  stands = record { bytes = 97 ∷ []; at = 10 ∷ []; spelled = (10 ∷ [], refl, refl); is = refl };
  is = refl;
}

-- `03:`: a canonical length with a zero in front
a_leading_zero : ReadsAdvanced (48 ∷ 51 ∷ 58 ∷ []) (Err (BadAtom 0))
unfolding is_space_byte class_of numeral length_fault
a_leading_zero = record {
  lists = [];
  shallow = omega arith;
  rest = 48 ∷ 51 ∷ 58 ∷ [];
  begins = refl;
  found = broken_atom;
  stands = record {
    answer = Err (CanonicalBadLength 0);
    reads = record {
      lists = [];
      shallow = omega arith;
      bytes = 48 ∷ 51 ∷ 58 ∷ [];
      parts = refl;
      at = inr (record { count = 0; after = 51 ∷ 58 ∷ []; within = omega arith; parts = refl; at = refl });
    };
    is = refl;
  };
  is = refl;
}

-- ---- 64 lists, and a 65th

no_lists : ℕ → OpenLists
no_lists n = replicate n []

opened : (n : ℕ) (rest : List ℕ) → Begins (replicate n 40 ++ rest) (opening_signs (no_lists n)) rest
unfolding is_space_byte class_of no_lists
opened zero rest = refl
opened (suc n) rest = (replicate n 40 ++ rest, refl, opened n rest)

as_deep_as_may_be : ReadsAdvanced (replicate 64 40) (Err Short)
unfolding no_lists
as_deep_as_may_be = record { lists = no_lists 64; shallow = omega arith; rest = []; begins = opened 64 []; found = ended; stands = refl; is = refl }

one_too_many : ReadsAdvanced (replicate 65 40) (Err (Deep 64))
unfolding is_space_byte class_of no_lists
one_too_many = record { lists = no_lists 64; shallow = omega arith; rest = 40 ∷ []; begins = opened 64 (40 ∷ []); found = sign Open []; stands = refl; is = refl }

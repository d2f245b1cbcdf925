-- The definitions on worked examples, each by computation.
use Rattle.std.{proofs.Common.{inr, sym, subst, lit≤}, specs.{Prelude.{◌≡◌, ℕ, ◌≤◌, List, [], ◌∷◌, ◌++◌, length, codes, false, Some, None, refl}, List.repeat}}
use Rattle.sexp_canonical.specs.{Tree.{Tree, leaf, list_of}, View.tree_of, Spelling.{numeral, most_bytes, spelling_of}, declared.tree.Sexp.Sexp}
use Rattle.sexp_advanced.specs.{Bytes.{is_space_byte as is_between, hex_value, is_token_byte, is_token_start, is_token_mark, class_of}, Pieces.{quoted_piece, escape, pair, pair_here, low_digit}, Signs.{sign, IsDelimited}}
use Rattle.sexp_advanced.specs.{Reading.{signs, Begins}, declared.{pieces.Form.TheVariants.{Hexadecimal, Quoted}, signs.Sign.TheVariants.Atom}}
use Rattle.key_lines.specs.{Lines.{lines_of, line_text}, Items.line_form, Faults.line_fault, KeyItem.{has_key, key_value, before_key, after_key}, KeyFile.{IsKeyFile, with_key}, Canon.{is_canonical, Canon}, Codes.sexp_of}
use Rattle.key_lines.specs.declared.{forms.LineForm.TheVariants.{Comment, GoesOn, Item, NoForm}, fault.LinesFault.TheVariants.{BadLine, NoKey, TwoKeys}}

abbrev lf : List ℕ
lf = 10 ∷ []

abbrev cr : List ℕ
cr = 13 ∷ []

abbrev tab : List ℕ
tab = 9 ∷ []

-- a key on two lines behind another item
abbrev worked : List ℕ
worked = codes "Created: x" ++ lf ++ codes "Key: (private-key (ecc (q \"Q\")" ++ lf ++ codes " (d #44#)))" ++ lf

worked_formed : line_fault worked ≡ None
worked_formed = refl

worked_before : before_key worked ≡ codes "Created: x" ++ lf
worked_before = refl

worked_value : key_value worked ≡ codes "(private-key (ecc (q \"Q\")(d #44#)))"
worked_value = refl

worked_after : after_key worked ≡ []
worked_after = refl

worked_extended : is_canonical worked ≡ false
worked_extended = refl

-- the lines of a file, with no LF at the end, and with one
no_end : lines_of (codes "a" ++ lf ++ lf ++ codes "b") ≡ (codes "a" ++ lf) ∷ lf ∷ codes "b" ∷ []
no_end = refl

one_end : lines_of (codes "a" ++ lf) ≡ (codes "a" ++ lf) ∷ []
one_end = refl

no_lines : lines_of [] ≡ []
no_lines = refl

-- one CR before the LF is of the line's end, and no other
cr_lf : line_text (codes "a" ++ cr ++ lf) ≡ codes "a"
cr_lf = refl

two_cr : line_text (codes "a" ++ cr ++ cr ++ lf) ≡ codes "a" ++ cr
two_cr = refl

cr_at_the_end : line_text (codes "a" ++ cr) ≡ codes "a" ++ cr
cr_at_the_end = refl

cr_alone : line_fault (cr ++ cr ++ lf) ≡ Some (BadLine 0)
cr_alone = refl

-- a file of one LF is one blank line, and has no key
one_lf : line_fault lf ≡ None
one_lf = refl

one_lf_has_no_key : has_key lf ≡ false
one_lf_has_no_key = refl

-- blank lines and comments, which end an item
blanks : line_form (codes " " ++ tab ++ cr ++ lf) ≡ Comment
blanks = refl

comment : line_form (codes "#Key: a" ++ lf) ≡ Comment
comment = refl

no_comment : line_form (codes " #a" ++ lf) ≡ GoesOn
no_comment = refl

comment_ends_the_item : line_fault (codes "Key: (a" ++ lf ++ codes "# c" ++ lf ++ codes " b)" ++ lf) ≡ Some (BadLine 2)
comment_ends_the_item = refl

-- the case of a name doesn't count, and the first fault from the top comes first
second_key : line_fault (codes "KEY: a" ++ lf ++ codes "Label: b" ++ lf ++ codes "kEy:c" ++ lf ++ codes "?") ≡ Some (TwoKeys 2)
second_key = refl

bad_line_first : line_fault (codes "KEY: a" ++ lf ++ codes "?" ++ lf ++ codes "Key: c") ≡ Some (BadLine 1)
bad_line_first = refl

-- a name has at most 60 bytes, and begins with a letter
long_name : line_form (repeat 60 (codes "a") ++ codes ": b") ≡ Item
long_name = refl

longer_name : line_form (repeat 61 (codes "a") ++ codes ": b") ≡ NoForm
longer_name = refl

digit_first : line_form (codes "1a: b") ≡ NoForm
digit_first = refl

blank_before_the_colon : line_form (codes "Key : a") ≡ NoForm
blank_before_the_colon = refl

-- what follows the item stays, and so does what is before it
around : after_key (codes "Key:" ++ lf ++ codes " (a)" ++ cr ++ lf ++ codes "# c" ++ lf ++ codes "B: d") ≡ codes "# c" ++ lf ++ codes "B: d"
around = refl

-- ---- a value over lines

folded : key_value (codes "Key:" ++ lf ++ tab ++ codes "(a" ++ cr ++ lf ++ codes " )") ≡ codes "(a)"
folded = refl

-- lines of a key that GnuPG wrote: before a blank of the value a fold is two blanks, and else one, also within a token
folded_token : key_value (codes "Key: (q" ++ lf ++ codes "  #C4#)(prote" ++ lf ++ codes " cted openpgp-s2k3-ocb-aes ((sha1 #31#" ++ lf ++ codes "  \"77\"))))" ++ lf)
    ≡ codes "(q #C4#)(protected openpgp-s2k3-ocb-aes ((sha1 #31# \"77\"))))"
folded_token = refl

folded_at_a_blank : key_value (codes "Key: (protected" ++ lf ++ codes "  openpgp-s2k3-ocb-aes)" ++ lf) ≡ codes "(protected openpgp-s2k3-ocb-aes)"
folded_at_a_blank = refl

folded_in_hexadecimal : key_value (codes "Key: (q #C061" ++ lf ++ codes " 2242#)" ++ lf) ≡ codes "(q #C0612242#)"
folded_in_hexadecimal = refl

folded_in_a_quoted_text : key_value (codes "Key: (curve \"NIST P-" ++ lf ++ codes " 256\")" ++ lf) ≡ codes "(curve \"NIST P-256\")"
folded_in_a_quoted_text = refl

folded_at_a_blank_of_a_quoted_text : key_value (codes "Key: (curve \"NIST" ++ lf ++ codes "  P-256\")" ++ lf) ≡ codes "(curve \"NIST P-256\")"
folded_at_a_blank_of_a_quoted_text = refl

-- behind the colon too one blank isn't of the value, and those at the end of a line aren't, whichever they are
first_blank : key_value (codes "Key:  (a \"b " ++ lf ++ tab ++ codes " c" ++ tab ++ codes " " ++ cr ++ lf ++ codes " \")" ++ tab) ≡ codes " (a \"b c\")"
first_blank = refl

none_behind_the_colon : key_value (codes "Key:(a" ++ lf ++ codes " b)") ≡ codes "(ab)"
none_behind_the_colon = refl

-- ---- the canonical file

abbrev worked_tree : Tree
worked_tree = list_of
    (leaf (codes "private-key")
    ∷ list_of (leaf (codes "ecc") ∷ list_of (leaf (codes "q") ∷ leaf (codes "Q") ∷ []) ∷ list_of (leaf (codes "d") ∷ leaf (codes "D") ∷ []) ∷ [])
    ∷ [])

abbrev worked_key : Sexp
worked_key = sexp_of worked_tree

abbrev canonical : List ℕ
canonical = codes "(11:private-key(3:ecc(1:q1:Q)(1:d1:D)))"

worked_length : length canonical ≡ 39
worked_length = refl

worked_spelling : spelling_of worked_key ≡ canonical
unfolding numeral
worked_spelling = refl

tree_of_worked_key : tree_of worked_key ≡ worked_tree
tree_of_worked_key = refl

quoted : IsDelimited Quoted (codes "Q\")(d #44#)))") (sign (Atom (codes "Q")) (codes ")(d #44#)))"))
unfolding quoted_piece escape
quoted = record { bytes = codes "Q"; at = codes "\")(d #44#)))"; spelled = (codes "\")(d #44#)))", refl, refl); is = refl }

hexadecimal : IsDelimited Hexadecimal (codes "44#)))") (sign (Atom (codes "D")) (codes ")))"))
unfolding pair pair_here low_digit hex_value is_between
hexadecimal = record { bytes = codes "D"; at = codes "#)))"; spelled = (codes "#)))", refl, refl); is = refl }

worked_begins : Begins (key_value worked) (signs (tree_of worked_key)) []
unfolding class_of is_token_byte is_token_start is_token_mark is_between
worked_begins = (
  codes "private-key (ecc (q \"Q\")(d #44#)))",
  refl,
  (
    codes " (ecc (q \"Q\")(d #44#)))",
    refl,
    (
      codes "ecc (q \"Q\")(d #44#)))",
      refl,
      (
        codes " (q \"Q\")(d #44#)))",
        refl,
        (
          codes "q \"Q\")(d #44#)))",
          refl,
          (
            codes " \"Q\")(d #44#)))",
            refl,
            (
              codes ")(d #44#)))",
              quoted,
              (
                codes "(d #44#)))",
                refl,
                (
                  codes "d #44#)))",
                  refl,
                  (
                    codes " #44#)))",
                    refl,
                    (
                      codes ")))",
                      hexadecimal,
                      (
                        codes "))",
                        refl,
                        (
                          codes ")",
                          refl,
                          ([], refl, refl),
                        ),
                      ),
                    ),
                  ),
                ),
              ),
            ),
          ),
        ),
      ),
    ),
  ),
)

worked_has : IsKeyFile worked (record { before = codes "Created: x" ++ lf; tree = worked_key; after = [] })
worked_has = record {
  item = record { formed = refl; has = refl };
  before = refl;
  text = (
    record { len = length (key_value worked); reads = record { within = lit≤ tt; shallow = lit≤ tt; spelled = worked_begins }; blank = refl },
    subst (λ (text : List ℕ). length text ≤ most_bytes) (sym worked_spelling) (lit≤ tt),
  );
  after = refl;
}

worked_canon : Canon worked (Some canonical)
worked_canon = inr (record {
  extended = refl;
  key = record { before = codes "Created: x" ++ lf; tree = worked_key; after = [] };
  has = worked_has;
  spelled = sym worked_spelling;
})

-- without its second and third line it stands for none
keyless : Canon (codes "Created: x" ++ lf) None
keyless = record { extended = refl; fault = NoKey; is = (refl, refl) }

-- and with another key the first line stays
replaced_first : with_key (record { before = codes "Created: x" ++ lf; tree = worked_key; after = [] }) worked_key
    ≡ codes "Created: x" ++ lf ++ codes "Key: (private-key (ecc (q Q) (d D)))" ++ lf
unfolding is_token_byte is_token_start is_token_mark
replaced_first = refl

-- What key files say, and how they are written over, on worked examples.
use Rattle.std.{proofs.Common.{inr, sym, lit≤}, specs.Prelude.{◌≡◌, ℕ, List, [], ◌∷◌, ◌++◌, codes, true, Option, Ok, Err, refl}}
use Rattle.{sexp_advanced.specs.Bytes.{is_token_byte, is_token_start, is_token_mark}, sexp_canonical.specs.{Tree.{Tree, leaf, list_of}, Spelling.{numeral, spelling_of}, declared.tree.Sexp.Sexp}}
use Rattle.{sexp_keys.specs.declared.{algorithm.Algorithm.TheVariants.Ecc, fault.KeyFault.TheVariants.InvSexp}, key_lines.specs.{Codes.sexp_of, KeyFile.{KeyFile, IsKeyFile}, declared.fault.LinesFault.TheVariants.NoKey}}
use Rattle.key_commands.specs.Files.{FileSays, canonical, no_canonical, Rewrites, canonical_file, extended_file}

abbrev lf : List ℕ
lf = 10 ∷ []

-- ---- a key on two lines behind another item

abbrev worked : List ℕ
worked = codes "Created: x" ++ lf ++ codes "Key: (private-key (ecc (q \"Q\")" ++ lf ++ codes " (d #44#)))" ++ lf

abbrev q : Tree
q = list_of (leaf (codes "q") ∷ leaf (codes "Q") ∷ [])

abbrev d : Tree
d = list_of (leaf (codes "d") ∷ leaf (codes "D") ∷ [])

abbrev worked_key : Sexp
worked_key = sexp_of (list_of (leaf (codes "private-key") ∷ list_of (leaf (codes "ecc") ∷ q ∷ d ∷ []) ∷ []))

abbrev worked_list : List ℕ
worked_list = codes "(11:private-key(3:ecc(1:q1:Q)(1:d1:D)))"

worked_spelling : spelling_of worked_key ≡ worked_list
unfolding numeral
worked_spelling = refl

abbrev worked_lines : KeyFile
worked_lines = record { before = codes "Created: x" ++ lf; tree = worked_key; after = [] }

-- It has these lines, as the examples of key_lines show.
module _ (worked-has : IsKeyFile worked worked_lines) where
  -- so it says what the canonical file of its key says: a clear key
  worked_says : FileSays worked (Ok (record { algorithm = Ecc; is_clear = true; public = q ∷ []; private = d ∷ []; further = [] }))
  worked_says = canonical (inr (record { extended = refl; key = worked_lines; has = worked-has; spelled = sym worked_spelling })) (record {
    tree = worked_key;
    read = record { spelled = sym worked_spelling; shallow = lit≤ tt; short = lit≤ tt };
    is = record { parts = refl; formed = record { public = refl; private = refl; further = refl } };
  })

-- without its second and third line it is no expression
keyless : FileSays (codes "Created: x" ++ lf) (Err InvSexp)
keyless = no_canonical (record { extended = refl; fault = NoKey; is = (refl, refl) })

-- ---- a protected key is written over it

abbrev locked_key : Sexp
locked_key = sexp_of (list_of
    (leaf (codes "protected-private-key")
    ∷ list_of
    (leaf (codes "ecc")
    ∷ q
    ∷ list_of
    (leaf (codes "protected")
    ∷ leaf (codes "openpgp-s2k3-ocb-aes")
    ∷ list_of (list_of (leaf (codes "sha1") ∷ leaf (codes "saltsalt") ∷ leaf (codes "65536") ∷ []) ∷ leaf (codes "vectorvector") ∷ [])
    ∷ leaf (codes "sealed")
    ∷ [])
    ∷ [])
    ∷ []))

abbrev locked_list : List ℕ
locked_list =
    codes "(21:protected-private-key(3:ecc(1:q1:Q)(9:protected20:openpgp-s2k3-ocb-aes((4:sha18:saltsalt5:65536)12:vectorvector)6:sealed)))"

locked_spelling : spelling_of locked_key ≡ locked_list
unfolding numeral
locked_spelling = refl

abbrev rewritten : List ℕ
rewritten =
    codes "Created: x" ++ lf
    ++ codes "Key: (protected-private-key (ecc (q Q) (protected openpgp-s2k3-ocb-aes ((sha1 saltsalt #3635353336#) vectorvector) sealed)))" ++ lf

-- the line before the key stays
rewritten_extended : (held : Option ℕ) → IsKeyFile worked worked_lines → Rewrites worked locked_list held [] (Ok rewritten) held
unfolding is_token_byte is_token_start is_token_mark
rewritten_extended held worked-has =
    extended_file refl (record { old = worked_lines; tree = locked_key; has = worked-has; spelled = sym locked_spelling; parts = refl }) (lit≤ tt)

-- and over a canonical file the list itself is written
rewritten_canonical : (held : Option ℕ) → Rewrites worked_list locked_list held [] (Ok locked_list) held
rewritten_canonical held = canonical_file refl

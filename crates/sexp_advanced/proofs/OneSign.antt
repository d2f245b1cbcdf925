-- What stands at a place is one thing, and what is behind a sign is an end of the text.
use Rattle.std.{proofs.Common.{◌≡◌, ℕ, zero, suc, ◌≤◌, Bool, true, false, cond, List, [], ◌∷◌, length, take, drop, Some, Result, Ok, Err, refl, sym, ap, subst, ◌∙◌, ◌⊎◌, inl, inr, arith, length-append}, specs.Prelude.IfErr}
use Rattle.sexp_canonical.specs.{Spelling.{numeral, spelling_of}, Reading.ReadsCanonical, declared.{tree.Sexp.{Sexp, TheVariants.{Atom as Atomic, List as Listed}}, fault.SexpFault.SexpFault}}
use Rattle.sexp_canonical.{specs.declared.fault.SexpFault.TheVariants.{BadByte, BadLength, Deep, Short, NoMemory as NoRoom}, proofs.OneAnswer.one_answer as one_canonical}
use Rattle.sexp_advanced.specs.{Bytes.{is_token_start, is_token_byte, front_of, without_front, class_of}, Pieces.{Piece, byte, close, broken, cut, piece_at}}
use Rattle.sexp_advanced.specs.{Signs.{Found, sign, broken_atom, ended, no_item, Spells, outcome, IsDelimited, verbatim, verbatim_tree, verbatim_fault, IsVerbatim, IsOf, IsAt}, Steps.HasNoSign, declared.bytes.Class.Class}
use Rattle.sexp_advanced.specs.declared.{bytes.Class.TheVariants.{Opens, Closes, Hexadecimal, Quoted, Verbatim, Token, Nothing}, pieces.Form.Form, signs.Sign.{Sign, TheVariants.{Open, Close, Atom}}, fault.AdvFault.AdvFault}
use Rattle.sexp_advanced.{specs.declared.fault.AdvFault.TheVariants.NoMemory, proofs.{Behind.{IsBehind, IsEnd, behind_more, behind_end, byte_behind, close_behind, without_front_end}, Delimited.one_delimited}}

-- ---- an atom in the canonical form

stands_at : (text more : List ℕ) (b : ℕ) (k : Class) (found : Found) → text ≡ b ∷ more → k ≡ class_of b → IsOf k text more found → IsAt text found
stands_at text more b k found e f h =
    let here : IsOf (class_of b) (b ∷ more) more found = subst (λ (x : Class × List ℕ). IsOf x.0 x.1 more found) (λ i. (f i, e i)) h in
    subst (λ (t : List ℕ). IsAt t found) (sym e) here

pub verbatim_failed_at : {A : Type 0} (text more : List ℕ) (b place : ℕ) (r : Result A AdvFault) → text ≡ b ∷ more → Verbatim ≡ class_of b
    → IfErr r (λ fault. (fault ≡ NoMemory) ⊎ HasNoSign (IsVerbatim text) place fault) → IfErr r (λ fault. (fault ≡ NoMemory) ⊎ HasNoSign (IsAt text) place fault)
verbatim_failed_at text more b place (Ok x) e f h = tt
verbatim_failed_at text more b place (Err fault) e f (inl m) = inl m
verbatim_failed_at text more b place (Err fault) e f (inr h) = inr (record { found = h.found; stands = stands_at text more b Verbatim h.found e f h.stands; is = h.is })

-- ---- one thing at one place

one_verbatim : (text : List ℕ) (f g : Found) → IsVerbatim text f → IsVerbatim text g → f ≡ g
one_verbatim text f g h k = sym h.is ∙ ap (verbatim text) (one_canonical text h.answer k.answer h.reads k.reads) ∙ k.is

one_of : (k : Class) (text more : List ℕ) (f g : Found) → IsOf k text more f → IsOf k text more g → f ≡ g
one_of Opens text more f g h e = h ∙ sym e
one_of Closes text more f g h e = h ∙ sym e
one_of Hexadecimal text more f g h e = one_delimited _ more f g h e
one_of Quoted text more f g h e = one_delimited _ more f g h e
one_of Verbatim text more f g h e = one_verbatim text f g h e
one_of Token text more f g h e = h ∙ sym e
one_of Nothing text more f g h e = h ∙ sym e

pub one_here : (text : List ℕ) (f g : Found) → IsAt text f → IsAt text g → f ≡ g
one_here [] f g h k = h ∙ sym k
one_here (b ∷ more) f g h k = one_of (class_of b) (b ∷ more) more f g h k

-- ---- what a class says of a byte

other : (t : Bool) (k x wanted : Class) → (k ≡ wanted → ⊥) → cond t k x ≡ wanted → x ≡ wanted
other true k x wanted differ e = absurd (differ e)
other false k x wanted differ e = e

this : (t : Bool) (k x wanted : Class) → (x ≡ wanted → ⊥) → cond t k x ≡ wanted → t ≡ true
this true k x wanted differ e = refl
this false k x wanted differ e = absurd (differ e)

pub token_starts : (b : ℕ) → class_of b ≡ Token → is_token_start b ≡ true
unfolding class_of
token_starts b e = this _ Token Nothing Token (λ z. cc) (other _ Verbatim _ Token (λ z. cc) (other _ Quoted _ Token (λ z. cc) (other _ Hexadecimal _ Token (λ z. cc) (other _ Closes _ Token (λ z. cc) (other _ Opens _ Token (λ z. cc) e)))))

-- ---- behind a sign

abbrev FoundBehind : List ℕ → Found → Type 0
FoundBehind text (sign s rest) = IsBehind rest text
FoundBehind text broken_atom = Unit {0}
FoundBehind text ended = Unit {0}
FoundBehind text no_item = Unit {0}

pub spells_end : (form : Form) (text bytes at : List ℕ) → Spells form text bytes at → IsEnd at text
spells_end form text [] at h = inl (sym h)
spells_end form text (b ∷ bytes) at h = inr (behind_from at h.0 text (spells_end form h.0 bytes at h.2) (byte_behind form text h.0 b h.1))
  where
    behind_from : (a b c : List ℕ) → IsEnd a b → IsBehind b c → IsBehind a c
    behind_from a b c (inl e) g = subst (λ (s : List ℕ). IsBehind s c) (sym e) g
    behind_from a b c (inr h) g = behind_more a b c h g

outcome_behind : (form : Form) (text bytes at : List ℕ) (p : Piece) (s : Sign) (rest : List ℕ) → piece_at form at ≡ p → outcome bytes p ≡ Some (sign s rest) → IsBehind rest at
outcome_behind form text bytes at (byte b more) s rest e f = absurd cc
outcome_behind form text bytes at (close more) s rest e f = let same : more ≡ rest = cc in close_behind form at rest (e ∙ ap close same)
outcome_behind form text bytes at broken s rest e f = absurd cc
outcome_behind form text bytes at cut s rest e f = absurd cc

delimited_behind : (form : Form) (text : List ℕ) (s : Sign) (rest : List ℕ) → IsDelimited form text (sign s rest) → IsBehind rest text
delimited_behind form text s rest h =
    behind_end rest h.at text (outcome_behind form text h.bytes h.at (piece_at form h.at) s rest refl h.is) (spells_end form text h.bytes h.at h.spelled)

drop_end : (n : ℕ) (text : List ℕ) → IsEnd (drop n text) text
drop_end zero text = inl refl
drop_end (suc n) [] = inl refl
drop_end (suc n) (b ∷ more) = inr (drop_end n more)

atom_behind : (text bytes rest : List ℕ) (n : ℕ) → n ≤ length text → take n text ≡ spelling_of (Atomic bytes) → drop n text ≡ rest → IsBehind rest text
atom_behind [] bytes rest n w e f =
    let none : take n [] ≡ [] = nothing n in
    let some = ap length (sym none ∙ e) ∙ length-append (numeral (length bytes)) (58 ∷ bytes) in
    absurd (omega arith)
  where
    nothing : (k : ℕ) → take {A = ℕ} k [] ≡ []
    nothing zero = refl
    nothing (suc k) = refl
atom_behind (b ∷ more) bytes rest zero w e f =
    let some = ap length e ∙ length-append (numeral (length bytes)) (58 ∷ bytes) in
    absurd (omega arith)
atom_behind (b ∷ more) bytes rest (suc n) w e f = subst (λ (s : List ℕ). IsEnd s more) f (drop_end n more)

verbatim_behind : (text : List ℕ) (tree : Sexp) (n : ℕ) (s : Sign) (rest : List ℕ) → ReadsCanonical text (Ok (tree, n)) → verbatim_tree text tree n ≡ sign s rest → IsBehind rest text
verbatim_behind text (Atomic bytes) n s rest h e = let same : drop n text ≡ rest = cc in atom_behind text bytes rest n h.0 h.1.spelled same
verbatim_behind text (Listed items) n s rest h e = absurd cc

pub no_sign : (fault : SexpFault) (s : Sign) (rest : List ℕ) → verbatim_fault fault ≡ sign s rest → ⊥
no_sign (BadByte n) s rest e = cc
no_sign (BadLength n) s rest e = cc
no_sign (Deep n) s rest e = cc
no_sign Short s rest e = cc
no_sign NoRoom s rest e = cc

verbatim_sign : (text : List ℕ) (answer : Result (Sexp × ℕ) SexpFault) (s : Sign) (rest : List ℕ) → ReadsCanonical text answer → verbatim text answer ≡ sign s rest → IsBehind rest text
verbatim_sign text (Ok read) s rest h e = verbatim_behind text read.0 read.1 s rest h e
verbatim_sign text (Err fault) s rest h e = absurd (no_sign fault s rest e)

token_behind : (b : ℕ) (more rest : List ℕ) → is_token_start b ≡ true → rest ≡ without_front is_token_byte (b ∷ more) → IsBehind rest (b ∷ more)
unfolding is_token_byte
token_behind b more rest start e =
    let goes : is_token_byte b ≡ true = rw start refl in
    let same : rest ≡ without_front is_token_byte more = e ∙ rw goes refl in
    subst (λ (s : List ℕ). IsBehind s (b ∷ more)) (sym same) (without_front_end is_token_byte more)

rest_of : (s t : Sign) (x y : List ℕ) → sign s x ≡ sign t y → x ≡ y
rest_of s t x y e = cc

of_behind : (k : Class) (b : ℕ) (more : List ℕ) (s : Sign) (rest : List ℕ) → class_of b ≡ k → IsOf k (b ∷ more) more (sign s rest) → IsBehind rest (b ∷ more)
of_behind Opens b more s rest e h = inl (rest_of s Open rest more h)
of_behind Closes b more s rest e h = inl (rest_of s Close rest more h)
of_behind Hexadecimal b more s rest e h = inr (delimited_behind _ more s rest h)
of_behind Quoted b more s rest e h = inr (delimited_behind _ more s rest h)
of_behind Verbatim b more s rest e h = verbatim_sign (b ∷ more) h.answer s rest h.reads h.is
of_behind Token b more s rest e h = token_behind b more rest (token_starts b e) (rest_of s (Atom (front_of is_token_byte (b ∷ more))) rest (without_front is_token_byte (b ∷ more)) h)
of_behind Nothing b more s rest e h = absurd (let f : no_item ≡ sign s rest = sym h in cc)

pub sign_behind : (text : List ℕ) (s : Sign) (rest : List ℕ) → IsAt text (sign s rest) → IsBehind rest text
sign_behind [] s rest h = absurd (let f : ended ≡ sign s rest = sym h in cc)
sign_behind (b ∷ more) s rest h = of_behind (class_of b) b more s rest refl h

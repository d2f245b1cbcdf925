-- Atoms between two marks.
use Rattle.std.proofs.Common.{◌≡◌, ℕ, List, [], ◌∷◌, ◌++◌, Option, Some, None, refl, sym, ap, subst, ◌∙◌}
use Rattle.sexp_advanced.specs.{Pieces.{Piece, byte, close, broken, cut, piece_at}, Signs.{Found, sign, broken_atom, ended, Spells, outcome, IsDelimited}, Steps.HasNoSign, declared.{pieces.Form.Form, signs.Sign.TheVariants.Atom}}
use Rattle.sexp_advanced.specs.declared.fault.AdvFault.TheVariants.{BadAtom, Short}

-- ---- the steps of the loop

pub spells_more : (form : Form) (text bytes at more : List ℕ) (b : ℕ) → Spells form text bytes at → piece_at form at ≡ byte b more → Spells form text (bytes ++ b ∷ []) more
spells_more form text [] at more b h e = (more, ap (piece_at form) h ∙ e, refl)
spells_more form text (c ∷ bytes) at more b h e = (h.0, h.1, spells_more form h.0 bytes at more b h.2 e)

pub closed : (form : Form) (text bytes at rest : List ℕ) → Spells form text bytes at → piece_at form at ≡ close rest → IsDelimited form text (sign (Atom bytes) rest)
closed form text bytes at rest h e = record { bytes = bytes; at = at; spelled = h; is = ap (outcome bytes) e }

pub breaks : (form : Form) (text bytes at : List ℕ) (place : ℕ) → Spells form text bytes at → piece_at form at ≡ broken → HasNoSign (IsDelimited form text) place (BadAtom place)
breaks form text bytes at place h e = record {
  found = broken_atom;
  stands = record { bytes = bytes; at = at; spelled = h; is = ap (outcome bytes) e };
  is = λ n. refl;
}

pub cut_off : (form : Form) (text bytes at : List ℕ) (place : ℕ) → Spells form text bytes at → piece_at form at ≡ cut → HasNoSign (IsDelimited form text) place Short
cut_off form text bytes at place h e = record {
  found = ended;
  stands = record { bytes = bytes; at = at; spelled = h; is = ap (outcome bytes) e };
  is = λ n. refl;
}

-- ---- one atom, or one fault

abbrev some_found : Found → Option Found
some_found f = Some f

abbrev none_found : Option Found
none_found = None

not_ended : (bytes : List ℕ) (p : Piece) (b : ℕ) (more : List ℕ) (found : Found) → outcome bytes p ≡ Some found → p ≡ byte b more → ⊥
not_ended bytes p b more found e f = let none : none_found ≡ some_found found = sym (ap (outcome bytes) f) ∙ e in cc

same_pieces : (form : Form) (text xs ys at to : List ℕ) (us vs : List ℕ) (f g : Found) → Spells form text xs at → Spells form text ys to
    → outcome us (piece_at form at) ≡ Some f → outcome vs (piece_at form to) ≡ Some g → (xs ≡ ys) × (at ≡ to)
same_pieces form text [] [] at to us vs f g h k e d = (refl, sym h ∙ k)
same_pieces form text [] (y ∷ ys) at to us vs f g h k e d = absurd (not_ended us (piece_at form at) y k.0 f e (ap (piece_at form) (sym h) ∙ k.1))
same_pieces form text (x ∷ xs) [] at to us vs f g h k e d = absurd (not_ended vs (piece_at form to) x h.0 g d (ap (piece_at form) (sym k) ∙ h.1))
same_pieces form text (x ∷ xs) (y ∷ ys) at to us vs f g h k e d =
    let same : byte x h.0 ≡ byte y k.0 = sym h.1 ∙ k.1 in
    let head : x ≡ y = cc in
    let rest : k.0 ≡ h.0 = cc in
    let again : Spells form h.0 ys to = subst (λ (t : List ℕ). Spells form t ys to) rest k.2 in
    let tail = same_pieces form h.0 xs ys at to us vs f g h.2 again e d in
    (let t = tail.0 in cc, tail.1)

pub one_delimited : (form : Form) (text : List ℕ) (f g : Found) → IsDelimited form text f → IsDelimited form text g → f ≡ g
one_delimited form text f g h k =
    let same = same_pieces form text h.bytes k.bytes h.at k.at h.bytes k.bytes f g h.spelled k.spelled h.is k.is in
    let moved : outcome h.bytes (piece_at form h.at) ≡ outcome k.bytes (piece_at form k.at) = λ i. outcome (same.0 i) (piece_at form (same.1 i)) in
    let both : some_found f ≡ some_found g = sym h.is ∙ moved ∙ k.is in
    cc

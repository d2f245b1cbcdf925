-- There is one list of data lines for any bytes, and no other.
use Rattle.std.proofs.Common.{◌≡◌, ℕ, ◌+◌, ◌<◌, ◌≤◌, List, [], ◌∷◌, ◌++◌, length, take, drop, get_or, All, refl, ap, sym, ◌∙◌, subst, arith, append_assoc, append-nil, length-append, length-drop, ⊎_elim, inl, inr}
use Rattle.std.proofs.lemmas.{Bool.{cases_Bool, cond-true, cond-false, cases_lt}, List.{take-append-drop, take-append-le, append_cancel_left, length-take-le, drop_more, Concat.flat_map-append, Elements.{All-head, All-tail, All-cons}}}
use Rattle.std.{proofs.Math.Seq.{take-append_seam, take-append-add}, specs.List.flat_map}
use Rattle.assuan_escape.specs.{Escapes.{is_escaped, hex_digits, escape_of, escapes}, DataLines.{data_line, IsFullBefore, AreFull, IsPiece, AreData}}

joined_of : List (List ℕ) → List ℕ
joined_of pieces = flat_map (λ piece. piece) pieces

-- one byte more has its own escape more
pub length_escapes_push : (piece : List ℕ) (byte : ℕ) → length (escapes (piece ++ byte ∷ [])) ≡ length (escapes piece) + length (escape_of byte)
length_escapes_push piece byte =
    ap length (flat_map-append escape_of piece (byte ∷ []))
    ∙ length-append (escapes piece) (escape_of byte ++ [])
    ∙ ap (λ (x : List ℕ). length (escapes piece) + length x) (append-nil (escape_of byte))

-- the front of some bytes has no longer escapes
length_escapes_front : (front rest : List ℕ) → length (escapes front) ≤ length (escapes (front ++ rest))
length_escapes_front front rest = omega (arith, ap length (flat_map-append escape_of front rest), length-append (escapes front) (escapes rest))

-- a piece that is full is no shorter than another for the same bytes
not_shorter : (piece : List ℕ) (more : List (List ℕ)) (other rest : List ℕ) → piece ++ flat_map (λ p. p) more ≡ other ++ rest → All IsPiece more
    → IsFullBefore piece more → length (data_line other) ≤ 1000 → length piece < length other → ⊥
not_shorter piece [] other rest same each full short less =
    omega (arith, ap length same, length-append piece [], length-append other rest)
not_shorter piece ([] ∷ more) other rest same each full short less = omega (arith, (All-head IsPiece [] more each).0)
not_shorter piece ((byte ∷ next) ∷ more) other rest same each full short less =
    let count : ℕ = length piece + 1 in
    let front : take count other ≡ piece ++ byte ∷ [] =
    sym (take-append-le count other rest (omega arith)) ∙ ap (λ (x : List ℕ). take count x) (sym same) ∙ take-append-add piece (byte ∷ (next ++ flat_map (λ p. p) more)) 1 in
    let whole : (piece ++ byte ∷ []) ++ drop count other ≡ other = ap (λ (x : List ℕ). x ++ drop count other) (sym front) ∙ take-append-drop count other in
    omega (arith, length_escapes_push piece byte, length_escapes_front (piece ++ byte ∷ []) (drop count other), ap (λ (x : List ℕ). length (escapes x)) whole)

-- two lists of pieces for the same bytes are one
pub only : (pieces others : List (List ℕ)) → flat_map (λ p. p) pieces ≡ flat_map (λ p. p) others → All IsPiece pieces → All IsPiece others → AreFull pieces → AreFull others → pieces ≡ others
only [] [] same each each' full full' = refl
only [] (other ∷ others) same each each' full full' =
    absurd (omega (arith, (All-head IsPiece other others each').0, ap length same, length-append other (flat_map (λ p. p) others)))
only (piece ∷ pieces) [] same each each' full full' =
    absurd (omega (arith, (All-head IsPiece piece pieces each).0, ap length same, length-append piece (flat_map (λ p. p) pieces)))
only (piece ∷ pieces) (other ∷ others) same each each' full full' =
    let tail = All-tail IsPiece piece pieces each in
    let tail' = All-tail IsPiece other others each' in
    let no_less : length piece < length other → ⊥ = not_shorter piece pieces other (flat_map (λ p. p) others) same tail full.0 (All-head IsPiece other others each').1 in
    let no_more : length other < length piece → ⊥ = not_shorter other others piece (flat_map (λ p. p) pieces) (sym same) tail' full'.0 (All-head IsPiece piece pieces each).1 in
    let long : length piece ≡ length other = omega (arith, no_less, no_more) in
    let head : piece ≡ other =
    sym (take-append_seam piece (flat_map (λ p. p) pieces)) ∙ ap (λ (x : List ℕ). take (length piece) x) same
    ∙ ap (λ (n : ℕ). take n (other ++ flat_map (λ p. p) others)) long ∙ take-append_seam other (flat_map (λ p. p) others) in
    let rest : flat_map (λ p. p) pieces ≡ flat_map (λ p. p) others =
    append_cancel_left piece _ _ (same ∙ ap (λ (x : List ℕ). x ++ flat_map (λ p. p) others) (sym head)) in
    ap (λ (x : List ℕ). x ∷ pieces) head ∙ ap (λ (x : List (List ℕ)). other ∷ x) (only pieces others rest tail tail' full.1 full'.1)

-- the first piece begins with this byte
abbrev Begins : ℕ → List (List ℕ) → Type 0
Begins byte [] = ⊥
Begins byte (piece ∷ more) = get_or piece 0 0 ≡ byte

full_before : (piece : List ℕ) (byte : ℕ) (more : List (List ℕ)) → Begins byte more → 1000 < length (data_line piece) + length (escape_of byte) → IsFullBefore piece more
full_before piece byte [] begins long = tt
full_before piece byte (next ∷ more) begins long = subst (λ (b : ℕ). 1000 < length (data_line piece) + length (escape_of b)) (sym begins) long

length_escape_of : (byte : ℕ) → length (escape_of byte) ≤ 3
length_escape_of byte =
    ⊎_elim
    (λ e. omega (arith, ap length (cond-true (is_escaped byte) (37 ∷ hex_digits byte) (byte ∷ []) e)))
    (λ e. omega (arith, ap length (cond-false (is_escaped byte) (37 ∷ hex_digits byte) (byte ∷ []) e)))
    (cases_Bool (is_escaped byte))

-- some pieces for these bytes, of which the first begins so
record HasPieces (byte : ℕ) (bytes : List ℕ) : Type 0 where
  pieces : List (List ℕ)
  is : AreData bytes pieces
  begins : Begins byte pieces

-- the piece alone
last_piece : (first : ℕ) (piece : List ℕ) → length (data_line (first ∷ piece)) ≤ 1000 → HasPieces first (first ∷ piece)
last_piece first piece short = record {
  pieces = (first ∷ piece) ∷ [];
  is = record {
    joined = append-nil (first ∷ piece);
    each = All-cons IsPiece (first ∷ piece) [] (omega arith, short) (λ k d h. absurd (omega arith));
    full = (tt, tt);
  };
  begins = refl;
}

-- the piece, and then others
piece_before : (first byte : ℕ) (piece rest : List ℕ) → length (data_line (first ∷ piece)) ≤ 1000
    → 1000 < length (data_line (first ∷ piece)) + length (escape_of byte) → HasPieces byte rest → HasPieces first ((first ∷ piece) ++ rest)
piece_before first byte piece rest short full others = record {
  pieces = (first ∷ piece) ∷ others.pieces;
  is = record {
    joined = ap (λ (x : List ℕ). (first ∷ piece) ++ x) others.is.joined;
    each = All-cons IsPiece (first ∷ piece) others.pieces (omega arith, short) others.is.each;
    full = (full_before (first ∷ piece) byte others.pieces others.begins full, others.is.full);
  };
  begins = refl;
}

-- the pieces, where the first one is begun
pieces_from : (first : ℕ) (piece rest : List ℕ) → length (data_line (first ∷ piece)) ≤ 1000 → HasPieces first ((first ∷ piece) ++ rest)
pieces_from first piece [] short = subst (λ (x : List ℕ). HasPieces first x) (sym (append-nil (first ∷ piece))) (last_piece first piece short)
pieces_from first piece (byte ∷ rest) short = elim (cases_lt 1000 (length (data_line (first ∷ piece)) + length (escape_of byte))) [
  | inl full ↦ piece_before first byte piece (byte ∷ rest) short full (pieces_from byte [] rest (omega (arith, length_escape_of byte, ap length (append-nil (escape_of byte)))))
  | inr fits ↦
      subst (λ (x : List ℕ). HasPieces first x) (append_assoc (first ∷ piece) (byte ∷ []) rest)
      (pieces_from first (piece ++ byte ∷ []) rest (omega (arith, length_escapes_push (first ∷ piece) byte)))
]

-- there are pieces for any bytes
pub pieces_of : (bytes : List ℕ) → (pieces : List (List ℕ)) × AreData bytes pieces
pieces_of [] = ([], record { joined = refl; each = λ k d h. absurd (omega arith); full = tt })
pieces_of (byte ∷ bytes) =
    let has = pieces_from byte [] bytes (omega (arith, length_escape_of byte, ap length (append-nil (escape_of byte)))) in
    (has.pieces, has.is)

-- a first piece, and pieces of what follows it
pub with_piece : (rest : List ℕ) (count : ℕ) → 0 < count → count ≤ length rest → length (data_line (take count rest)) ≤ 1000
    → (count < length rest → 1000 < length (data_line (take count rest)) + length (escape_of (get_or rest count 0))) → (later : List (List ℕ))
    → AreData (drop count rest) later → AreData rest (take count rest ∷ later)
with_piece rest count some within short full later are = record {
  joined = ap (λ (x : List ℕ). take count rest ++ x) are.joined ∙ take-append-drop count rest;
  each = All-cons IsPiece (take count rest) later (omega (arith, length-take-le count rest within), short) are.each;
  full = (full_here later are, are.full);
} where
  full_here : (later : List (List ℕ)) → AreData (drop count rest) later → IsFullBefore (take count rest) later
  full_here [] are = tt
  full_here ([] ∷ more) are = absurd (omega (arith, (All-head IsPiece [] more are.each).0))
  full_here ((byte ∷ next) ∷ more) are =
      let inside : count < length rest = omega (arith, ap length are.joined, length-drop count rest) in
      let next = drop_more rest count 0 inside in
      let first : get_or rest count 0 ≡ byte = cc in
      subst (λ (b : ℕ). 1000 < length (data_line (take count rest)) + length (escape_of b)) first (full inside)

-- The data lines of a passphrase and the OK behind them come to it.
use Rattle.std.proofs.Common.{◌≡◌, ℕ, ◌+◌, ◌-◌, ◌<◌, ◌≤◌, ◌||◌, Bool, true, false, ◌==◌, slice_index, List, [], ◌∷◌, ◌++◌, length, map, inl, inr, All, refl, ap, sym, subst, ◌∙◌, arith, append-nil, length-append}
use Rattle.std.proofs.lemmas.{Bool.{false≢true, le-leb, cases_Bool, cond-true, cond-false, Decides.nat_tests}, List.{Concat.flat_map-append, Elements.{All-head, All-tail, All-cons, All-take, All-drop}}}
use Rattle.std.{proofs.{lemmas.List.Folds.{list_any-append, list_any_at, flat_map-map}, Math.Seq.{take-append_seam, drop-append_seam}}, specs.List.{flat_map, list_any}}
use Rattle.{assuan_client.specs.{Forms.answer_form, Skipping.{Tally, with_lines, skips_after, skips}}, assuan_escape.proofs.EscapeLemmas.{percent_decode_escapes, has_lf_escapes, escape_of_escaped, escape_of_plain}}
use Rattle.{assuan_escape.specs.{DataLines.{data_line, data_text, carried, IsPiece}, Escapes.{escapes, escape_of, hex_digits, is_escaped}}, assuan_text.specs.{Forms.is_data, LineEnds.{line_of, without_cr}}}
use Rattle.passphrase_laws.proofs.Walking.{IsSent, AreSkipped}
use Rattle.assuan_client.specs.Forms as form

abbrev pub IsByte : ℕ → Type 0
IsByte byte = byte < 256

-- a line without a carriage return stays as it is
pub no_cr_stays : (bytes : List ℕ) → list_any (λ byte. byte == 13) bytes ≡ false → without_cr bytes ≡ bytes
no_cr_stays [] no_cr = refl
no_cr_stays (byte ∷ bytes) no_cr = elim (cases_Bool (slice_index (byte ∷ bytes) (length (byte ∷ bytes) - 1) == 13)) [
  | inl is ↦ absurd (false≢true (sym no_cr ∙ list_any_at (λ b. b == 13) (byte ∷ bytes) (length (byte ∷ bytes) - 1) 0 (omega arith) is))
  | inr not ↦ cond-false _ _ _ not
]

no_cr_digits : (byte : ℕ) → list_any (λ b. b == 13) (hex_digits byte) ≡ false
no_cr_digits byte = grind (arith, nat_tests)

no_cr_escape : (byte : ℕ) → list_any (λ b. b == 13) (escape_of byte) ≡ false
no_cr_escape byte = elim (cases_Bool (is_escaped byte)) [
  | inl e ↦ ap (λ (l : List ℕ). list_any (λ b. b == 13) l) (escape_of_escaped byte e) ∙ no_cr_digits byte
  | inr e ↦ ap (λ (l : List ℕ). list_any (λ b. b == 13) l) (escape_of_plain byte e) ∙ grind (arith, nat_tests)
]

no_cr_escapes : (bytes : List ℕ) → list_any (λ b. b == 13) (escapes bytes) ≡ false
no_cr_escapes [] = refl
no_cr_escapes (byte ∷ bytes) =
    list_any-append (λ b. b == 13) (escape_of byte) (escapes bytes) ∙ ap (λ (b : Bool). b || list_any (λ b. b == 13) (escapes bytes)) (no_cr_escape byte) ∙ no_cr_escapes bytes

-- a data line is read as it was written
pub data_sent : (piece : List ℕ) → IsPiece piece → IsSent (data_line piece)
data_sent piece is = record { short = is.1; whole = has_lf_escapes piece; no_cr = no_cr_stays (data_line piece) (no_cr_escapes piece) }

or_true : (b : Bool) → (b || true) ≡ true
or_true true = refl
or_true false = refl

is_data_line : (piece : List ℕ) → is_data (data_line piece) ≡ true
is_data_line piece = or_true (length (data_line piece) == 1)

form_is : (piece : List ℕ) → answer_form (data_line piece) ≡ form.Data
form_is piece = cond-true _ _ _ (is_data_line piece)

pub carries : (piece : List ℕ) → All IsByte piece → carried (data_line piece) ≡ piece
carries piece small = cond-true _ _ _ (is_data_line piece) ∙ percent_decode_escapes piece small

-- each line of the pieces is skipped, where the passphrase isn't too long
pub pieces_skipped : (tally : Tally) (before : List (List ℕ)) (pieces : List (List ℕ)) → tally.bytes ≡ [] → All IsPiece pieces → All (λ piece. All IsByte piece) pieces
    → length (flat_map carried before) + length (flat_map (λ piece. piece) pieces) ≤ 255 → AreSkipped (skips_after tally) before (map data_line pieces)
pieces_skipped tally before [] none each small few = tt
pieces_skipped tally before (piece ∷ pieces) none each small few =
    let here : carried (data_line piece) ≡ piece = carries piece (All-head (λ p. All IsByte p) piece pieces small) in
    let sum : length (flat_map (λ p. p) (piece ∷ pieces)) ≡ length piece + length (flat_map (λ p. p) pieces) = length-append piece (flat_map (λ p. p) pieces) in
    let came : (with_lines tally before).bytes ≡ flat_map carried before = ap (λ (b : List ℕ). b ++ flat_map carried before) none in
    let counts : skips (with_lines tally before) form.Data (length (carried (data_line piece))) ≡ true =
    le-leb (length (with_lines tally before).bytes + length (carried (data_line piece))) 255 (omega (arith, few, sum, ap length here, ap length came)) in
    let skipped : skips_after tally before (data_line piece) ≡ true =
    ap (λ (f : form.Form). skips (with_lines tally before) f (length (carried (data_line piece)))) (form_is piece) ∙ counts in
    let more : length (flat_map carried (before ++ data_line piece ∷ [])) ≡ length (flat_map carried before) + length piece =
    ap length (flat_map-append carried before (data_line piece ∷ [])) ∙ length-append (flat_map carried before) (carried (data_line piece) ++ [])
    ∙ ap (λ (l : List ℕ). length (flat_map carried before) + length l) (append-nil (carried (data_line piece)) ∙ here) in (
      data_sent piece (All-head IsPiece piece pieces each),
      skipped,
      pieces_skipped tally (before ++ data_line piece ∷ []) pieces none (All-tail IsPiece piece pieces each) (All-tail (λ p. All IsByte p) piece pieces small) (omega (arith, few, sum, more)),
    )

-- they carry what was cut into the pieces
pub carry_all : (pieces : List (List ℕ)) → All (λ piece. All IsByte piece) pieces → flat_map carried (map data_line pieces) ≡ flat_map (λ piece. piece) pieces
carry_all [] small = refl
carry_all (piece ∷ pieces) small =
    ap (λ (l : List ℕ). l ++ flat_map carried (map data_line pieces)) (carries piece (All-head (λ p. All IsByte p) piece pieces small))
    ∙ ap (λ (l : List ℕ). piece ++ l) (carry_all pieces (All-tail (λ p. All IsByte p) piece pieces small))

pub texts_are : (pieces : List (List ℕ)) → flat_map line_of (map data_line pieces) ≡ data_text pieces
texts_are pieces = flat_map-map line_of data_line pieces

All-front : (xs ys : List ℕ) → All IsByte (xs ++ ys) → All IsByte xs
All-front xs ys small = subst (λ (l : List ℕ). All IsByte l) (take-append_seam xs ys) (All-take IsByte (length xs) (xs ++ ys) small)

All-behind : (xs ys : List ℕ) → All IsByte (xs ++ ys) → All IsByte ys
All-behind xs ys small = subst (λ (l : List ℕ). All IsByte l) (drop-append_seam xs ys) (All-drop IsByte (length xs) (xs ++ ys) small)

-- they are bytes, where these are
pub small_pieces : (pieces : List (List ℕ)) → All IsByte (flat_map (λ piece. piece) pieces) → All (λ piece. All IsByte piece) pieces
small_pieces [] small = λ k d h. absurd (omega arith)
small_pieces (piece ∷ pieces) small =
    All-cons (λ p. All IsByte p) piece pieces (All-front piece (flat_map (λ p. p) pieces) small) (small_pieces pieces (All-behind piece (flat_map (λ p. p) pieces) small))

-- Lines that are skipped, at the front of some bytes.
use Rattle.std.proofs.{Common.{◌≡◌, ◌≤◌, ◌+◌, ℕ, Bool, true, List, [], ◌∷◌, ◌++◌, length, refl, ap, sym, ◌∙◌, subst, arith, append_assoc, append-nil, length-append}, lemmas.List.{append_cancel_right, length-drop}}
use Rattle.std.specs.List.{position_or_len}
use Rattle.assuan_text.specs.LineEnds.{is_lf}
use Rattle.assuan_line.specs.{Lines.after_line, Next.next_of, Skipping.{Skipped, none, one}, declared.reader.Took.{Took, TheVariants.{Line, TooLong, End, Spent, ReadFault}}}
use Rattle.assuan_line.proofs.{Decided.{stays, after_stays, after_shorter, no_spent, no_fault}, Parts.{line_tells, end_tells}, Places.{place_behind, place_within}}

-- a line that ends before these last bytes doesn't need them
module _ (bytes last line : List ℕ) (next : next_of (bytes ++ last) ≡ Line line) (long : length last ≤ length (after_line (bytes ++ last))) where
  undecided : next_of bytes ≡ End → ⊥
  undecided is =
      let behind = place_behind is_lf bytes last (end_tells bytes is) in
      let within = place_within is_lf (bytes ++ last) (line_tells (bytes ++ last) line next).0 in
      omega (arith, long, behind, within, length-append bytes last, length-drop (position_or_len is_lf (bytes ++ last) + 1) (bytes ++ last))

  settled : next_of bytes ≡ Line line
  settled = by_answer (next_of bytes) refl where
    by_answer : (answer : Took) → next_of bytes ≡ answer → next_of bytes ≡ Line line
    by_answer (Line other) is = sym (stays bytes last (λ e. cc (sym is ∙ e))) ∙ next
    by_answer TooLong is = sym (stays bytes last (λ e. cc (sym is ∙ e))) ∙ next
    by_answer End is = absurd (undecided is)
    by_answer Spent is = absurd (no_spent bytes is)
    by_answer ReadFault is = absurd (no_fault bytes is)

module _ (skips : List (List ℕ) → List ℕ → Bool) where
  -- one line more is skipped
  pub skipped_more : {before lines : List (List ℕ)} {bytes later : List ℕ} (line : List ℕ) → Skipped skips before bytes lines later → next_of later ≡ Line line
      → skips (before ++ lines) line ≡ true → Skipped skips before bytes (lines ++ line ∷ []) (after_line later)
  skipped_more {before} line none next skip =
      one line next (subst (λ (l : List (List ℕ)). skips l line ≡ true) (append-nil before) skip) none
  skipped_more {before} line (one {lines = lines} first is first_skips more) next skip =
      one first is first_skips
      (skipped_more line more next (subst (λ (l : List (List ℕ)). skips l line ≡ true) (sym (append_assoc before (first ∷ []) lines)) skip))

  shorter : {before lines : List (List ℕ)} {bytes later : List ℕ} → Skipped skips before bytes lines later → length later ≤ length bytes
  shorter none = omega arith
  shorter {bytes = bytes} (one line next skip more) = omega (arith, shorter more, after_shorter bytes line next)

  -- the lines don't need what comes behind them
  pub without_last : {before lines : List (List ℕ)} {all rest : List ℕ} (bytes later last : List ℕ) → Skipped skips before all lines rest
      → all ≡ bytes ++ last → rest ≡ later ++ last → Skipped skips before bytes lines later
  without_last {before} bytes later last none all_is rest_is =
      subst (λ (b : List ℕ). Skipped skips before bytes [] b) (append_cancel_right bytes later last (sym all_is ∙ rest_is)) none
  without_last {all = all} bytes later last (one line next skip more) all_is rest_is =
      let next_is : next_of (bytes ++ last) ≡ Line line = ap next_of (sym all_is) ∙ next in
      let after_is : after_line all ≡ after_line (bytes ++ last) = ap after_line all_is in
      let long : length last ≤ length (after_line (bytes ++ last)) =
      omega (arith, shorter more, ap (λ (l : List ℕ). length l) rest_is, ap (λ (l : List ℕ). length l) after_is, length-append later last) in
      let here = settled bytes last line next_is long in
      one line here skip (without_last (after_line bytes) later last more (after_is ∙ after_stays bytes last line here) rest_is)

-- Bytes have one reading: the lines that are skipped, and the line behind them.
use Rattle.std.proofs.{Common.{◌≡◌, ℕ, Bool, true, false, List, [], ◌∷◌, ◌++◌, refl, ap, sym, subst, ◌∙◌, append_assoc, append-nil}, lemmas.Bool.false≢true}
use Rattle.assuan_line.specs.{Lines.after_line, Next.{next_of, Reader}, Skipping.{Skipped, none, one, ReadsAfter}, declared.reader.Took.TheVariants.Line}

same_line : (bytes line other : List ℕ) → next_of bytes ≡ Line line → next_of bytes ≡ Line other → line ≡ other
same_line bytes line other first second = cc (sym first ∙ second)

-- two readings of the same bytes are one
record IsSame (lines others : List (List ℕ)) (line other later rest : List ℕ) : Type 0 where
  skipped : lines ≡ others
  stopped : line ≡ other
  left : later ≡ rest

module _ (skips : List (List ℕ) → List ℕ → Bool) where
  no_stop : (before : List (List ℕ)) (bytes line other : List ℕ) → next_of bytes ≡ Line line → next_of bytes ≡ Line other → skips (before ++ []) line ≡ false → skips before other ≡ true → ⊥
  no_stop before bytes line other first second stops skip =
      false≢true (sym stops ∙ ap (λ (l : List (List ℕ)). skips l line) (append-nil before) ∙ ap (skips before) (same_line bytes line other first second) ∙ skip)

  only : {before lines others : List (List ℕ)} {bytes later rest : List ℕ} (line other : List ℕ)
      → Skipped skips before bytes lines later → Skipped skips before bytes others rest
      → next_of later ≡ Line line → next_of rest ≡ Line other
      → skips (before ++ lines) line ≡ false → skips (before ++ others) other ≡ false → IsSame lines others line other later rest
  only {bytes = bytes} line other none none is is' stops stops' = record { skipped = refl; stopped = same_line bytes line other is is'; left = refl }
  only {before} {bytes = bytes} line other none (one first next skip more) is is' stops stops' = absurd (no_stop before bytes line first is next stops skip)
  only {before} {bytes = bytes} line other (one first next skip more) none is is' stops stops' = absurd (no_stop before bytes other first is' next stops' skip)
  only {before} {bytes = bytes} line other (one {lines = lines} first next skip more) (one {lines = others} {later = rest} second next' skip' more') is is' stops stops' =
      let firsts : first ≡ second = same_line bytes first second next next' in
      let behind : Skipped skips (before ++ first ∷ []) (after_line bytes) others rest = subst (λ (l : List ℕ). Skipped skips (before ++ l ∷ []) (after_line bytes) others rest) (sym firsts) more' in
      let stops_behind : skips ((before ++ first ∷ []) ++ lines) line ≡ false = subst (λ (l : List (List ℕ)). skips l line ≡ false) (sym (append_assoc before (first ∷ []) lines)) stops in
      let stops_behind' : skips ((before ++ first ∷ []) ++ others) other ≡ false =
      subst (λ (l : List (List ℕ)). skips l other ≡ false) (ap (λ (f : List ℕ). before ++ f ∷ others) (sym firsts) ∙ sym (append_assoc before (first ∷ []) others)) stops' in
      let same = only line other more behind is is' stops_behind stops_behind' in
      record { skipped = cc (firsts, same.skipped); stopped = same.stopped; left = same.left }

  pub record IsOne (lines others : List (List ℕ)) (line other : List ℕ) (after later : Reader) (left rest : List ℕ) : Type 0 where
    pub skipped : lines ≡ others
    pub stopped : line ≡ other
    pub left_is : after.ahead ++ left ≡ later.ahead ++ rest

  pub only_reading : (before lines others : List (List ℕ)) (bytes line other : List ℕ) (after later : Reader) (left rest : List ℕ)
      → ReadsAfter skips before lines bytes (Line line) after left
      → ReadsAfter skips before others bytes (Line other) later rest → IsOne lines others line other after later left rest
  only_reading before lines others bytes line other after later left rest first second =
      let same = only line other first.skipped second.skipped first.next.0 second.next.0 first.stops second.stops in
      record { skipped = same.skipped; stopped = same.stopped; left_is = first.next.1 ∙ ap after_line same.left ∙ sym second.next.1 }

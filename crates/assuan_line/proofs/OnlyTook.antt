-- Bytes have one reading within a budget: the lines that are skipped, and what comes behind them, unless a read failed.
use Rattle.std.proofs.{Common.{◌≡◌, ◌≢◌, ◌≤◌, ◌<◌, ◌+◌, ℕ, Bool, true, List, [], ◌∷◌, ◌++◌, length, refl, ap, sym, subst, ◌∙◌, append_assoc, append-nil, length-append, length-drop, arith}, lemmas.Bool.false≢true}
use Rattle.std.specs.List.{position_or_len}
use Rattle.assuan_text.specs.LineEnds.{is_lf}
use Rattle.assuan_line.specs.{Lines.after_line, Next.{next_of, Reader, IsCutShort, IsTooLong, OnLine}, Skipping.{Skipped, none, one, Stops, ReadsNext, ReadsAfter}, declared.reader.Took.Took}
use Rattle.assuan_line.{specs.declared.reader.Took.TheVariants.{Line, TooLong, End, Spent, ReadFault}, proofs.{Decided.{stays, after_shorter}, Parts.{line_tells, end_tells}, Places.{place_behind, place_within}}}

-- where the bytes taken tell no line, and a line ends behind them, less is left behind that line
cut_line : (taken left line : List ℕ) → next_of (taken ++ left) ≡ Line line → next_of taken ≡ End → length (after_line (taken ++ left)) < length left
cut_line taken left line is none_there =
    let some = (line_tells (taken ++ left) line is).0 in
    let within = place_within is_lf (taken ++ left) some in
    let behind = place_behind is_lf taken left (end_tells taken none_there) in
    omega (arith, within, behind, length-append taken left, length-drop (position_or_len is_lf (taken ++ left) + 1) (taken ++ left))

-- the longer of two fronts goes on from the shorter
front_of : {X : Type 0} (front rest longer left : List X) → front ++ rest ≡ longer ++ left → length front ≤ length longer → (more : List X) × (longer ≡ front ++ more)
front_of [] rest longer left same short = (longer, refl)
front_of (x ∷ front) rest [] left same short = absurd (omega arith)
front_of (x ∷ front) rest (y ∷ longer) left same short =
    let heads : x ≡ y = cc same in
    let tails : front ++ rest ≡ longer ++ left = cc same in
    let more = front_of front rest longer left tails (omega (arith, short)) in
    (more.0, cc (heads, more.1))

too_long_is : {bytes left : List ℕ} → IsTooLong [] bytes left → next_of bytes ≡ TooLong
too_long_is long = ap next_of long.split ∙ stays long.taken _ (λ end. let differ = sym long.long ∙ end in absurd (cc differ)) ∙ long.long

-- what was taken ends before what was too long, or goes on from it
long_and_cut : {bytes left rest : List ℕ} → IsTooLong [] bytes left → IsCutShort [] bytes rest → length rest ≤ length left → ⊥
long_and_cut {left} {rest} long cut fewer =
    let lengths = ap (λ (l : List ℕ). length l) (sym long.split ∙ cut.split) in
    let front = front_of long.taken left cut.taken rest (sym long.split ∙ cut.split) (omega (arith, lengths, fewer, length-append long.taken left, length-append cut.taken rest)) in
    let longer = ap next_of front.1 ∙ stays long.taken front.0 (λ end. let differ = sym long.long ∙ end in absurd (cc differ)) ∙ long.long in
    let differ = sym cut.none ∙ longer in absurd (cc differ)

line_and_cut : {bytes rest line : List ℕ} → next_of bytes ≡ Line line → IsCutShort [] bytes rest → length rest ≤ length (after_line bytes) → ⊥
line_and_cut {bytes} {rest} {line} is cut fewer =
    let less = cut_line cut.taken rest line (ap next_of (sym cut.split) ∙ is) cut.none in
    let same = ap (λ (l : List ℕ). length (after_line l)) cut.split in
    omega (arith, less, fewer, same)

-- what a reading leaves
pub record IsSameTook (took other : Took) (after later : Reader) (left rest : List ℕ) : Type 0 where
  pub is : took ≡ other
  pub left_is : OnLine took (after.ahead ++ left ≡ later.ahead ++ rest)

-- so many bytes more were left by the one than by the other as it may take more
abbrev pub Fits : Reader → Reader → List ℕ → List ℕ → Type 0
Fits after later left rest = after.left + length rest ≡ later.left + length left

ahead_left : (front left all : List ℕ) → front ++ left ≡ all → length left ≤ length all
ahead_left front left all same = omega (arith, ap (λ (l : List ℕ). length l) same, length-append front left)

pub same_stop : (bytes : List ℕ) (took other : Took) (after later : Reader) (left rest : List ℕ) → took ≢ ReadFault → other ≢ ReadFault → ReadsNext bytes took after left
    → ReadsNext bytes other later rest → Fits after later left rest → IsSameTook took other after later left rest
same_stop bytes (Line line) (Line again) after later left rest not never first second fits =
    let lines : line ≡ again = cc (sym first.0 ∙ second.0) in record { is = ap (λ (l : List ℕ). Line l) lines; left_is = first.1 ∙ sym second.1 }
same_stop bytes (Line line) TooLong after later left rest not never first second fits = let differ = sym first.0 ∙ too_long_is second in absurd (cc differ)
same_stop bytes (Line line) End after later left rest not never first second fits = let differ = sym first.0 ∙ second.0 in absurd (cc differ)
same_stop bytes (Line line) Spent after later left rest not never first second fits =
    let more = ahead_left after.ahead left (after_line bytes) first.1 in absurd (line_and_cut first.0 second.0 (omega (arith, more, fits, second.1)))
same_stop bytes TooLong (Line line) after later left rest not never first second fits = let differ = sym second.0 ∙ too_long_is first in absurd (cc differ)
same_stop bytes TooLong TooLong after later left rest not never first second fits = record { is = refl; left_is = tt }
same_stop bytes TooLong End after later left rest not never first second fits = let differ = sym second.0 ∙ too_long_is first in absurd (cc differ)
same_stop bytes TooLong Spent after later left rest not never first second fits = absurd (long_and_cut first second.0 (omega (arith, fits, second.1)))
same_stop bytes End (Line line) after later left rest not never first second fits = let differ = sym first.0 ∙ second.0 in absurd (cc differ)
same_stop bytes End TooLong after later left rest not never first second fits = let differ = sym first.0 ∙ too_long_is second in absurd (cc differ)
same_stop bytes End End after later left rest not never first second fits = record { is = refl; left_is = tt }
same_stop bytes End Spent after later left rest not never first second fits =
    let gone = ap (λ (l : List ℕ). length l) first.1 in absurd (omega (arith, fits, second.1, gone, first.2))
same_stop bytes Spent (Line line) after later left rest not never first second fits =
    let more = ahead_left later.ahead rest (after_line bytes) second.1 in absurd (line_and_cut second.0 first.0 (omega (arith, more, fits, first.1)))
same_stop bytes Spent TooLong after later left rest not never first second fits = absurd (long_and_cut second first.0 (omega (arith, fits, first.1)))
same_stop bytes Spent End after later left rest not never first second fits =
    let gone = ap (λ (l : List ℕ). length l) second.1 in absurd (omega (arith, fits, first.1, gone, second.2))
same_stop bytes Spent Spent after later left rest not never first second fits = record { is = refl; left_is = tt }
same_stop bytes took ReadFault after later left rest not never first second fits = absurd (never refl)
same_stop bytes ReadFault other after later left rest not never first second fits = absurd (not refl)

-- a reading takes bytes from the front
shorter : (bytes : List ℕ) (took : Took) (after : Reader) (left : List ℕ) → ReadsNext bytes took after left → length left ≤ length bytes
shorter bytes (Line line) after left reads =
    let behind = ahead_left after.ahead left (after_line bytes) reads.1 in
    let less = after_shorter bytes line reads.0 in omega (arith, behind, less)
shorter bytes TooLong after left reads = ahead_left reads.taken left bytes (sym reads.split)
shorter bytes End after left reads = omega (arith, ap (λ (l : List ℕ). length l) reads.1)
shorter bytes Spent after left reads = ahead_left reads.0.taken left bytes (sym reads.0.split)
shorter bytes ReadFault after left reads = ahead_left reads.0.taken left bytes (sym reads.0.split)

module _ (skips : List (List ℕ) → List ℕ → Bool) where
  behind_skipped : {before lines : List (List ℕ)} {bytes later : List ℕ} → Skipped skips before bytes lines later → length later ≤ length bytes
  behind_skipped none = omega arith
  behind_skipped {bytes} (one line is skip more) = let less = after_shorter bytes line is in omega (arith, less, behind_skipped more)

  -- a reading doesn't stop where another one skips a line
  goes_on : (before : List (List ℕ)) (bytes line : List ℕ) (took : Took) (after later : Reader) (left rest : List ℕ) → took ≢ ReadFault → ReadsNext bytes took after left
      → Stops skips (before ++ []) took → next_of bytes ≡ Line line → skips before line ≡ true → length rest ≤ length (after_line bytes) → Fits after later left rest → ⊥
  goes_on before bytes line (Line other) after later left rest not reads stops is skip behind fits =
      let lines : line ≡ other = cc (sym is ∙ reads.0) in
      false≢true (sym stops ∙ ap (λ (l : List (List ℕ)). skips l other) (append-nil before) ∙ ap (skips before) (sym lines) ∙ skip)
  goes_on before bytes line TooLong after later left rest not reads stops is skip behind fits = let differ = sym is ∙ too_long_is reads in absurd (cc differ)
  goes_on before bytes line End after later left rest not reads stops is skip behind fits = let differ = sym is ∙ reads.0 in absurd (cc differ)
  goes_on before bytes line Spent after later left rest not reads stops is skip behind fits = line_and_cut is reads.0 (omega (arith, behind, fits, reads.1))
  goes_on before bytes line ReadFault after later left rest not reads stops is skip behind fits = absurd (not refl)

  -- two readings are one
  pub record IsSameReading (lines others : List (List ℕ)) (took other : Took) (after later : Reader) (left rest : List ℕ) : Type 0 where
    pub skipped : lines ≡ others
    pub took_is : IsSameTook took other after later left rest

  one_reading : {before lines others : List (List ℕ)} {bytes mid end : List ℕ} (took other : Took) (after later : Reader) (left rest : List ℕ) → took ≢ ReadFault → other ≢ ReadFault
      → Skipped skips before bytes lines mid → Skipped skips before bytes others end → ReadsNext mid took after left → ReadsNext end other later rest
      → Stops skips (before ++ lines) took → Stops skips (before ++ others) other → Fits after later left rest → IsSameReading lines others took other after later left rest
  one_reading {bytes = bytes} took other after later left rest not never none none reads again stops stops' fits = record { skipped = refl; took_is = same_stop bytes took other after later left rest not never reads again fits }
  one_reading {before} {bytes = bytes} {end} took other after later left rest not never none (one line is skip more) reads again stops stops' fits =
      let behind = behind_skipped more in
      absurd (goes_on before bytes line took after later left rest not reads stops is skip (omega (arith, behind, shorter end other later rest again)) fits)
  one_reading {before} {bytes = bytes} {mid} took other after later left rest not never (one line is skip more) none reads again stops stops' fits =
      let behind = behind_skipped more in
      absurd (goes_on before bytes line other later after rest left never again stops' is skip (omega (arith, behind, shorter mid took after left reads)) (sym fits))
  one_reading {before} {bytes = bytes} {mid} {end} took other after later left rest not never (one {lines} line is skip more) (one {lines = others} again_line is' skip' more') reads again stops stops' fits =
      let firsts : line ≡ again_line = cc (sym is ∙ is') in
      let behind = subst (λ (l : List ℕ). Skipped skips (before ++ l ∷ []) (after_line bytes) others end) (sym firsts) more' in
      let stops_here = subst (λ (l : List (List ℕ)). Stops skips l took) (sym (append_assoc before (line ∷ []) lines)) stops in
      let stops_there =
      subst (λ (l : List (List ℕ)). Stops skips l other) (ap (λ (f : List ℕ). before ++ f ∷ others) (sym firsts) ∙ sym (append_assoc before (line ∷ []) others)) stops' in
      let same = one_reading took other after later left rest not never more behind reads again stops_here stops_there fits in
      record { skipped = cc (firsts, same.skipped); took_is = same.took_is }

  pub same_reading : (bytes : List ℕ) {lines others : List (List ℕ)} (took other : Took) (after later : Reader) (left rest : List ℕ) → took ≢ ReadFault → other ≢ ReadFault
      → ReadsAfter skips [] lines bytes took after left → ReadsAfter skips [] others bytes other later rest → Fits after later left rest
      → IsSameReading lines others took other after later left rest
  same_reading bytes took other after later left rest not never first second fits =
      one_reading took other after later left rest not never first.skipped second.skipped first.next second.next first.stops second.stops fits

-- Lines that are written one after another are read again, whatever comes behind them.
use Rattle.std.proofs.Common.{◌≡◌, ℕ, suc, ◌+◌, ◌-◌, ◌<◌, ◌≤◌, ◌||◌, Bool, true, false, cond, leb, List, [], ◌∷◌, ◌++◌, length, take, drop, inl, inr, refl, ap, sym, subst, ◌∙◌, arith, append_assoc, append-nil, length-append}
use Rattle.std.{proofs.{lemmas.{Bool.{false≢true, le-leb, cases_lt}, List.{take-append-drop, take-append-le, Folds.list_any-append}}, Math.Seq.{take-append_seam, drop-append_seam, take-append-add}}, specs.List.{flat_map, position_or_len}}
use Rattle.assuan_line.{proofs.{Decided.stays, Parts.end_tells, Places.place_after}, specs.{Lines.{first_line, after_line}, Next.{Reader, next_of}, Skipping.{Skipped, none, one, Stops, ReadsNext}}}
use Rattle.{assuan_line.specs.declared.{buffer.TheConstants.MAX_UNDECIDED, reader.Took.{Took, TheVariants.{Line, TooLong, End, Spent, ReadFault}}}, assuan_text.specs.LineEnds.{is_lf, has_lf, line_of, without_cr}}

-- a line that is read as it was written: short, without a line feed, and no carriage return at its end
pub record IsSent (line : List ℕ) : Type 0 where
  pub short : length line ≤ 1000
  pub whole : has_lf line ≡ false
  pub no_cr : without_cr line ≡ line

apart : (line rest : List ℕ) → line_of line ++ rest ≡ line ++ 10 ∷ rest
apart line rest = append_assoc line (10 ∷ []) rest

lf_place : (line rest : List ℕ) → has_lf line ≡ false → position_or_len is_lf (line ++ 10 ∷ rest) ≡ length line
lf_place line rest whole = place_after is_lf line 10 rest whole refl

first_is : (line rest : List ℕ) → IsSent line → first_line (line ++ 10 ∷ rest) ≡ line
first_is line rest sent =
    ap (λ (n : ℕ). without_cr (take n (line ++ 10 ∷ rest))) (lf_place line rest sent.whole)
    ∙ ap without_cr (take-append_seam line (10 ∷ rest)) ∙ sent.no_cr

among_first : (line rest : List ℕ) → IsSent line → has_lf (take MAX_UNDECIDED (line ++ 10 ∷ rest)) ≡ true
among_first line rest sent =
    let sum : MAX_UNDECIDED ≡ length line + suc (1001 - length line) = omega (arith, sent.short) in
    ap (λ (n : ℕ). has_lf (take n (line ++ 10 ∷ rest))) sum ∙ ap has_lf (take-append-add line (10 ∷ rest) (suc (1001 - length line)))
    ∙ list_any-append is_lf line (10 ∷ take (1001 - length line) rest) ∙ ap (λ (b : Bool). b || true) sent.whole

next_of_line : (line rest : List ℕ) → IsSent line → next_of (line ++ 10 ∷ rest) ≡ Line line
unfolding next_of
next_of_line line rest sent =
    ap (λ (b : Bool). cond b (cond (leb (length (first_line (line ++ 10 ∷ rest))) 1000) (Line (first_line (line ++ 10 ∷ rest))) TooLong)
    (cond (leb MAX_UNDECIDED (length (line ++ 10 ∷ rest))) TooLong End)) (among_first line rest sent)
    ∙ ap (λ (l : List ℕ). cond (leb (length l) 1000) (Line l) TooLong) (first_is line rest sent)
    ∙ ap (λ (b : Bool). cond b (Line line) TooLong) (le-leb (length line) 1000 sent.short)

-- the next line is this one, and behind it comes the rest
pub next_is : (line rest : List ℕ) → IsSent line → next_of (line_of line ++ rest) ≡ Line line
next_is line rest sent = ap next_of (apart line rest) ∙ next_of_line line rest sent

pub after_is : (line rest : List ℕ) → IsSent line → after_line (line_of line ++ rest) ≡ rest
after_is line rest sent =
    let place : position_or_len is_lf (line_of line ++ rest) ≡ length line = ap (λ (l : List ℕ). position_or_len is_lf l) (apart line rest) ∙ lf_place line rest sent.whole in
    let long : position_or_len is_lf (line_of line ++ rest) + 1 ≡ length (line_of line) = omega (arith, place, length-append line (10 ∷ [])) in
    ap (λ (n : ℕ). drop n (line_of line ++ rest)) long ∙ drop-append_seam (line_of line) rest

-- bytes without a line feed end before that of the line
cut_before : (line rest taken left : List ℕ) → line_of line ++ rest ≡ taken ++ left → has_lf taken ≡ false → length rest < length left
cut_before line rest taken left same no_lf = elim (cases_lt (length rest) (length left)) [
  | inr few ↦
      let count : ℕ = length (line_of line) in
      let lengths : count + length rest ≡ length taken + length left = sym (length-append (line_of line) rest) ∙ ap length same ∙ length-append taken left in
      let front : line_of line ≡ take count taken =
      sym (take-append_seam (line_of line) rest) ∙ ap (λ (l : List ℕ). take count l) same ∙ take-append-le count taken left (omega (arith, few, lengths)) in
      let some : has_lf (take count taken) ≡ true = ap has_lf (sym front) ∙ list_any-append is_lf line (10 ∷ []) ∙ or_true (has_lf line) in
      let also : has_lf taken ≡ true =
      ap has_lf (sym (take-append-drop count taken)) ∙ list_any-append is_lf (take count taken) (drop count taken) ∙ ap (λ (b : Bool). b || has_lf (drop count taken)) some in
      absurd (false≢true (sym no_lf ∙ also))
  | inl many ↦ many
] where
  or_true : (b : Bool) → (b || true) ≡ true
  or_true true = refl
  or_true false = refl

-- bytes that have such a line next come to it, or they were cut short by the source
pub data Stands (line rest : List ℕ) (after : Reader) (left : List ℕ) : Took → Type 0 where
  comes : after.ahead ++ left ≡ rest → Stands line rest after left (Line line)
  cut : after.left ≡ 0 → length rest < length left → Stands line rest after left Spent
  failed : Stands line rest after left ReadFault

pub stands : (line rest : List ℕ) (took : Took) (after : Reader) (left : List ℕ) → IsSent line → ReadsNext (line_of line ++ rest) took after left → Stands line rest after left took
stands line rest (Line other) after left sent next =
    let same : other ≡ line = cc (sym next.0 ∙ next_is line rest sent) in
    subst (λ (l : List ℕ). Stands line rest after left (Line l)) (sym same) (comes (next.1 ∙ after_is line rest sent))
stands line rest TooLong after left sent long =
    let taken : next_of (line_of line ++ rest) ≡ TooLong = ap next_of long.split ∙ stays long.taken left (λ is. absurd (cc (sym long.long ∙ is))) ∙ long.long in
    absurd (cc (sym taken ∙ next_is line rest sent))
stands line rest End after left sent over = absurd (cc (sym over.0 ∙ next_is line rest sent))
stands line rest Spent after left sent short = cut short.1 (cut_before line rest short.0.taken left short.0.split (end_tells short.0.taken short.0.none))
stands line rest ReadFault after left sent short = failed

module _ (skips : List (List ℕ) → List ℕ → Bool) where
  -- lines that are skipped, behind these
  abbrev pub AreSkipped : List (List ℕ) → List (List ℕ) → Type 0
  AreSkipped before [] = Unit {0}
  AreSkipped before (line ∷ lines) = IsSent line × (skips before line ≡ true) × AreSkipped (before ++ line ∷ []) lines

  -- the lines and what stops them were read, or the source ended before
  pub data Walked (reals : List (List ℕ)) (last behind : List ℕ) (lines : List (List ℕ)) (after : Reader) (left : List ℕ) : Took → Type 0 where
    whole : lines ≡ reals → after.ahead ++ left ≡ behind → Walked reals last behind lines after left (Line last)
    spent : after.left ≡ 0 → length behind < length left → Walked reals last behind lines after left Spent
    fault : Walked reals last behind lines after left ReadFault

  abbrev pub all_of : List (List ℕ) → List ℕ → List ℕ → List ℕ
  all_of lines last behind = flat_map line_of lines ++ (line_of last ++ behind)

  front : (line : List ℕ) (lines : List (List ℕ)) (last behind : List ℕ) → all_of (line ∷ lines) last behind ≡ line_of line ++ all_of lines last behind
  front line lines last behind = append_assoc (line_of line) (flat_map line_of lines) (line_of last ++ behind)

  longer : (lines : List (List ℕ)) (last behind : List ℕ) → length behind ≤ length (all_of lines last behind)
  longer lines last behind = omega (arith, length-append (flat_map line_of lines) (line_of last ++ behind), length-append (line_of last) behind)

  -- nothing was skipped: what stops is the last line, or the source
  none_skipped : (before : List (List ℕ)) (line : List ℕ) (reals : List (List ℕ)) (last behind : List ℕ) (took : Took) (after : Reader) (left : List ℕ)
      → skips before line ≡ true → Stops skips (before ++ []) took → Stands line (all_of reals last behind) after left took → Walked (line ∷ reals) last behind [] after left took
  none_skipped before line reals last behind took after left skip stops (comes is) =
      absurd (false≢true (sym stops ∙ ap (λ (l : List (List ℕ)). skips l line) (append-nil before) ∙ skip))
  none_skipped before line reals last behind took after left skip stops (cut no_more short) = spent no_more (omega (arith, short, longer reals last behind))
  none_skipped before line reals last behind took after left skip stops failed = fault

  at_last : (last behind : List ℕ) (took : Took) (after : Reader) (left : List ℕ) → Stands last behind after left took → Walked [] last behind [] after left took
  at_last last behind took after left (comes is) = whole refl is
  at_last last behind took after left (cut no_more short) = spent no_more short
  at_last last behind took after left failed = fault

  more_read : {line : List ℕ} {reals lines : List (List ℕ)} {last behind : List ℕ} {took : Took} {after : Reader} {left : List ℕ}
      → Walked reals last behind lines after left took → Walked (line ∷ reals) last behind (line ∷ lines) after left took
  more_read {line} (whole same is) = whole (ap (λ (l : List (List ℕ)). line ∷ l) same) is
  more_read (spent no_more short) = spent no_more short
  more_read fault = fault

  pub walk : (reals : List (List ℕ)) (last behind : List ℕ) {before lines : List (List ℕ)} {bytes later : List ℕ} (took : Took) (after : Reader) (left : List ℕ)
      → bytes ≡ all_of reals last behind → AreSkipped before reals → IsSent last → skips (before ++ reals) last ≡ false
      → Skipped skips before bytes lines later → Stops skips (before ++ lines) took → ReadsNext later took after left → Walked reals last behind lines after left took
  walk [] last behind {before} took after left is skip sent stop none stops next =
      at_last last behind took after left (stands last behind took after left sent (subst (λ (b : List ℕ). ReadsNext b took after left) is next))
  walk [] last behind {before} {bytes = bytes} took after left is skip sent stop (one line next' skipped more) stops next =
      let same : line ≡ last = cc (sym next' ∙ ap next_of is ∙ next_is last behind sent) in
      absurd (false≢true (sym stop ∙ ap (λ (l : List (List ℕ)). skips l last) (append-nil before) ∙ ap (skips before) (sym same) ∙ skipped))
  walk (real ∷ reals) last behind {before} took after left is skip sent stop none stops next =
      none_skipped before real reals last behind took after left skip.1 stops
      (stands real (all_of reals last behind) took after left skip.0 (subst (λ (b : List ℕ). ReadsNext b took after left) (is ∙ front real reals last behind) next))
  walk (real ∷ reals) last behind {before} {bytes = bytes} took after left is skip sent stop (one {lines = lines} {later = later} line next' skipped more) stops next =
      let all : bytes ≡ line_of real ++ all_of reals last behind = is ∙ front real reals last behind in
      let same : line ≡ real = cc (sym next' ∙ ap next_of all ∙ next_is real (all_of reals last behind) skip.0) in
      let rest : after_line bytes ≡ all_of reals last behind = ap after_line all ∙ after_is real (all_of reals last behind) skip.0 in
      let behind_real : Skipped skips (before ++ real ∷ []) (after_line bytes) lines later = subst (λ (l : List ℕ). Skipped skips (before ++ l ∷ []) (after_line bytes) lines later) same more in
      let stop_behind : skips ((before ++ real ∷ []) ++ reals) last ≡ false = ap (λ (l : List (List ℕ)). skips l last) (append_assoc before (real ∷ []) reals) ∙ stop in
      let stops_behind : Stops skips ((before ++ real ∷ []) ++ lines) took =
      subst (λ (l : List (List ℕ)). Stops skips l took) (ap (λ (f : List ℕ). before ++ f ∷ lines) same ∙ sym (append_assoc before (real ∷ []) lines)) stops in
      let later_walk = walk reals last behind took after left rest skip.2 sent stop_behind behind_real stops_behind next in
      subst (λ (l : List ℕ). Walked (real ∷ reals) last behind (l ∷ lines) after left took) (sym same) (more_read later_walk)

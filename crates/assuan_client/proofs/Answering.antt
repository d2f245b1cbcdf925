-- From the lines that were read to the answer.
use Rattle.std.proofs.Common.{◌≡◌, ◌≢◌, ℕ, List, [], ◌∷◌, Option, Some, None, ◌⊎◌, inl, inr, refl, ap, sym, ◌∙◌, subst}
use Rattle.{agent_ports.specs.Sides.{Side, WhereKnown}, assuan_line.{specs.{Next.{Reader, WereNeeded, ended_by}, Reading.HasRead, Skipping.{IsUndecided, Stops, ReadsOn}, declared.reader.Took.Took}, proofs.ReadingOn.read_says_less}}
use Rattle.assuan_client.specs.{Answers.{Answers, ReadOn, IsStop, Says, ended_of, state_after}, Connections.Connection, Skipping.{Tally, with_lines, with_inquiry, skips_after, skips_behind, coded, IsBehind, nothing}}
use Rattle.assuan_client.{specs.declared.answer.Answer.{Answer, TheVariants.{Ok, Got, Err, Asked, Broken, ReadFault, WriteFault}}, proofs.Skipping.skipped_after}
use Rattle.assuan_line.specs.declared.reader.Took.TheVariants as took
use Rattle.assuan_client.specs.declared.answer.State.TheVariants as state
use Rattle.assuan_line.proofs.ReadingOn.{where_known}

-- after an answer that leaves the connection whole, the reader goes on
pub goes_on : (answer : Answer) → state_after answer ≢ state.Broken → ended_of answer ≡ None
goes_on Ok whole = refl
goes_on (Got secret) whole = refl
goes_on (Err number) whole = refl
goes_on (Asked word text) whole = refl
goes_on (Broken why) whole = absurd (whole refl)
goes_on ReadFault whole = absurd (whole refl)
goes_on WriteFault whole = absurd (whole refl)

is_fault : (t : Took) → ended_by t ≡ Some took.ReadFault → t ≡ took.ReadFault
is_fault (took.Line line) is = absurd (cc is)
is_fault took.TooLong is = cc is
is_fault took.End is = cc is
is_fault took.Spent is = cc is
is_fault took.ReadFault is = refl

stops_after : (tally : Tally) (lines : List (List ℕ)) (t : Took) → Stops skips_behind (coded tally ∷ lines) t → Stops (skips_after tally) lines t
stops_after tally lines (took.Line line) stops = stops
stops_after tally lines took.TooLong stops = tt
stops_after tally lines took.End stops = tt
stops_after tally lines took.Spent stops = tt
stops_after tally lines took.ReadFault stops = tt

is_stop : (tally : Tally) (lines : List (List ℕ)) (t : Took) → Stops (skips_after tally) lines t → IsStop (with_lines tally lines) t
is_stop tally lines (took.Line line) stops = stops
is_stop tally lines took.TooLong stops = tt
is_stop tally lines took.End stops = tt
is_stop tally lines took.Spent stops = tt
is_stop tally lines took.ReadFault stops = tt

-- what the answer is by
pub record IsBy (behind after : Tally) (t : Took) (answer : Answer) : Type 0 where
  pub says : IsStop behind t → Says behind t answer
  pub asked : (word text : List ℕ) → answer ≡ Asked word text → after ≡ with_inquiry behind
  pub ended : ended_by t ≡ ended_of answer
  pub no_write : answer ≢ WriteFault

answers_by : (tally behind after : Tally) (t : Took) (answer : Answer) → IsBy behind after t answer
    → (bytes left : List ℕ) (reader : Reader) → ReadsOn skips_behind (coded tally ∷ []) (IsBehind behind) bytes t reader left → Answers tally bytes t answer after reader left
answers_by tally behind after t answer by bytes left reader on =
    let lines = on.0 in
    let stops = stops_after tally lines t on.1.stops in
    let same : behind ≡ with_lines tally lines = on.2 in
    record {
      lines = lines;
      reads = record { later = on.1.later; skipped = skipped_after tally on.1.skipped; stops = stops; next = on.1.next };
      says = subst (λ (b : Tally). Says b t answer) same (by.says (subst (λ (b : Tally). IsStop b t) (sym same) (is_stop tally lines t stops)));
      asked = λ word text is. by.asked word text is ∙ ap with_inquiry same;
    }

-- what decides nothing, seen otherwise
undecided_by : {Some Other : List ℕ → Type 0} {ahead rest left : List ℕ} → ((bytes : List ℕ) → Some bytes → Other bytes) → (rest ≡ left) ⊎ WereNeeded Some ahead rest left
    → (rest ≡ left) ⊎ WereNeeded Other ahead rest left
undecided_by each (inl none) = inl none
undecided_by each (inr were) = inr (record { early = were.early; late = were.late; split = were.split; undecided = each _ were.undecided; few = were.few })

undecided_says_less : {Some Other : List ℕ → Type 0} {P : List ℕ → Took → Reader → List ℕ → Type 0} {before after : Reader} {input input_after : Side} {t : Took}
    → ((bytes : List ℕ) → Some bytes → Other bytes) → HasRead Some P before input t after input_after → HasRead Other P before input t after input_after
undecided_says_less {before = before} {input = input} {input_after = input_after} each read = record {
  known = read.known;
  budget = read.budget;
  needed = where_known input.bytes input_after.bytes _ _ read.needed (λ rest left. undecided_by each);
  progress = read.progress;
  spent = read.spent;
  fault = read.fault;
  faults = read.faults;
  ended = read.ended;
}

pub answered : (tally behind : Tally) (t : Took) (answer : Answer) (before after : Connection)
    → HasRead (IsUndecided skips_behind (coded tally ∷ [])) (ReadsOn skips_behind (coded tally ∷ []) (IsBehind behind)) before.reader before.input t after.reader after.input
    → IsBy behind after.tally t answer → after.output ≡ before.output → after.state ≡ state_after answer → (state_after answer ≢ state.Asked → after.tally ≡ nothing) → ReadOn tally answer before after
answered tally behind t answer before after read by output stands cleared =
    let answers = read_says_less (λ bytes left on. answers_by tally behind after.tally t answer by bytes left after.reader on) read in
    record {
      took = t;
      read = undecided_says_less (λ bytes is. record { lines = is.lines; later = is.later; skipped = skipped_after tally is.skipped; undecided = is.undecided }) answers;
      ended = read.ended ∙ by.ended;
      fault = λ is. read.fault (is_fault t (by.ended ∙ ap ended_of is));
      no_write = by.no_write;
      output = output;
      state = stands;
      cleared = λ is. cleared (λ asked. is (stands ∙ asked));
    }

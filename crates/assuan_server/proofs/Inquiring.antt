-- An inquiry: from its question to what its answer says.
use Rattle.std.{proofs.{Common.{◌≡◌, ◌≢◌, ◌≤◌, ◌<◌, ℕ, List, [], length, Some, None, refl, ap, sym, ◌∙◌, subst, arith, inl, inr}, lemmas.Bool.cases_lt}, specs.{Prelude.codes, List.flat_map}}
use Rattle.{agent_ports.specs.{Sides.Side, declared.link.Sent.TheVariants.All}, assuan_escape.specs.DataLines.carried, assuan_line.specs.{Next.{Reader, ended_by}, Reading.HasRead, Skipping.{IsUndecided, ReadsOn}, declared.reader.Took.Took}}
use Rattle.{assuan_line.{specs.declared.reader.Took.TheVariants.Line, proofs.ReadingOn.read_says_less}, assuan_text.specs.LineEnds.line_of, session_client.specs.declared.client_error.ClientError.ClientError}
use Rattle.assuan_server.specs.{Asking.{Gather, Inquire, not_written}, Connections.Connection, Ends.{IsAnswer, GivesNone}}
use Rattle.assuan_server.specs.Inquiries.{Outcome, Data, TooMuch, Cancelled, Unexpected, Ended, TooLong, Spent, ReadFault, ended_of, error_outcome, IsAtEnd, IsData, IsWord, Names, Answers, AnswersDropped, is_skipped, ComesTo, can, end}
use Rattle.assuan_server.specs.{Inquiries.{past, foreign, ended, too_long, spent, read_fault}, Written.HasWritten}

abbrev Undecided : List ℕ → Type 0
Undecided = IsUndecided (λ before line. is_skipped line) []

-- a line was written, and then lines were read
module _ {Reads : List ℕ → Took → Reader → List ℕ → Type 0} (line : List ℕ) (before mid after : Connection) (took : Took) where
  pub gathered : HasWritten (line_of line) before All mid → HasRead Undecided Reads mid.reader mid.input took after.reader after.input
      → after.output ≡ mid.output → after.link ≡ mid.link → Gather Reads line before took after
  gathered wrote read output link = record {
    read =
        subst (λ (s : Side). HasRead Undecided Reads before.reader s took after.reader after.input) wrote.input
        (subst (λ (r : Reader). HasRead Undecided Reads r mid.input took after.reader after.input) wrote.reader read);
    written = ap (λ (s : Side). s.bytes) output ∙ wrote.output;
    output_faults = omega (arith, wrote.faults, ap (λ (s : Side). s.faults) output);
    link = link ∙ wrote.link;
  }

-- how the reader has ended, by what the inquiry came to
pub ended_by_outcome : {limit : ℕ} {bytes : List ℕ} {took : Took} {outcome : Outcome} → ComesTo limit bytes took outcome → ended_by took ≡ ended_of outcome
ended_by_outcome (can word) = refl
ended_by_outcome (end word within) = refl
ended_by_outcome (past word beyond) = refl
ended_by_outcome (foreign no_can no_end) = refl
ended_by_outcome ended = refl
ended_by_outcome too_long = refl
ended_by_outcome spent = refl
ended_by_outcome read_fault = refl

-- the client gave nothing, whatever the bytes are
module _ {took : Took} {error : ClientError} (none : GivesNone took error) where
  pub failed : {limit : ℕ} {keeps : List ℕ → Type 0} (Else : Outcome → Type 0) → IsAnswer limit keeps took (Names Else (error_outcome error))
  failed {limit} Else = rw none.named (record {
    answers = λ bytes kept. (none.outcome, none.comes_to limit bytes, refl);
    ended = λ other is. ended_by_outcome (none.comes_to 0 []) ∙ ap ended_of is;
  })

  pub was_written : error ≢ not_written
  was_written is = let named : None ≡ Some none.outcome = sym (ap error_outcome is) ∙ none.named in cc named

pub inquired : {limit : ℕ} {keeps : List ℕ → Type 0} {line : List ℕ} {before after : Connection} {took : Took} {Says : Outcome → Type 0}
    → Gather (ReadsOn (λ before line. is_skipped line) [] (λ lines. keeps (flat_map carried lines))) line before took after → IsAnswer limit keeps took Says → Inquire limit line Says before after
inquired {took = took} gather answer = record {
  took = took;
  gathered = record {
    read = read_says_less (λ bytes left on.
        let to = answer.answers (flat_map carried on.0) on.2 in
        (to.0, record { lines = on.0; reads = on.1; comes_to = to.1 }, to.2)) gather.read;
    written = gather.written;
    output_faults = gather.output_faults;
    link = gather.link;
  };
  ended = answer.ended;
}

-- END was read
closed : (outcome : Outcome) → IsAtEnd outcome → ended_of outcome ≡ None
closed (Data bytes) is = refl
closed TooMuch is = refl
closed Cancelled is = absurd is
closed Unexpected is = absurd is
closed Ended is = absurd is
closed TooLong is = absurd is
closed Spent is = absurd is
closed ReadFault is = absurd is

at_end : {limit : ℕ} {keeps : List ℕ → Type 0} {took : Took} {Says : Outcome → Type 0} (line : List ℕ) → took ≡ Line line
    → ((outcome : Outcome) → Says outcome → IsAtEnd outcome)
    → ((bytes : List ℕ) → keeps bytes → (outcome : Outcome) × ComesTo limit bytes (Line line) outcome × Says outcome) → IsAnswer limit keeps took Says
at_end {limit} {keeps} {Says = Says} line is at comes_to =
    subst (λ t. IsAnswer limit keeps t Says) (sym is) (record { answers = comes_to; ended = λ outcome answers. sym (closed outcome (at outcome answers)) })

data_at_end : (outcome : Outcome) → IsData outcome → IsAtEnd outcome
data_at_end (Data bytes) is = tt
data_at_end TooMuch is = absurd is
data_at_end Cancelled is = absurd is
data_at_end Unexpected is = absurd is
data_at_end Ended is = absurd is
data_at_end TooLong is = absurd is
data_at_end Spent is = absurd is
data_at_end ReadFault is = absurd is

module _ {limit : ℕ} {keeps : List ℕ → Type 0} {took : Took} (line : List ℕ) (is : took ≡ Line line) (word : IsWord (codes "end") line) where
  pub with_data : (bytes : List ℕ) → ((other : List ℕ) → keeps other → (bytes ≡ other) × (length other ≤ limit)) → IsAnswer limit keeps took (Answers (Some (Data bytes)))
  with_data bytes kept = at_end line is (λ outcome same. subst IsAtEnd same tt) (λ other keeps.
      let so = kept other keeps in (Data other, end word so.1, ap (λ (b : List ℕ). Data b) so.0))

  pub beyond : (Else : Outcome → Type 0) → ((bytes : List ℕ) → keeps bytes → limit < length bytes) → IsAnswer limit keeps took (Names Else (Some TooMuch))
  beyond Else kept = at_end line is (λ outcome same. subst IsAtEnd same tt) (λ bytes keeps. (TooMuch, past word (kept bytes keeps), refl))

  pub dropped : ((bytes : List ℕ) → keeps bytes → length bytes ≤ limit) → IsAnswer limit keeps took (AnswersDropped None)
  dropped kept = at_end line is data_at_end (λ bytes keeps. (Data bytes, end word (kept bytes keeps), tt))

  pub without_memory : IsAnswer limit keeps took (Answers None)
  without_memory = at_end line is (λ outcome at. at) (λ bytes keeps. elim (cases_lt limit (length bytes)) [
    | inl long ↦ (TooMuch, past word long, tt)
    | inr short ↦ (Data bytes, end word short, tt)
  ])

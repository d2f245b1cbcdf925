-- A session in the code, from line to line.
use Rattle.std.proofs.{Common.{◌≡◌, ◌≢◌, ◌≤◌, ◌+◌, ℕ, List, [], ◌∷◌, ◌++◌, length, None, Ok, Err, refl, ap, sym, ◌∙◌, subst, append_assoc, arith}, lemmas.{List.Sums.fold-append, Grind.flat_map-append}}
use Rattle.{agent_ports.{specs.{Counts.Rose, Sides.{Side, with_bytes, WhereKnown}, Writing.{StopsWriting, WentOrStopped}}, proofs.Known.{known_then, known_both, known_same, with_bytes_append}}, assuan_line.specs.Lines.pieces_of}
use Rattle.{assuan_line.specs.{Next.{Reader, next_of, TakesWhatItNeeds}, Reading.HasRead, Skipping.ReadsNext, declared.reader.{Took.Took, TheConstants.BUDGET}}, assuan_text.specs.LineEnds.line_of}
use Rattle.pinentry_script.specs.declared.{end.ScriptEnd.{ScriptEnd, TheVariants.{Bye, Ended, TooLong, Spent, ReadFault, WriteFault}}, response.{Phrase.TheVariants.Greeting, Response.Response}, session.Session.Session as Code}
use Rattle.pinentry_script.specs.{declared.session.Stage.TheVariants.Closed, Entries.{answers_in, entries_of, pid_of}, Responses.{phrase_text, says}}
use Rattle.pinentry_script.specs.{Sessions.{Session, ReadsLines, none, more, greeting, answer, Leaves, IsClosedBy, last_line, Writes, RunsSession, session_of, after_one, text_of, with_turn}, Steps.IsTurn, Turns.turn_of, Writing.IsShortText}
use Rattle.pinentry_script.proofs.Saying.{one_line}
use Rattle.assuan_line.specs.declared.reader.Took.TheVariants as took

-- a session over the file that has come so far, with what it was said and what was read
pub record IsServing (file : List ℕ) (input output : Side) (session : Code) (reader : Reader) (input_now output_now : Side) : Type 0 where
  pub lines : List (List ℕ)
  pub stage : (session_of file lines).stage ≡ session.stage
  pub closed : (session_of file lines).stage ≡ Closed → IsClosedBy file lines
  pub answers : (session_of file lines).answers ≡ answers_in session.file.now
  pub pid : session.pid.now ≡ pid_of (entries_of (pieces_of file))
  pub short : IsShortText session.pid.now
  pub written : output_now.bytes ≡ with_bytes output.bytes (text_of (session_of file lines).said)
  pub going : reader.ended ≡ None
  pub read : WhereKnown input.bytes input_now.bytes (λ bytes left. ReadsLines bytes lines reader.ahead left)
  pub budget : WhereKnown input.bytes input_now.bytes (λ bytes left. length bytes + reader.left ≡ length left + BUDGET)
  pub input_faults : input.faults ≤ input_now.faults
  pub output_faults : output.faults ≤ output_now.faults

-- the greeting was written
pub serving_none : (file : List ℕ) (input output : Side) (session : Code) (input_now output_now : Side)
    → WentOrStopped (text_of (phrase_text Greeting ∷ [])) output (Ok tt) output_now → output.faults ≤ output_now.faults → input_now ≡ input
    → session.pid.now ≡ pid_of (entries_of (pieces_of file)) → IsShortText session.pid.now → session.file.now ≡ file → (session_of file []).stage ≡ session.stage
    → IsServing file input output session (record { ahead = []; left = BUDGET; ended = None }) input_now output_now
serving_none file input output session input_now output_now said faults same pid short is stage = record {
  lines = [];
  stage = stage;
  closed = λ e. cc e;
  answers = ap answers_in (sym is);
  pid = pid;
  short = short;
  written = said;
  going = refl;
  read = rw same (known_same input.bytes (λ bytes left. ReadsLines bytes [] [] left) (λ rest. none));
  budget = rw same (known_same input.bytes (λ bytes left. length bytes + BUDGET ≡ length left + BUDGET) (λ rest. refl));
  input_faults = omega (arith, ap (λ (s : Side). s.faults) same);
  output_faults = faults;
}

-- where the write of the greeting failed
pub cut_greeting : (file : List ℕ) (input output input_now output_now : Side)
    → WentOrStopped (text_of (phrase_text Greeting ∷ [])) output (Err (record {})) output_now → output.faults ≤ output_now.faults → input_now ≡ input
    → RunsSession file input output WriteFault input_now output_now
cut_greeting file input output input_now output_now stopped faults same = record {
  lines = [];
  sent = stopped.sent;
  writes = greeting stopped.unsent (sym (one_line (phrase_text Greeting)) ∙ stopped.split);
  written = stopped.written;
  read = rw same (known_same input.bytes
      (λ bytes left. (ahead : List ℕ) × (rest : List ℕ) × ReadsLines bytes [] ahead rest × Leaves (length bytes) WriteFault ahead rest left)
      (λ rest. ([], rest, none, (refl, omega arith))));
  read_fault = λ e. cc e;
  write_fault = λ e. stopped.rose;
  input_faults = omega (arith, ap (λ (s : Side). s.faults) same);
  output_faults = faults;
}

-- one line more
session_more : (file : List ℕ) (lines : List (List ℕ)) (line : List ℕ)
    → session_of file (lines ++ line ∷ []) ≡ after_one (pid_of (entries_of (pieces_of file))) (session_of file lines) line
session_more file lines line = fold-append (after_one (pid_of (entries_of (pieces_of file)))) _ lines (line ∷ [])

module _ (file : List ℕ) (input output : Side) (session : Code) (reader : Reader) (input_now output_now : Side) (serving : IsServing file input output session reader input_now output_now)
    (answer_took : Took) (reader_after : Reader) (input_after output_after : Side)
    (has_read : HasRead (λ bytes. next_of bytes ≡ took.End) ReadsNext reader input_now answer_took reader_after input_after) (same : output_after ≡ output_now) where
  -- what was read, and what it took
  reads : WhereKnown input_now.bytes input_after.bytes (λ rest left. ReadsNext (reader.ahead ++ rest) answer_took reader_after left × TakesWhatItNeeds reader.ahead rest left)
  reads = known_both _ _ _ _ has_read.known has_read.needed

  -- the session at an end of its input
  ends : (end : ScriptEnd) → session.stage ≢ Closed
      → ((sent : List ℕ) → sent ≡ text_of (session_of file serving.lines).said → (session_of file serving.lines).stage ≢ Closed → Writes file serving.lines end sent)
      → ((total : ℕ) (rest left : List ℕ) → ReadsNext (reader.ahead ++ rest) answer_took reader_after left → TakesWhatItNeeds reader.ahead rest left
      → total + reader_after.left ≡ length left + BUDGET → Leaves total end reader.ahead rest left)
      → (end ≡ ReadFault → Rose input_now.faults input_after.faults) → (end ≡ WriteFault → ⊥)
      → RunsSession file input output end input_after output_after
  ends end going_on writes leaves fault no_fault = record {
    lines = serving.lines;
    sent = text_of (session_of file serving.lines).said;
    writes = writes _ refl (λ closed. going_on (sym serving.stage ∙ closed));
    written = ap (λ (s : Side). s.bytes) same ∙ serving.written;
    read = known_then input.bytes input_now.bytes input_after.bytes
        (λ bytes left. ReadsLines bytes serving.lines reader.ahead left × (length bytes + reader.left ≡ length left + BUDGET))
        (λ rest left. (ReadsNext (reader.ahead ++ rest) answer_took reader_after left × TakesWhatItNeeds reader.ahead rest left) × (length rest + reader_after.left ≡ length left + reader.left))
        (λ bytes left. (ahead : List ℕ) × (rest : List ℕ) × ReadsLines bytes serving.lines ahead rest × Leaves (length bytes) end ahead rest left)
        (known_both _ _ _ _ serving.read serving.budget) (known_both _ _ _ _ reads has_read.budget)
        (λ bytes rest left first second. (reader.ahead, rest, first.0, leaves (length bytes) rest left second.0.0 second.0.1 (omega (arith, first.1, second.1))));
    read_fault = λ e. let rose = fault e in omega (arith, rose, serving.input_faults);
    write_fault = λ e. absurd (no_fault e);
    input_faults = omega (arith, serving.input_faults, has_read.faults);
    output_faults = omega (arith, serving.output_faults, ap (λ (s : Side). s.faults) same);
  }

  pub at_end : answer_took ≡ took.End → session.stage ≢ Closed → RunsSession file input output Ended input_after output_after
  at_end is going_on =
      ends Ended going_on (λ sent text stage. (text, stage))
      (λ total rest left told takes budget. let r = subst (λ (t : Took). ReadsNext (reader.ahead ++ rest) t reader_after left) is told in (r.0, r.1, omega (arith, budget, r.2)))
      (λ e. cc e) (λ e. cc e)

  pub at_too_long : answer_took ≡ took.TooLong → session.stage ≢ Closed → RunsSession file input output TooLong input_after output_after
  at_too_long is going_on =
      ends TooLong going_on (λ sent text stage. (text, stage))
      (λ total rest left told takes budget. (subst (λ (t : Took). ReadsNext (reader.ahead ++ rest) t reader_after left) is told, takes, omega (arith, budget)))
      (λ e. cc e) (λ e. cc e)

  pub at_spent : answer_took ≡ took.Spent → session.stage ≢ Closed → RunsSession file input output Spent input_after output_after
  at_spent is going_on =
      ends Spent going_on (λ sent text stage. (text, stage))
      (λ total rest left told takes budget. let r = subst (λ (t : Took). ReadsNext (reader.ahead ++ rest) t reader_after left) is told in (r.0, omega (arith, budget, r.1)))
      (λ e. cc e) (λ e. cc e)

  pub at_read_fault : answer_took ≡ took.ReadFault → session.stage ≢ Closed → RunsSession file input output ReadFault input_after output_after
  at_read_fault is going_on =
      ends ReadFault going_on (λ sent text stage. (text, stage))
      (λ total rest left told takes budget. let r = subst (λ (t : Took). ReadsNext (reader.ahead ++ rest) t reader_after left) is told in (r.0, omega (arith, budget, r.1)))
      (λ e. has_read.fault is) (λ e. cc e)

  module _ (line : List ℕ) (is : answer_took ≡ took.Line line) (response : Response) (session_after : Code)
      (turn : IsTurn (turn_of session.pid.now session.stage (answers_in session.file.now) line) session response session_after)
      (input_then output_then : Side) (unread : input_then ≡ input_after) (faults : output_after.faults ≤ output_then.faults) where
    -- the session after the line
    next_is : session_of file (serving.lines ++ line ∷ []) ≡ with_turn (session_of file serving.lines).said (turn_of session.pid.now session.stage (answers_in session.file.now) line)
    next_is = session_more file serving.lines line ∙ rw (serving.stage, serving.answers, serving.pid) refl

    text_is : text_of (session_of file (serving.lines ++ line ∷ [])).said ≡ text_of (session_of file serving.lines).said ++ text_of (says response)
    text_is =
        ap (λ (s : Session). text_of s.said) next_is
        ∙ flat_map-append line_of (session_of file serving.lines).said (turn_of session.pid.now session.stage (answers_in session.file.now) line).says
        ∙ ap (λ (l : List (List ℕ)). text_of (session_of file serving.lines).said ++ text_of l) (sym turn.says)

    lines_read : WhereKnown input.bytes input_then.bytes (λ bytes left. ReadsLines bytes (serving.lines ++ line ∷ []) reader_after.ahead left)
    lines_read =
        rw unread (known_then input.bytes input_now.bytes input_after.bytes
        (λ bytes left. ReadsLines bytes serving.lines reader.ahead left)
        (λ rest left. ReadsNext (reader.ahead ++ rest) answer_took reader_after left × TakesWhatItNeeds reader.ahead rest left)
        (λ bytes left. ReadsLines bytes (serving.lines ++ line ∷ []) reader_after.ahead left)
        serving.read reads (λ bytes rest left first second.
        let r = subst (λ (t : Took). ReadsNext (reader.ahead ++ rest) t reader_after left) is second.0 in
        more first r.0 second.1 r.1))

    budget_left : WhereKnown input.bytes input_then.bytes (λ bytes left. length bytes + reader_after.left ≡ length left + BUDGET)
    budget_left =
        rw unread (known_then input.bytes input_now.bytes input_after.bytes
        (λ bytes left. length bytes + reader.left ≡ length left + BUDGET)
        (λ rest left. length rest + reader_after.left ≡ length left + reader.left)
        (λ bytes left. length bytes + reader_after.left ≡ length left + BUDGET)
        serving.budget has_read.budget (λ bytes rest left first second. omega (arith, first, second)))

    pub serving_more : session.stage ≢ Closed → WentOrStopped (text_of (says response)) output_after (Ok tt) output_then → IsServing file input output session_after reader_after input_then output_then
    serving_more going_on said = record {
      lines = serving.lines ++ line ∷ [];
      stage = ap (λ (s : Session). s.stage) next_is ∙ sym turn.stage;
      closed = λ e. last_line serving.lines line (λ closed. going_on (sym serving.stage ∙ closed)) e;
      answers = ap (λ (s : Session). s.answers) next_is ∙ sym turn.answers;
      pid = turn.pid ∙ serving.pid;
      short = subst IsShortText (sym turn.pid) serving.short;
      written = said ∙ ap (λ (s : Side). with_bytes s.bytes (text_of (says response))) same
          ∙ ap (λ o. with_bytes o (text_of (says response))) serving.written
          ∙ with_bytes_append output.bytes (text_of (session_of file serving.lines).said) (text_of (says response))
          ∙ ap (with_bytes output.bytes) (sym text_is);
      going = rw is at has_read.ended;
      read = lines_read;
      budget = budget_left;
      input_faults = omega (arith, serving.input_faults, has_read.faults, ap (λ (s : Side). s.faults) unread);
      output_faults = omega (arith, serving.output_faults, ap (λ (s : Side). s.faults) same, faults);
    }

    pub cut_answer : session.stage ≢ Closed → StopsWriting (text_of (says response)) output_after output_then → RunsSession file input output WriteFault input_then output_then
    cut_answer going_on stopped = record {
      lines = serving.lines ++ line ∷ [];
      sent = text_of (session_of file serving.lines).said ++ stopped.sent;
      writes = answer serving.lines line stopped.sent stopped.unsent (λ closed. going_on (sym serving.stage ∙ closed))
          (text_is ∙ ap (λ x. text_of (session_of file serving.lines).said ++ x) stopped.split ∙ sym (append_assoc _ stopped.sent stopped.unsent));
      written = stopped.written ∙ ap (λ (s : Side). with_bytes s.bytes stopped.sent) same
          ∙ ap (λ o. with_bytes o stopped.sent) serving.written
          ∙ with_bytes_append output.bytes (text_of (session_of file serving.lines).said) stopped.sent;
      read = known_then input.bytes input_then.bytes input_then.bytes
          (λ bytes left. ReadsLines bytes (serving.lines ++ line ∷ []) reader_after.ahead left × (length bytes + reader_after.left ≡ length left + BUDGET))
          (λ rest left. rest ≡ left)
          (λ bytes left. (ahead : List ℕ) × (rest : List ℕ) × ReadsLines bytes (serving.lines ++ line ∷ []) ahead rest × Leaves (length bytes) WriteFault ahead rest left)
          (known_both _ _ _ _ lines_read budget_left) (known_same input_then.bytes (λ rest left. rest ≡ left) (λ rest. refl))
          (λ bytes rest left first e. (reader_after.ahead, rest, first.0, (e, omega (arith, first.1, ap (λ (l : List ℕ). length l) e))));
      read_fault = λ e. cc e;
      write_fault = λ e. omega (arith, stopped.rose, serving.output_faults, ap (λ (s : Side). s.faults) same);
      input_faults = omega (arith, serving.input_faults, has_read.faults, ap (λ (s : Side). s.faults) unread);
      output_faults = omega (arith, serving.output_faults, ap (λ (s : Side). s.faults) same, faults);
    }

-- it was said goodbye
pub is_closed : (file : List ℕ) (input output : Side) (session : Code) (reader : Reader) (input_now output_now : Side)
    → IsServing file input output session reader input_now output_now → session.stage ≡ Closed → RunsSession file input output Bye input_now output_now
is_closed file input output session reader input_now output_now serving closed = record {
  lines = serving.lines;
  sent = text_of (session_of file serving.lines).said;
  writes = (refl, serving.closed (serving.stage ∙ closed));
  written = serving.written;
  read = known_then input.bytes input_now.bytes input_now.bytes
      (λ bytes left. ReadsLines bytes serving.lines reader.ahead left × (length bytes + reader.left ≡ length left + BUDGET))
      (λ rest left. rest ≡ left)
      (λ bytes left. (ahead : List ℕ) × (rest : List ℕ) × ReadsLines bytes serving.lines ahead rest × Leaves (length bytes) Bye ahead rest left)
      (known_both _ _ _ _ serving.read serving.budget) (known_same input_now.bytes (λ rest left. rest ≡ left) (λ rest. refl))
      (λ bytes rest left first e. (reader.ahead, rest, first.0, (e, omega (arith, first.1, ap (λ (l : List ℕ). length l) e))));
  read_fault = λ e. cc e;
  write_fault = λ e. cc e;
  input_faults = serving.input_faults;
  output_faults = serving.output_faults;
}

-- A connection as that of a session's client: what is done with it, and what its client has said.
use Rattle.std.{proofs.Common.{◌≡◌, ℕ, true, List, [], ◌++◌, ◌⊎◌, inl, inr, Option, None, Some, Result, Ok, Err, refl, ap, sym, ◌∙◌, subst, arith}, specs.{Prelude.{codes, decimal}, Option.option_map}}
use Rattle.{agent_ports.specs.{Counts.Rose, Sides.{Side, WhereKnown}, declared.link.WriteFault.WriteFault}, assuan_line.specs.{Lines.IsLine, Next.{Reader, WereNeeded, held}, declared.reader.Took.Took}}
use Rattle.{assuan_line.proofs.ReadingOn.{fewer_are_held, fault_count_rose}, assuan_text.specs.Forms.is_ignored, cache_policy.specs.declared.secret.TheConstants.MAX_SECRET_LEN}
use Rattle.session_client.specs.{Asking.{Asked, NotAsked, LeavesInput, HasSaid, SaysLine, HasInquired, LeftBy, Inquires, TellsClient, AsksClient, without_data, is_unread}, Lines.TakesNeeded, declared.client.TheConstants.MAX_NOTE_LEN}
use Rattle.session_client.{specs.declared.client_error.ClientError.ClientError, proofs.Received.HasReceived}
use Rattle.assuan_server.specs.{Asking.{Gather, Inquire, IsNotAsked, Asks, not_written}, Clients.{HasSupply, connection_views, is_read_fault, outcome_says, asked, unsaid, Wishes}, Connections.{Connection, IsOpen}}
use Rattle.assuan_server.specs.{Inquiries.{Outcome, Inquiry as Comes, IsData, Answers, AnswersDropped, drop_outcome, secret_outcome, ended_of, inquire_text, is_skipped}, Reading.{Supply, ReadsRequest, ReadsInquiry, IsSupply, unread}}
use Rattle.assuan_server.{specs.{Requests.NextRequest, Written.{WritesText, WritesLine}}, proofs.{NoteLines.note_text, Reading.{read_known, reads_past, here_going}}}
use Rattle.assuan_line.specs.declared.reader.Took.TheVariants as took
use Rattle.session_client.specs.declared.client_error.Gone.TheVariants as gone
use Rattle.session_client.specs.declared.client_error.ClientError.TheVariants as client_error
use Rattle.assuan_server.specs.Inquiries as outcome

-- a connection that was left alone but for its output has the same bytes to come
module _ (start now : Connection) (input : now.input ≡ start.input) (reader : now.reader ≡ start.reader) (link : now.link ≡ start.link) where
  unread_same : option_map (unread now.reader) now.input.bytes ≡ option_map (unread start.reader) start.input.bytes
  unread_same = rw (input, reader) refl

  supply_same : (supply : Supply) → HasSupply supply start → HasSupply supply now
  supply_same supply is = rw (input, reader) is

  pub leaves : LeavesInput connection_views start now
  leaves = record {
    input = input;
    unread = unread_same;
    supply = supply_same;
    ended = ap (λ (r : Reader). r.ended) reader;
    held = ap held reader;
    link = link;
  }

-- a text was written, whole or in part
abbrev pub said_so : {text : List ℕ} {start now : Connection} {result : Result (Unit {0}) WriteFault} → WritesText text start result now → HasSaid connection_views text start result now
said_so {start} {now} said = record { output = said.output; leaves = leaves start now said.input said.reader said.link }

-- a line, where there is one
pub line_so : (line : Option (List ℕ)) (start now : Connection) (written : Result (Unit {0}) WriteFault) → WritesLine line start written now → SaysLine connection_views line start written now
line_so None start now written says = says
line_so (Some text) start now written says = said_so says

-- what a read took
needed_known : (Undecided : List ℕ → Type 0) (reader : Reader) (before after : Option (List ℕ)) → reader.ended ≡ None
    → WhereKnown before after (λ rest left. (rest ≡ left) ⊎ WereNeeded Undecided reader.ahead rest left)
    → TakesNeeded (WereNeeded Undecided) (option_map (unread reader) before) before after
needed_known Undecided reader None None going needed = tt
needed_known Undecided reader None (Some left) going needed = needed
needed_known Undecided reader (Some rest) None going needed = needed
needed_known Undecided reader (Some rest) (Some left) going (inl same) = inl same
needed_known Undecided reader (Some rest) (Some left) going (inr needs) = inr (reader.ahead, ap (λ (x : List ℕ). Some x) (here_going reader rest going), needs)

-- the next request was read
is_fault : (answer : Took) → is_read_fault answer ≡ true → answer ≡ took.ReadFault
is_fault took.ReadFault is = refl
is_fault (took.Line line) is = cc is
is_fault took.TooLong is = cc is
is_fault took.End is = cc is
is_fault took.Spent is = cc is

pub received_so : {start now : Connection} {answer : Took} → IsOpen start → NextRequest start answer now → HasReceived connection_views answer start now
received_so {start} {now} {answer} going next = record {
  reads = λ supply is.
      read_known supply start.reader now.reader start.input.bytes now.input.bytes _ (λ bytes rest. ReadsRequest supply bytes answer rest)
      next.read.known next.read.budget is
      (λ rest left is_now known.
      subst (λ (b : List ℕ). ReadsRequest supply b answer (unread now.reader left)) (sym (here_going start.reader rest going))
      (known.0, reads_past (λ before line. is_ignored line) supply (start.reader.ahead ++ rest) known.0 answer now.reader left next.read.ended is_now known.1));
  needed = needed_known _ start.reader start.input.bytes now.input.bytes going next.read.needed;
  output_is = ap (λ (s : Side). s.bytes) next.output;
  rose = λ is. next.read.fault (is_fault answer is);
  input_faults = next.read.faults;
  output_faults = omega (arith, ap (λ (s : Side). s.faults) next.output);
  link = next.link;
}

-- what is known of bytes that are known
known_as : (before after : Option (List ℕ)) (P Q : List ℕ → List ℕ → Type 0) → ((rest left : List ℕ) → P rest left → Q rest left) → WhereKnown before after P → WhereKnown before after Q
known_as None None P Q each known = tt
known_as None (Some left) P Q each known = absurd known
known_as (Some rest) None P Q each known = absurd known
known_as (Some rest) (Some left) P Q each known = each rest left known

-- the data of an inquiry whose answer doesn't name them
some_data : (before after : Option (List ℕ)) (P : List ℕ → List ℕ → Outcome → Type 0)
    → WhereKnown before after (λ rest left. (outcome : Outcome) × P rest left outcome × IsData outcome)
    → (bytes : List ℕ) × WhereKnown before after (λ rest left. P rest left (outcome.Data bytes))
some_data None None P known = ([], tt)
some_data None (Some left) P known = absurd known
some_data (Some rest) None P known = absurd known
some_data (Some rest) (Some left) P (outcome.Data bytes, is, named) = (bytes, is)
some_data (Some rest) (Some left) P (outcome.Cancelled, is, named) = absurd named
some_data (Some rest) (Some left) P (outcome.TooMuch, is, named) = absurd named
some_data (Some rest) (Some left) P (outcome.Unexpected, is, named) = absurd named
some_data (Some rest) (Some left) P (outcome.Ended, is, named) = absurd named
some_data (Some rest) (Some left) P (outcome.TooLong, is, named) = absurd named
some_data (Some rest) (Some left) P (outcome.Spent, is, named) = absurd named
some_data (Some rest) (Some left) P (outcome.ReadFault, is, named) = absurd named

is_unread_by : (what : Outcome) → is_unread (outcome_says what) ≡ true → what ≡ outcome.ReadFault
is_unread_by (outcome.Data bytes) is = cc is
is_unread_by outcome.Cancelled is = cc is
is_unread_by outcome.TooMuch is = cc is
is_unread_by outcome.Unexpected is = cc is
is_unread_by outcome.Ended is = cc is
is_unread_by outcome.TooLong is = cc is
is_unread_by outcome.Spent is = cc is
is_unread_by outcome.ReadFault is = refl

-- how a connection is left by what its client has said
left_by : (start now : Connection) (what : Outcome) → now.reader.ended ≡ ended_of what → (what ≡ outcome.ReadFault → Rose start.input.faults now.input.faults)
    → LeftBy connection_views (outcome_says what) start now
left_by start now (outcome.Data bytes) ended rose = ended
left_by start now outcome.Cancelled ended rose = ended
left_by start now outcome.TooMuch ended rose = ended
left_by start now outcome.Unexpected ended rose = ended
left_by start now outcome.Ended ended rose = record { ended = ended; read_fault = λ e. absurd (cc e); write_fault = λ e. absurd (cc e) }
left_by start now outcome.TooLong ended rose = record { ended = ended; read_fault = λ e. absurd (cc e); write_fault = λ e. absurd (cc e) }
left_by start now outcome.Spent ended rose = record { ended = ended; read_fault = λ e. absurd (cc e); write_fault = λ e. absurd (cc e) }
left_by start now outcome.ReadFault ended rose = record { ended = ended; read_fault = λ e. rose refl; write_fault = λ e. absurd (cc e) }

left_dropped : (start now : Connection) (result : Result (List ℕ) ClientError) → LeftBy connection_views result start now → LeftBy connection_views (without_data result) start now
left_dropped start now (Ok bytes) left = left
left_dropped start now (Err why) left = left

-- an inquiry by this word and these parameters
module _ (word params : List ℕ) (limit : ℕ) (start now : Connection) where
  -- its line wasn't written whole
  pub not_inquired : {A : Type 0} (not : IsNotAsked (inquire_text word params) start now)
      → Inquires connection_views {A = A} word params limit (NotAsked not.1.output.stopped.sent) (Err (client_error.Gone gone.WriteFault)) start now
  not_inquired (count, part) = record {
    done = record { leaves = leaves start now part.input part.reader part.link; stopped = part.output.stopped; sent_is = refl; faults = part.faults };
    fewer = λ is. omega (arith, ap held part.reader);
    left = record { ended = tt; read_fault = λ e. absurd (cc e); write_fault = λ e. part.output.stopped.rose };
  }

  -- the client answered
  module _ (going : IsOpen start) {Reads : List ℕ → Took → Reader → List ℕ → Type 0} (what : Outcome) (answer : Took)
      (gathered : Gather Reads (inquire_text word params) start answer now) (rose : what ≡ outcome.ReadFault → Rose start.input.faults now.input.faults)
      (known : WhereKnown start.input.bytes now.input.bytes (λ rest left. Comes limit (start.reader.ahead ++ rest) answer what now.reader left)) where
    answer_read : (supply : Supply) (rest left : List ℕ) → IsSupply supply now.reader left → Comes limit (start.reader.ahead ++ rest) answer what now.reader left
        → ReadsInquiry supply limit (start.reader.ahead ++ rest) what (unread now.reader left)
    answer_read supply rest left is inquiry = record {
      lines = inquiry.lines;
      took = answer;
      past = reads_past (λ before line. is_skipped line) supply (start.reader.ahead ++ rest) inquiry.lines answer now.reader left gathered.read.ended is inquiry.reads;
      comes_to = inquiry.comes_to;
    }

    has_inquired : HasInquired connection_views word params limit (Asked what) start now
    has_inquired = record {
      reads = λ supply is.
          read_known supply start.reader now.reader start.input.bytes now.input.bytes _ (λ bytes rest. ReadsInquiry supply limit bytes what rest)
          known gathered.read.budget is
          (λ rest left is_now inquiry.
          subst (λ (b : List ℕ). ReadsInquiry supply limit b what (unread now.reader left)) (sym (here_going start.reader rest going)) (answer_read supply rest left is_now inquiry));
      needed = needed_known _ start.reader start.input.bytes now.input.bytes going gathered.read.needed;
      output_is = gathered.written;
      rose = λ is. rose (is_unread_by what is);
      input_faults = gathered.read.faults;
      output_faults = gathered.output_faults;
      link = gathered.link;
    }

  -- an outcome that the answer names
  pub inquiry_is_done : (going : IsOpen start) (what : Outcome) → Inquire limit (inquire_text word params) (λ outcome. what ≡ outcome) start now
      → Inquires connection_views word params limit (Asked what) (outcome_says what) start now
  inquiry_is_done going what inquire =
      let ended : now.reader.ended ≡ ended_of what = inquire.gathered.read.ended ∙ inquire.ended what refl in
      let rose : what ≡ outcome.ReadFault → Rose start.input.faults now.input.faults = λ is. fault_count_rose inquire.gathered.read (ended ∙ ap ended_of is) in
      record {
        done =
            has_inquired going what inquire.took inquire.gathered rose
            (known_as start.input.bytes now.input.bytes _ (λ rest left. Comes limit (start.reader.ahead ++ rest) inquire.took what now.reader left)
            (λ rest left read. subst (λ o. Comes limit (start.reader.ahead ++ rest) inquire.took o now.reader left) (sym read.2) read.1) inquire.gathered.read.known);
        fewer = λ is. omega (arith, fewer_are_held inquire.gathered.read is);
        left = left_by start now what ended rose;
      }

  -- bytes that the answer doesn't name
  pub inquired_data : (going : IsOpen start) → Inquire limit (inquire_text word params) (AnswersDropped None) start now
      → (bytes : List ℕ) × Inquires connection_views {A = Unit {0}} word params limit (Asked (outcome.Data bytes)) (Ok tt) start now
  inquired_data going inquire =
      let known = some_data start.input.bytes now.input.bytes (λ rest left o. Comes limit (start.reader.ahead ++ rest) inquire.took o now.reader left) inquire.gathered.read.known in (
        known.0,
        record {
          done = has_inquired going (outcome.Data known.0) inquire.took inquire.gathered (λ e. absurd (cc e)) known.1;
          fewer = λ is. omega (arith, fewer_are_held inquire.gathered.read is);
          left = inquire.gathered.read.ended ∙ inquire.ended (outcome.Data []) tt;
        },
      )

-- it was told of a prompt, as its session sees that
module _ {pid : ℕ} {start now : Connection} (going : IsOpen start) where
  told_as : (what : Outcome) → Inquire MAX_NOTE_LEN (note_text pid) (λ outcome. what ≡ outcome) start now
      → TellsClient connection_views pid (without_data (outcome_says what)) start now
  told_as what inquire =
      let inquires = inquiry_is_done (codes "PINENTRY_LAUNCHED") (decimal pid) MAX_NOTE_LEN start now going what inquire in
      record {
        inquired = Asked what;
        result_is = refl;
        inquires = record { done = inquires.done; fewer = inquires.fewer; left = left_dropped start now (outcome_says what) inquires.left };
      }

  pub told : (result : Result (Unit {0}) ClientError) → Asks (Err not_written) MAX_NOTE_LEN (note_text pid) result (AnswersDropped (drop_outcome result)) start now → TellsClient connection_views pid result start now
  told (Ok noted) asks =
      let gave = inquired_data (codes "PINENTRY_LAUNCHED") (decimal pid) MAX_NOTE_LEN start now going (asks.inquiry (λ e. cc e)) in
      record { inquired = Asked (outcome.Data gave.0); result_is = refl; inquires = gave.1 }
  told (Err client_error.Cancelled) asks = told_as outcome.Cancelled (asks.inquiry (λ e. cc e))
  told (Err client_error.TooMuch) asks = told_as outcome.TooMuch (asks.inquiry (λ e. cc e))
  told (Err client_error.Unexpected) asks = told_as outcome.Unexpected (asks.inquiry (λ e. cc e))
  told (Err (client_error.Gone gone.Ended)) asks = told_as outcome.Ended (asks.inquiry (λ e. cc e))
  told (Err (client_error.Gone gone.TooLong)) asks = told_as outcome.TooLong (asks.inquiry (λ e. cc e))
  told (Err (client_error.Gone gone.Spent)) asks = told_as outcome.Spent (asks.inquiry (λ e. cc e))
  told (Err (client_error.Gone gone.ReadFault)) asks = told_as outcome.ReadFault (asks.inquiry (λ e. cc e))
  told (Err (client_error.Gone gone.WriteFault)) asks = record {
    inquired = _;
    result_is = refl;
    inquires = not_inquired (codes "PINENTRY_LAUNCHED") (decimal pid) MAX_NOTE_LEN start now (asks.cut refl);
  }

-- and it was asked for a passphrase
module _ {word : List ℕ} {start now : Connection} (going : IsOpen start) where
  wished_as : (what : Outcome) → Inquire MAX_SECRET_LEN (inquire_text word []) (λ outcome. what ≡ outcome) start now
      → AsksClient connection_views word MAX_SECRET_LEN (outcome_says what) start now
  wished_as what inquire = record { inquired = Asked what; result_is = refl; inquires = inquiry_is_done word [] MAX_SECRET_LEN start now going what inquire }

  pub wished : (result : Result (List ℕ) ClientError) → Asks (Err not_written) MAX_SECRET_LEN (inquire_text word []) result (Answers (secret_outcome result)) start now
      → AsksClient connection_views word MAX_SECRET_LEN result start now
  wished (Ok secret) asks = wished_as (outcome.Data secret) (asks.inquiry (λ e. cc e))
  wished (Err client_error.Cancelled) asks = wished_as outcome.Cancelled (asks.inquiry (λ e. cc e))
  wished (Err client_error.TooMuch) asks = wished_as outcome.TooMuch (asks.inquiry (λ e. cc e))
  wished (Err client_error.Unexpected) asks = wished_as outcome.Unexpected (asks.inquiry (λ e. cc e))
  wished (Err (client_error.Gone gone.Ended)) asks = wished_as outcome.Ended (asks.inquiry (λ e. cc e))
  wished (Err (client_error.Gone gone.TooLong)) asks = wished_as outcome.TooLong (asks.inquiry (λ e. cc e))
  wished (Err (client_error.Gone gone.Spent)) asks = wished_as outcome.Spent (asks.inquiry (λ e. cc e))
  wished (Err (client_error.Gone gone.ReadFault)) asks = wished_as outcome.ReadFault (asks.inquiry (λ e. cc e))
  wished (Err (client_error.Gone gone.WriteFault)) asks = record { inquired = _; result_is = refl; inquires = not_inquired word [] MAX_SECRET_LEN start now (asks.cut refl) }

  pub wishes : (result : Result (List ℕ) ClientError) → Asks (Err not_written) MAX_SECRET_LEN (inquire_text word []) result (Answers (secret_outcome result)) start now → Wishes start word result now
  wishes result asks = let is = wished result asks in record { wished = asked is; left = is.inquires.left }

pub wishes_unsaid : {word : List ℕ} {start : Connection} → IsOpen start → ¬ IsLine (inquire_text word []) → Wishes start word (Err client_error.Unexpected) start
wishes_unsaid going unfit = record { wished = unsaid unfit; left = going }

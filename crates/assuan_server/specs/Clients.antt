-- A connection as that of a session's client: the lines that its server reads, what is seen of it, and what the client has said by an
-- inquiry (Assuan manual, "server responses").
use Rattle.std.specs.Prelude.{ℕ, Bool, true, false, List, [], Option, Some, None, Result, Ok, Err, IfSome}
use Rattle.{assuan_line.specs.{Lines.IsLine, Next.{WereNeeded, held}, Skipping.IsUndecided, declared.reader.Took.Took}, assuan_text.specs.{Forms.is_ignored, LineEnds.line_of}, cache_policy.specs.declared.secret.TheConstants.MAX_SECRET_LEN}
use Rattle.session_client.specs.{Asking.{AsksClient, LeftBy}, Lines.{Lines, Views}, declared.client_error.{Gone.Gone, ClientError.ClientError}}
use Rattle.assuan_server.specs.{Connections.Connection, Inquiries.{Outcome, Data, Cancelled, TooMuch, Unexpected, Ended, TooLong, Spent, ReadFault, inquire_text, is_skipped}, Reading.{Supply, ReadsRequest, ReadsInquiry, IsSupply, unread}}
use Rattle.assuan_line.specs.declared.reader.Took.TheVariants as took
use Rattle.session_client.specs.declared.client_error.Gone.TheVariants as gone
use Rattle.session_client.specs.declared.client_error.ClientError.TheVariants as client_error

-- what the client has said by an inquiry that came to this
abbrev pub outcome_says : Outcome → Result (List ℕ) ClientError
outcome_says (Data bytes) = Ok bytes
outcome_says Cancelled = Err client_error.Cancelled
outcome_says TooMuch = Err client_error.TooMuch
outcome_says Unexpected = Err client_error.Unexpected
outcome_says Ended = Err (client_error.Gone gone.Ended)
outcome_says TooLong = Err (client_error.Gone gone.TooLong)
outcome_says Spent = Err (client_error.Gone gone.Spent)
outcome_says ReadFault = Err (client_error.Gone gone.ReadFault)

-- the answer that ended the reader of a client that is gone so
abbrev pub answer_of : Gone → Option Took
answer_of gone.Ended = Some took.End
answer_of gone.TooLong = Some took.TooLong
answer_of gone.Spent = Some took.Spent
answer_of gone.ReadFault = Some took.ReadFault
answer_of gone.WriteFault = None

-- a read failed
abbrev pub is_read_fault : Took → Bool
is_read_fault took.ReadFault = true
is_read_fault _ = false

-- the lines that a session's server reads
abbrev pub session_lines : Lines
session_lines = record {
  Supply = Supply;
  Took = Took;
  is_failed = is_read_fault;
  reads_request = ReadsRequest;
  needs_request = WereNeeded (IsUndecided (λ lines line. is_ignored line) []);
  inquiry_line = λ word params. line_of (inquire_text word params);
  Outcome = Outcome;
  reads_answer = ReadsInquiry;
  needs_answer = WereNeeded (IsUndecided (λ lines line. is_skipped line) []);
  says = outcome_says;
  ended_by = answer_of;
}

-- it began with this supply, where its bytes are known
abbrev pub HasSupply : Supply → Connection → Type 0
HasSupply supply conn = IfSome conn.input.bytes (λ left. IsSupply supply conn.reader left)

-- what is seen of it
abbrev pub connection_views : Views session_lines Connection
connection_views = record {
  input = λ conn. conn.input;
  output = λ conn. conn.output;
  link = λ conn. conn.link;
  unread = λ conn. unread conn.reader;
  has_supply = HasSupply;
  ended = λ conn. conn.reader.ended;
  held = λ conn. held conn.reader;
}

-- it was asked for a passphrase by a word, or the word fits no line, and nothing is asked
pub data Wished (before : Connection) (word : List ℕ) : Result (List ℕ) ClientError → Connection → Type 0 where
  asked : {result : Result (List ℕ) ClientError} {after : Connection} → AsksClient connection_views word MAX_SECRET_LEN result before after → Wished before word result after
  unsaid : ¬ IsLine (inquire_text word []) → Wished before word (Err client_error.Unexpected) before

-- and how the connection is left
pub record Wishes (before : Connection) (word : List ℕ) (result : Result (List ℕ) ClientError) (after : Connection) : Type 0 where
  pub wished : Wished before word result after
  pub left : LeftBy connection_views result before after

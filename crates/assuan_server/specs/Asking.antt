-- What asking the client does to a connection.
use Rattle.std.specs.Prelude.{◌≡◌, ◌≢◌, ◌≤◌, ℕ, List, []}
use Rattle.{agent_ports.specs.{Sides.with_bytes, declared.link.Sent.TheVariants.Failed}, assuan_line.specs.{Next.{Reader, ended_by}, Reading.HasRead, Skipping.IsUndecided, declared.reader.Took.Took}, assuan_text.specs.LineEnds.line_of}
use Rattle.session_client.specs.declared.client_error.{ClientError.{ClientError, TheVariants.Gone}, Gone.TheVariants.WriteFault}
use Rattle.assuan_server.specs.{Connections.Connection, Inquiries.{Outcome, Inquiry, ended_of, is_skipped}, Written.HasWritten}

-- a line was written, and lines were read up to the first answer that an inquiry doesn't skip
pub record Gather (Reads : List ℕ → Took → Reader → List ℕ → Type 0) (line : List ℕ) (before : Connection) (took : Took) (after : Connection) : Type 0 where
  pub read : HasRead (IsUndecided (λ lines line. is_skipped line) []) Reads before.reader before.input took after.reader after.input
  pub written : after.output.bytes ≡ with_bytes before.output.bytes (line_of line)
  pub output_faults : before.output.faults ≤ after.output.faults
  pub link : after.link ≡ before.link

-- what an inquiry comes to, of which an answer says so much
abbrev pub ReadsAnswer : ℕ → (Outcome → Type 0) → List ℕ → Took → Reader → List ℕ → Type 0
ReadsAnswer limit Says bytes took after left = (outcome : Outcome) × Inquiry limit bytes took outcome after left × Says outcome

-- The client was asked by this line, and answered within this limit, or its input ended.
pub record Inquire (limit : ℕ) (line : List ℕ) (Says : Outcome → Type 0) (before after : Connection) : Type 0 where
  pub took : Took
  pub gathered : Gather (ReadsAnswer limit Says) line before took after
  pub ended : (outcome : Outcome) → Says outcome → ended_by took ≡ ended_of outcome

-- The line wasn't written whole, and nothing was read.
abbrev pub IsNotAsked : List ℕ → Connection → Connection → Type 0
IsNotAsked line before after = (count : ℕ) × HasWritten (line_of line) before (Failed count) after

-- the error of a client whom nothing was asked, since its link takes nothing
abbrev pub not_written : ClientError
not_written = Gone WriteFault

abbrev pub NotWritten : List ℕ → Connection → Connection → ClientError → Type 0
NotWritten line before after error = (error ≡ not_written) × IsNotAsked line before after

-- The client was asked by this line, and its answer, of which so much is said, came to this; or it came to that the line wasn't written.
pub record Asks {A : Type 0} (write_fault : A) (limit : ℕ) (line : List ℕ) (result : A) (Says : Outcome → Type 0) (before after : Connection) : Type 0 where
  pub inquiry : result ≢ write_fault → Inquire limit line Says before after
  pub cut : result ≡ write_fault → IsNotAsked line before after

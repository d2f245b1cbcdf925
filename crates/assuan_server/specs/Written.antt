-- The lines that a server writes, as the Assuan manual has them ("server responses"), and what a write of them leaves.
use Rattle.std.specs.{Prelude.{◌≡◌, ◌≤◌, ◌==◌, ◌^◌, ◌-◌, min, List, [], ℕ, ◌++◌, length, codes, decimal, if◌then◌else◌, Option, Some, None, Result, Ok, Err, ⊤}, Option.option_map}
use Rattle.{agent_ports.specs.{declared.link.{Sent.{Sent, TheVariants.{All, Failed}}, WriteFault.WriteFault as Fault}, Writing.Writes}, assuan_escape.specs.DataLines.{AreData, data_text}, assuan_line.specs.Written.HasSent}
use Rattle.{assuan_text.specs.LineEnds.line_of, session_client.specs.{Refusals.refusal_code, declared.{code.Code.Code, refusal.Refusal.Refusal}}}
use Rattle.assuan_server.specs.{Connections.Connection, Errors.error_text, declared.errors.Origin.TheVariants.{Agent, Pinentry}}
use Rattle.session_client.specs.declared.refusal.Refusal.TheVariants as refusal

abbrev pub greeting : List ℕ
greeting = codes "OK Pleased to meet you"

abbrev pub ok_text : List ℕ → List ℕ
ok_text text = if length text == 0 then codes "OK" else codes "OK " ++ text

-- the line that answers a request by nothing but that it was done
abbrev pub ok : List ℕ
ok = line_of (ok_text [])

-- these bytes as data lines, and then that line
pub record IsDataAnswer (bytes text : List ℕ) : Type 0 where
  pub pieces : List (List ℕ)
  pub are_data : AreData bytes pieces
  pub text_is : text ≡ data_text pieces ++ ok

abbrev pub status_text : List ℕ → List ℕ → List ℕ
status_text word text = codes "S " ++ word ++ codes " " ++ text

-- How many bytes a client may send is told before it is asked for them. The form of the line is GnuPG's.
abbrev pub limit_line : ℕ → List ℕ
limit_line limit = line_of (status_text (codes "INQUIRE_MAXLEN") (decimal limit))

abbrev pub comment_text : List ℕ → List ℕ
comment_text text = codes "# " ++ text

-- the line of an error, which is the agent's own
abbrev pub failed : Code → List ℕ
failed code = line_of (error_text code Agent)

-- the line of an error that the pinentry gave
abbrev pub failed_at_pinentry : Code → List ℕ
failed_at_pinentry code = line_of (error_text code Pinentry)

-- the line that a refusal is answered by, where there is one
abbrev pub refusal_line : Refusal → Option (List ℕ)
refusal_line (refusal.Agent code) = Some (failed code)
refusal_line (refusal.Pinentry code) = Some (failed_at_pinentry code)
refusal_line (refusal.Client why) = option_map failed (refusal_code why)

-- a call wrote these bytes to a connection, or some first ones of them, and left the rest of it alone
pub record HasWritten (bytes : List ℕ) (before : Connection) (sent : Sent) (after : Connection) : Type 0 where
  pub output : HasSent bytes before.output sent after.output
  pub faults : before.output.faults ≤ after.output.faults
  pub input : after.input ≡ before.input
  pub reader : after.reader ≡ before.reader
  pub link : after.link ≡ before.link

-- what became of bytes of which so many were written, or only so many
abbrev pub sent_of : Result ℕ ℕ → Sent
sent_of (Ok count) = All
sent_of (Err count) = Failed count

-- so many bytes are counted
abbrev pub IfCounts : Result ℕ ℕ → List ℕ → Type 0
IfCounts (Ok count) bytes = count ≡ min (length bytes) (2 ^ 64 - 1)
IfCounts (Err count) bytes = ⊤

-- a call wrote data lines to a connection, and counted their bytes
pub record WritesData (bytes : List ℕ) (before : Connection) (result : Result ℕ ℕ) (after : Connection) : Type 0 where
  pub pieces : List (List ℕ)
  pub are_data : AreData bytes pieces
  pub written : HasWritten (data_text pieces) before (sent_of result) after
  pub counted : IfCounts result (data_text pieces)

-- a text was written to a connection, whole or in part, and nothing else was done with it
pub record WritesText (text : List ℕ) (before : Connection) (result : Result (Unit {0}) Fault) (after : Connection) : Type 0 where
  pub output : Writes text before.output result after.output
  pub input : after.input ≡ before.input
  pub reader : after.reader ≡ before.reader
  pub link : after.link ≡ before.link

-- a line was written, where there is one
abbrev pub WritesLine : Option (List ℕ) → Connection → Result (Unit {0}) Fault → Connection → Type 0
WritesLine None before result after = (result ≡ Ok tt) × (after ≡ before)
WritesLine (Some line) before result after = WritesText line before result after

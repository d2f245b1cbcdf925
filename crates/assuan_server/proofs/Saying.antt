-- Writes of several texts, of which one may stop within its text.
use Rattle.std.proofs.Common.{◌≡◌, ℕ, List, [], ◌++◌, Result, Ok, Err, refl, ◌∙◌}
use Rattle.{agent_ports.{specs.{Writing.whole_of, declared.link.{Sent.Sent, WriteFault.WriteFault}}, proofs.Writing.{writes_nothing, writes_then, writes_first}}, assuan_line.proofs.Sending.sent_whole}
use Rattle.assuan_server.specs.{Connections.Connection, Written.{HasWritten, WritesText}}

-- nothing was written
pub said_nothing : (conn : Connection) → WritesText [] conn (Ok tt) conn
said_nothing conn = record { output = writes_nothing conn.output; input = refl; reader = refl; link = refl }

-- what became of a write, without the count
pub said : {text : List ℕ} {before after : Connection} {sent : Sent} {result : Result (Unit {0}) WriteFault} → result ≡ whole_of sent → HasWritten text before sent after
    → WritesText text before result after
said {sent} is has = rw is (record { output = sent_whole sent has.output has.faults; input = has.input; reader = has.reader; link = has.link })

-- a first text was written whole, and then a second one
pub said_then : (first second : List ℕ) (before mid after : Connection) (result : Result (Unit {0}) WriteFault)
    → WritesText first before (Ok tt) mid → WritesText second mid result after → WritesText (first ++ second) before result after
said_then first second before mid after result one two = record {
  output = writes_then first second one.output two.output;
  input = two.input ∙ one.input;
  reader = two.reader ∙ one.reader;
  link = two.link ∙ one.link;
}

-- the first of two stopped
pub said_first : (first second : List ℕ) (before after : Connection) (fault : WriteFault) → WritesText first before (Err fault) after → WritesText (first ++ second) before (Err fault) after
said_first first second before after fault part = record { output = writes_first first second part.output; input = part.input; reader = part.reader; link = part.link }

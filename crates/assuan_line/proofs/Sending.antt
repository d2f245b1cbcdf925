-- What a write of one line leaves.
use Rattle.std.proofs.{Common.{◌≡◌, ◌≤◌, ℕ, List, length, take, drop, sym, arith}, lemmas.List.{take-append-drop, length-take-le}}
use Rattle.agent_ports.specs.{Counts.Rose, Sides.{Side, with_bytes, sent_part, IfCut, IsCut}, Writing.{Writes, whole_of}, declared.link.Sent.{Sent, TheVariants.{All, Failed}}}
use Rattle.assuan_line.specs.Written.{HasSent}

pub has_sent : (bytes : List ℕ) (before after : Side) (sent : Sent) → length bytes ≤ 1001 → IfCut sent (λ count. count ≤ length bytes)
    → after.bytes ≡ with_bytes before.bytes (sent_part bytes sent) → (IsCut sent → Rose before.faults after.faults) → HasSent bytes before sent after
has_sent bytes before after All short cut written failed = written
has_sent bytes before after (Failed count) short cut written failed = record {
  stopped = record {
    sent = take count bytes;
    unsent = drop count bytes;
    split = sym (take-append-drop count bytes);
    written = written;
    rose = failed tt;
  };
  counted = omega (arith, length-take-le count bytes cut);
}

-- what became of a write, without the count
pub sent_whole : {text : List ℕ} {before after : Side} (sent : Sent) → HasSent text before sent after → before.faults ≤ after.faults → Writes text before (whole_of sent) after
sent_whole All went faults = record { went = went; faults = faults }
sent_whole (Failed count) cut faults = record { went = cut.stopped; faults = faults }

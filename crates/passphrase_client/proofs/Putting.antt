-- What a write of bytes leaves, whole or in part.
use Rattle.std.proofs.Common.{◌≡◌, ◌≤◌, ℕ, List, take, drop, sym, take-append-drop}
use Rattle.agent_ports.specs.{Counts.Rose, Sides.{Side, with_bytes, sent_part, IsCut}, Writing.{Writes, whole_of}, declared.link.Sent.{Sent, TheVariants.{All, Failed}}}

pub put_writes : (bytes : List ℕ) (before after : Side) (sent : Sent) → after.bytes ≡ with_bytes before.bytes (sent_part bytes sent)
    → (IsCut sent → Rose before.faults after.faults) → before.faults ≤ after.faults → Writes bytes before (whole_of sent) after
put_writes bytes before after All written failed faults = record { went = written; faults = faults }
put_writes bytes before after (Failed count) written failed faults = record {
  went = record {
    sent = take count bytes;
    unsent = drop count bytes;
    split = sym (take-append-drop count bytes);
    written = written;
    rose = failed tt;
  };
  faults = faults;
}

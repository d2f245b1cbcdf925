use Rattle.std.{proofs.Common.{◌≤◌, length, take}, specs.Io.KnownBytes.Appends}
use Rattle.std_link.proofs.link_state.write_some.Given as goal

-- what was sent is what the writer took
abbrev pub invariant-loop : goal.invariant-loop
invariant-loop g l =
    record {
      within : l.sent ≤ length l.bytes;
      written : Appends (g.W.Write.contents l.fn.writer) (g.W.Write.contents l.writer) (take l.sent l.bytes);
    }

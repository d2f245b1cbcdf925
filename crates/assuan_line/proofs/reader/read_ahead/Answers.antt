use Rattle.std.proofs.Common.{arith}
use Rattle.assuan_line.{specs.{Ahead.bytes_ahead, Stops.reader_at}, proofs.{Decided.few_undecided, Reading.one_read}}
use Rattle.assuan_line.proofs.reader.read_ahead.Goals as goal

pub read-requires-clause-room : goal.read-requires-clause-room
read-requires-clause-room g c = few_undecided (bytes_ahead c.args.ahead.now) c.requires.undecided

pub returns-in-Bytes-clause-read : goal.returns-in-Bytes-clause-read
returns-in-Bytes-clause-read g c =
    let r = c.in-Bytes.ensures.read in
    let count = c.in-Bytes.ensures.count in
    one_read (reader_at c.args.ahead.now c.args.left.now) (reader_at c.read.new.self _) _ _ r.0 c.requires.undecided (record {
      few = omega (arith, r.1, count.2);
      ahead = r.2;
      bytes = r.3;
      budget = omega (arith, r.1, count.1);
      faults = c.read.ensures.faults;
    })

use Rattle.std.specs.Option.{option_map}
use Rattle.assuan_line.{specs.{Ahead.bytes_ahead, Next.Reader, Stops.took_of}, proofs.Reading.{known, progress}}
use Rattle.assuan_line.proofs.reader.LineReader.next.Goals as goal

pub returns-clause-known : goal.returns-clause-known
returns-clause-known g c =
    let before : Reader = record { ahead = bytes_ahead c.self.inside.ahead; left = c.self.inside.left; ended = option_map took_of c.self.inside.stop } in
    let after : Reader = record { ahead = bytes_ahead c.take_line-took.new.ahead; left = c.take_line-took.new.left; ended = option_map took_of c.stop-self-inside.result } in
    λ fresh. rw (← c.self.view_is) (known before after _ _ c.take_line-took.result c.take_line-took.ensures.taken)

pub returns-clause-progress : goal.returns-clause-progress
returns-clause-progress g c =
    let before : Reader = record { ahead = bytes_ahead c.self.inside.ahead; left = c.self.inside.left; ended = option_map took_of c.self.inside.stop } in
    let after : Reader = record { ahead = bytes_ahead c.take_line-took.new.ahead; left = c.take_line-took.new.left; ended = option_map took_of c.stop-self-inside.result } in
    rw (← c.self.view_is) (progress before after _ _ c.take_line-took.result c.take_line-took.ensures.taken)

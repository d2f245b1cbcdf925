use Rattle.std.proofs.Common.{[]}
use Rattle.{assuan_text.specs.Forms.is_ignored, assuan_line.proofs.OnlyReading.only_reading}
use Rattle.assuan_server.proofs.request.requests_are_the_only_ones.Goals as goal

pub returns : goal.returns
returns c = λ bytes line other after later left rest first second.
    let same = only_reading (λ before line. is_ignored line) [] first.0 second.0 bytes line other after later left rest first.1 second.1 in (same.stopped, same.left_is)

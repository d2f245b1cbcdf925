use Rattle.std.proofs.Common.{length, Ok}
use Rattle.sexp_canonical.specs.Spelling.{spelling_of}
use Rattle.sexp_canonical.proofs.OneAnswer as answers
use Rattle.sexp_canonical.proofs.reading.read.Goals as goal

pub returns : goal.returns
returns c =
    let read = answers.found c.args.bytes.now c.min.result c.read_front.result c.min.ensures c.read_front.ensures.found in
    let failed = answers.faulted c.args.bytes.now c.min.result c.read_front.result c.min.ensures c.read_front.ensures.fault in
    let determined = answers.only c.args.bytes.now c.read_front.result read failed in
    record {
      found = read;
      fault = failed;
      only = determined;
      again = λ tree more readable parts. determined (Ok (tree, length (spelling_of tree))) (answers.spelled_is_read c.args.bytes.now tree more readable parts);
    }

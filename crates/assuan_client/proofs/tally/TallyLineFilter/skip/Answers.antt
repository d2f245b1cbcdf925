use Rattle.std.proofs.{Common.{◌≡◌, sym}, lemmas.Bool.OnTrue_at}
use Rattle.assuan_client.{specs.Forms.{answer_form, Data, Note}, proofs.Skipping.{note_behind, data_behind}}
use Rattle.assuan_client.proofs.tally.TallyLineFilter.skip.Goals as goal

pub returns-in-Note-clause-skipped : goal.returns-in-Note-clause-skipped
returns-in-Note-clause-skipped c = λ before behind skipped.
    let is : answer_form c.args.line.now ≡ Note = rw c.bytes.ensures.bytes at (sym c.in-Note.ensures.form) in
    note_behind c.args.self.now c.count.new.self c.args.line.now is (OnTrue_at skipped c.count.ensures.counted) before behind

pub returns-in-Data-clause-skipped : goal.returns-in-Data-clause-skipped
returns-in-Data-clause-skipped c = λ before behind skipped.
    let is : answer_form c.args.line.now ≡ Data = rw c.bytes.ensures.bytes at (sym c.in-Data.ensures.form) in
    data_behind c.args.self.now c.keep.new.self c.args.line.now is (rw c.bytes-in-Data.ensures.bytes at (OnTrue_at skipped c.keep.ensures.kept)) before behind

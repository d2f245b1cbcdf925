use Rattle.std.proofs.Common.{rules, ◌≡◌, sym}
use Rattle.assuan_client.{specs.{Answers.{err, foreign}, Forms.{answer_form, Data, Note, Ok, Err, Inquiry, Foreign}}, proofs.Skipping.{says_too_much, says_many, says_success, says_inquiry}}
use Rattle.assuan_client.proofs.tally.Tally.answer_by.Goals as goal

pub returns-in-Data-clause-says : goal.returns-in-Data-clause-says
returns-in-Data-clause-says c = λ stop.
    let is : answer_form c.args.line.now ≡ Data = rw c.bytes.ensures.bytes at (sym c.in-Data.ensures.form) in
    says_too_much c.args.self.now c.args.line.now is stop

pub returns-in-Note-clause-says : goal.returns-in-Note-clause-says
returns-in-Note-clause-says c = λ stop.
    let is : answer_form c.args.line.now ≡ Note = rw c.bytes.ensures.bytes at (sym c.in-Note.ensures.form) in
    says_many c.args.self.now c.args.line.now is stop

pub returns-in-Ok-clause-says : goal.returns-in-Ok-clause-says
returns-in-Ok-clause-says c = λ stop.
    let is : answer_form c.args.line.now ≡ Ok = rw c.bytes.ensures.bytes at (sym c.in-Ok.ensures.form) in
    rw c.success.ensures (says_success c.args.self.now c.args.line.now is)

pub returns-in-Err-clause-says : goal.returns-in-Err-clause-says
returns-in-Err-clause-says c = λ stop.
    let is : answer_form c.args.line.now ≡ Err c.in-Err.number = rw c.bytes.ensures.bytes at (sym c.in-Err.ensures.form) in
    err is

pub returns-in-Inquiry-clause-says : goal.returns-in-Inquiry-clause-says
returns-in-Inquiry-clause-says c = λ stop.
    let is : answer_form c.args.line.now ≡ Inquiry c.in-Inquiry.word.now c.in-Inquiry.text.now = rw c.bytes.ensures.bytes at (sym c.in-Inquiry.ensures.form) in
    rw c.inquiry.ensures.answer (says_inquiry c.args.self.now c.args.line.now c.in-Inquiry.word.now c.in-Inquiry.text.now is)

pub returns-in-Foreign-clause-says : goal.returns-in-Foreign-clause-says
returns-in-Foreign-clause-says c = λ stop.
    let is : answer_form c.args.line.now ≡ Foreign = rw c.bytes.ensures.bytes at (sym c.in-Foreign.ensures.form) in
    let same : c.unwrap.result ≡ c.args.line.now = search rules in
    rw same (foreign is)

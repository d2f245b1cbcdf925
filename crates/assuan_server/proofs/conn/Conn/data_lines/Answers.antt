use Rattle.std.proofs.{Common.{◌≡◌, ◌∙◌, length, take, ap, sym, List, ℕ}, lemmas.{Bool.eqb-true, List.nil_from_length}}
use Rattle.assuan_escape.specs.DataLines.{data_line}
use Rattle.assuan_server.proofs.Writing.{written_alone, writing_more, written_once_none_is_left, written_cut}
use Rattle.assuan_server.proofs.conn.Conn.data_lines.Goals as goal

pub returns-in-Failed : goal.returns-in-Failed
returns-in-Failed g c =
    let line = c.full_line-line.ensures in
    rw c.saturating_add.ensures
    (written_cut c.args.bytes.now c.args.self.now c.loop-rest.self c.loop-rest.rest.now c.loop-rest.sent c.loop-rest.invariant c.full_line-line.result.1 line.first c.say-said.new.self c.in-Failed.part line.others
    (written_alone (data_line (take c.full_line-line.result.1 c.loop-rest.rest.now)) (rw (c.bytes.ensures.value, line.text) at c.in-Failed.ensures)))

pub loop-rest-preserved : goal.loop-rest-preserved
loop-rest-preserved g c =
    let line = c.full_line-line.ensures in
    let len : c.len-whole.result ≡ length (data_line (take c.full_line-line.result.1 c.loop-rest.rest.now)) = c.len-whole.ensures.value ∙ ap (λ (x : List ℕ). length x) line.text in
    rw (c.split_at.ensures.back, c.saturating_add-sent.ensures, len)
    (writing_more c.args.bytes.now c.args.self.now c.loop-rest.self c.loop-rest.rest.now c.loop-rest.sent c.loop-rest.invariant c.full_line-line.result.1 line.first c.say-said.new.self
    (written_alone (data_line (take c.full_line-line.result.1 c.loop-rest.rest.now)) (rw (c.bytes.ensures.value, line.text) at c.in-All.ensures)))

pub returns : goal.returns
returns g c =
    let none : length c.loop-rest.rest.now ≡ 0 = eqb-true (length c.loop-rest.rest.now) 0 (sym c.is_empty.ensures ∙ c.loop-rest-test.false) in
    written_once_none_is_left c.args.bytes.now c.args.self.now c.loop-rest.self c.loop-rest.rest.now c.loop-rest.sent c.loop-rest.invariant (nil_from_length c.loop-rest.rest.now none)

use Rattle.std.proofs.{Common.{◌≡◌, ◌∙◌, length, sym, refl}, lemmas.{Bool.eqb-true, List.nil_from_length}}
use Rattle.assuan_client.proofs.Sending.{put_failed, putting_none, putting_more, whole_once_none_is_left, put_cut}
use Rattle.assuan_client.proofs.data.send_data.Goals as goal

pub loop-rest-init : goal.loop-rest-init
loop-rest-init g c = record { putting = putting_none c.args.bytes.now (g.K.Sink.output c.args.sink.now); beside = refl }

pub returns-in_err-sent-clause-put : goal.returns-in_err-sent-clause-put
returns-in_err-sent-clause-put g c =
    let line = c.full_line-line.ensures in
    let cut = put_cut c.args.bytes.now (g.K.Sink.output c.args.sink.now) (g.K.Sink.output c.loop-rest.sink) c.loop-rest.rest.now c.loop-rest.invariant.putting
    c.full_line-line.result.1 line.first (g.K.Sink.output c.send_line-sent.new.sink) line.others
    (rw (c.bytes.ensures.value, line.text) at c.in_err-sent.ensures.put) in
    (cut.0, cut.1, put_failed c.from_residual.result c.from_residual.ensures.0 cut.2)

pub loop-rest-preserved : goal.loop-rest-preserved
loop-rest-preserved g c =
    let line = c.full_line-line.ensures in
    record {
      putting = rw c.split_at.ensures.back
          (putting_more c.args.bytes.now (g.K.Sink.output c.args.sink.now) (g.K.Sink.output c.loop-rest.sink) c.loop-rest.rest.now c.loop-rest.invariant.putting
          c.full_line-line.result.1 line.first (g.K.Sink.output c.send_line-sent.new.sink)
          (rw (c.bytes.ensures.value, line.text) at c.in_ok-sent.ensures.put));
      beside = c.in_ok-sent.ensures.beside ∙ c.loop-rest.invariant.beside;
    }

pub returns-clause-put : goal.returns-clause-put
returns-clause-put g c =
    let none : length c.loop-rest.rest.now ≡ 0 = eqb-true (length c.loop-rest.rest.now) 0 (sym c.is_empty.ensures ∙ c.loop-rest-test.false) in
    whole_once_none_is_left c.args.bytes.now (g.K.Sink.output c.args.sink.now) (g.K.Sink.output c.loop-rest.sink) c.loop-rest.rest.now c.loop-rest.invariant.putting (nil_from_length c.loop-rest.rest.now none)

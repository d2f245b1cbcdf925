use Rattle.std.proofs.{Common.{◌≡◌, length, Ok, subst, arith}, Math.Seq.take-length, lemmas.Result.err_from_is_err_and}
use Rattle.assuan_server.{proofs.Saying.said_nothing, specs.Written.WritesText}
use Rattle.agent_commands.proofs.Helping.{lines, one_more, stopped}
use Rattle.agent_commands.proofs.response.write_names.Goals as goal

pub loop-name-init : goal.loop-name-init
loop-name-init g c = said_nothing c.args.conn.now

pub returns-in_err-write_name : goal.returns-in_err-write_name
returns-in_err-write_name g c =
    let p = err_from_is_err_and c.from_residual.result c.from_residual.ensures.1 in
    rw p.1 (stopped c.args.trusts c.args.rows.now c.loop-name.name-index _ (omega arith) c.args.conn.now c.loop-name.conn c.write_name.new.conn c.loop-name.invariant _
    (rw (c.is_told.ensures, c.in_err-write_name.was) at c.write_name.ensures))

pub loop-name-preserved : goal.loop-name-preserved
loop-name-preserved g c =
    one_more c.args.trusts c.args.rows.now c.loop-name.name-index _ (omega arith) c.args.conn.now c.loop-name.conn c.write_name.new.conn c.loop-name.invariant
    (rw (c.is_told.ensures, c.in_ok-write_name.was) at c.write_name.ensures)

pub returns : goal.returns
returns g c =
    let all : c.loop-name.name-index ≡ length c.args.rows.now = omega (arith, c.loop-name.auto.name-index-end, c.loop-name-test.false) in
    subst (λ rows. WritesText (lines c.args.trusts rows) c.args.conn.now (Ok tt) c.loop-name.conn) (take-length c.args.rows.now) (rw all at c.loop-name.invariant)

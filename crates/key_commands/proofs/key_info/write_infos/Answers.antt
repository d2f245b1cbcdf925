use Rattle.std.proofs.{Common.refl, lemmas.Result.err_from_is_err_and}
use Rattle.{agent_ask.{specs.Session.Actions.returns, proofs.{ActionsDone.{action_then, action_stops, action_turned, action_still, beside_client, open_after}, ActionsAtClient.{wrote, wrote_part}}}, assuan_server.proofs.Clients.said_so}
use Rattle.key_commands.proofs.{Doing.action_called, ListedKeys.{tells_on, tells_in_vain, tells_none}}
use Rattle.key_commands.proofs.key_info.write_infos.Goals as goal

pub returns-in_err-key-clause-writes : goal.returns-in_err-key-clause-writes
returns-in_err-key-clause-writes g c = λ side.
    let p = err_from_is_err_and c.from_residual.result c.from_residual.ensures.1 in
    let vain = action_stops (action_called c.loop-grip.invariant.going c.in_err-key.ensures) in
    rw (p.1, p.2) (c.loop-grip.invariant.completes side _ _ _ (tells_in_vain c.args.grips.now c.loop-grip.grip-index _ c.loop-grip-test.true vain))

pub returns-in_err-cached-clause-writes : goal.returns-in_err-cached-clause-writes
returns-in_err-cached-clause-writes g c = λ side.
    let p = err_from_is_err_and c.from_residual-in_err-cached.result c.from_residual-in_err-cached.ensures.1 in
    let going = c.loop-grip.invariant.going in
    let vain = action_then (action_called going (rw c.in-Some.is at c.in_ok-key.ensures)) (action_stops (action_stops (action_turned going c.in_err-cached.ensures.turn))) in
    rw (p.1, p.2) (c.loop-grip.invariant.completes side _ _ _ (tells_in_vain c.args.grips.now c.loop-grip.grip-index _ c.loop-grip-test.true vain))

pub returns-in_err-write-clause-writes : goal.returns-in_err-write-clause-writes
returns-in_err-write-clause-writes g c = λ side.
    let p = err_from_is_err_and c.from_residual-in_err-write.result c.from_residual-in_err-write.ensures.1 in
    let going = c.loop-grip.invariant.going in
    let cached = action_then (action_turned going c.in_ok-cached.ensures.turn) (action_still going refl returns) in
    let line = rw (c.info_line.ensures, c.is_clear.ensures.clear) at c.in_err-write.ensures in
    let vain = action_then (action_called going (rw c.in-Some.is at c.in_ok-key.ensures)) (action_then cached (beside_client (wrote_part c.in_err-write.field-0.0 (said_so line)))) in
    rw (p.1, p.2) (c.loop-grip.invariant.completes side _ _ _ (tells_in_vain c.args.grips.now c.loop-grip.grip-index _ c.loop-grip-test.true vain))

pub loop-grip-preserved : goal.loop-grip-preserved
loop-grip-preserved g c =
    let going = c.loop-grip.invariant.going in
    let line = rw (c.info_line.ensures, c.is_clear.ensures.clear) at c.in_ok-write.ensures in
    record {
      going = open_after (wrote going (said_so line));
      out = c.in_ok-cached.ensures.out;
      completes = λ side result after now later.
          let cached = action_then (action_turned going c.in_ok-cached.ensures.turn) (action_still going refl returns) in
          let told = action_then (action_called going (rw c.in-Some.is at c.in_ok-key.ensures)) (action_then cached (beside_client (wrote going (said_so line)))) in
          c.loop-grip.invariant.completes side result after now (tells_on c.args.grips.now c.loop-grip.grip-index _ c.loop-grip-test.true told later);
    }

pub loop-grip-preserved-in_default : goal.loop-grip-preserved-in_default
loop-grip-preserved-in_default g c =
    let going = c.loop-grip.invariant.going in
    record {
      going = going;
      out = c.loop-grip.invariant.out;
      completes = λ side result after now later.
          let told = action_then (action_called going (rw c.in_default.is at c.in_ok-key.ensures)) (action_still going refl returns) in
          c.loop-grip.invariant.completes side result after now (tells_on c.args.grips.now c.loop-grip.grip-index _ c.loop-grip-test.true told later);
    }

pub returns-clause-writes : goal.returns-clause-writes
returns-clause-writes g c = λ side.
    c.loop-grip.invariant.completes side _ _ _ (tells_none c.args.grips.now c.loop-grip.grip-index c.loop-grip-test.false (action_still c.loop-grip.invariant.going refl returns))

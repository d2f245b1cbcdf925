use Rattle.std.proofs.{Common.refl, lemmas.Result.err_from_is_err_and}
use Rattle.agent_ask.{specs.Session.{Actions.{returns as is_returned, refuses}, ActionReplies.stops_at}, proofs.ActionsDone.{action_then, action_stops, action_still}}
use Rattle.key_commands.{proofs.{Doing.action_called, Partial.{carries_beside, carries_beside_desk}, Requesting.replies_ok}, specs.Exchanges.HaveKeyReplies}
use Rattle.key_commands.proofs.run.carry_out.Goals as goal

pub returns-in_err-has_one-in-HaveKey-clause-carries : goal.returns-in_err-has_one-in-HaveKey-clause-carries
unfolding HaveKeyReplies
returns-in_err-has_one-in-HaveKey-clause-carries g c =
    let p = err_from_is_err_and c.from_residual.result c.from_residual.ensures.1 in
    rw (c.in-HaveKey.is, c.requires.free, p.1, p.2)
    (stops_at (action_stops (action_called c.requires.open c.in_err-has_one-in-HaveKey.ensures)))

pub returns-in_ok-has_one-in-HaveKey-clause-carries : goal.returns-in_ok-has_one-in-HaveKey-clause-carries
unfolding HaveKeyReplies
returns-in_ok-has_one-in-HaveKey-clause-carries g c =
    rw (c.in-HaveKey.is, c.requires.free)
    (replies_ok (action_then (action_called c.requires.open c.in_ok-has_one-in-HaveKey.ensures) (action_still c.requires.open refl is_returned)))

pub returns-in-ListGrips-clause-carries : goal.returns-in-ListGrips-clause-carries
returns-in-ListGrips-clause-carries g c =
    rw (c.in-ListGrips.is, c.requires.free)
    (carries_beside_desk (c.list_all.ensures c.args.rules.now c.args.options.now c.args.wraps.now c.args.conn.now (g.R.Dice.draws c.args.dice.now) c.requires.open))

pub returns-in-KeyInfo-clause-carries : goal.returns-in-KeyInfo-clause-carries
returns-in-KeyInfo-clause-carries g c =
    rw (c.in-KeyInfo.is, c.requires.free)
    (carries_beside (c.key_info.ensures.tells c.args.rules.now c.args.options.now c.args.wraps.now c.args.conn.now (g.R.Dice.draws c.args.dice.now) c.requires.open))

pub returns-in-ListKeys-clause-carries : goal.returns-in-ListKeys-clause-carries
returns-in-ListKeys-clause-carries g c =
    rw (c.in-ListKeys.is, c.requires.free)
    (carries_beside (c.list_keys.ensures.tells c.args.rules.now c.args.options.now c.args.wraps.now (g.R.Dice.draws c.args.dice.now)))

pub returns-in-KeyWrap-clause-carries : goal.returns-in-KeyWrap-clause-carries
returns-in-KeyWrap-clause-carries g c =
    rw (c.in-KeyWrap.is, c.requires.free)
    (carries_beside_desk (c.wrapping_key.ensures c.args.rules.now c.args.options.now c.args.conn.now (g.K.Keys.keys c.args.keys.now) c.requires.open))

pub returns-in-Bad-clause-carries : goal.returns-in-Bad-clause-carries
returns-in-Bad-clause-carries g c =
    rw (c.in-Bad.is, c.requires.free)
    (stops_at (action_still c.requires.open refl refuses))

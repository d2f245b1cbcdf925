use Rattle.std.proofs.{Common.Err, lemmas.Result.err_from_is_err_and}
use Rattle.pinentry_client.{specs.Talking.{Sets, done, next}, proofs.Talks.{settings_from, none_behind}}
use Rattle.pinentry_client.proofs.talk.tell_settings.Goals as goal

pub returns-in_err-pid-clause-sets : goal.returns-in_err-pid-clause-sets
returns-in_err-pid-clause-sets g c =
    let p = err_from_is_err_and c.from_residual.result c.from_residual.ensures.1 in
    rw (p.1, p.2) (c.loop-setting.invariant.1 (Err c.in_err-pid.field-0.0) c.tell_setting.new.peer
    (rw (settings_from c.loop-setting.setting-index c.loop-setting-test.true) (Sets.stopped c.in_err-pid.ensures.tells)))

pub loop-setting-preserved : goal.loop-setting-preserved
loop-setting-preserved g c = (
  c.in_ok-pid.ensures.ready,
  λ end after rest. c.loop-setting.invariant.1 end after (rw (settings_from c.loop-setting.setting-index c.loop-setting-test.true) (next c.in_ok-pid.ensures.tells rest)),
)

pub returns-clause-sets : goal.returns-clause-sets
returns-clause-sets g c = c.loop-setting.invariant.1 _ _ (rw (none_behind c.loop-setting.setting-index c.loop-setting-test.false) done)

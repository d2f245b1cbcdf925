use Rattle.std.proofs.Common.{refl}
use Rattle.passphrase_talk.proofs.Leading.{tells_on, tells_last, settings_from, none_behind}
use Rattle.passphrase_talk.proofs.dialogue.request_with_options.Goals as goal

pub returns-in-Err-clause-leads : goal.returns-in-Err-clause-leads
returns-in-Err-clause-leads g c =
    c.loop-setting.invariant.1 _ _ _
    (rw (settings_from (g.C.Connector.terminal c.args.connector.now) c.loop-setting.setting-index c.loop-setting-test.true)
    (tells_last _ (rw c.terminal.ensures at c.in-Err.ensures.tells) refl))

pub loop-setting-preserved : goal.loop-setting-preserved
loop-setting-preserved g c = (
  c.in_default.ensures.ready,
  λ what after launched rest. c.loop-setting.invariant.1 what after launched
      (rw (settings_from (g.C.Connector.terminal c.args.connector.now) c.loop-setting.setting-index c.loop-setting-test.true)
      (tells_on (rw c.terminal.ensures at c.in_default.ensures.tells) refl rest)),
)

pub returns-clause-leads : goal.returns-clause-leads
returns-clause-leads g c =
    c.loop-setting.invariant.1 _ _ _
    (rw (none_behind (g.C.Connector.terminal c.args.connector.now) c.loop-setting.setting-index c.loop-setting-test.false) c.request.ensures.leads)

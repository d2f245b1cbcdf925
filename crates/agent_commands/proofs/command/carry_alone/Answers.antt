use Rattle.std.proofs.{Common.refl, lemmas.Result.err_from_is_err_and}
use Rattle.agent_ask.specs.Session.{Actions.returns, ActionStates.NoEnd}
use Rattle.agent_commands.{specs.declared.response.Response.TheVariants.{Ok, Bye, Help, Killed}, proofs.Carrying.{only_replies, option_carried, info_carried, change_done, change_refused}}
use Rattle.agent_commands.proofs.command.carry_alone.Goals as goal

pub returns-in-Nop-clause-carries : goal.returns-in-Nop-clause-carries
returns-in-Nop-clause-carries g c = λ conn going. rw c.in-Nop.is (only_replies g.D.Desk.turned NoEnd conn going tt c.args.desk.now Ok (λ text is. rw is returns))

pub returns-in-Reset-clause-carries : goal.returns-in-Reset-clause-carries
returns-in-Reset-clause-carries g c = λ conn going.
    rw (c.in-Reset.is, c.reset.ensures) (only_replies g.D.Desk.turned NoEnd conn going tt c.args.desk.now Ok (λ text is. rw is returns))

pub returns-in-Bye-clause-carries : goal.returns-in-Bye-clause-carries
returns-in-Bye-clause-carries g c = λ conn going. rw c.in-Bye.is (only_replies g.D.Desk.turned NoEnd conn going tt c.args.desk.now Bye (λ text is. rw is returns))

pub returns-in-Help-clause-carries : goal.returns-in-Help-clause-carries
returns-in-Help-clause-carries g c = λ conn going. rw c.in-Help.is (only_replies g.D.Desk.turned NoEnd conn going tt c.args.desk.now Help (λ text is. rw is returns))

pub returns-in-SetOption-clause-carries : goal.returns-in-SetOption-clause-carries
returns-in-SetOption-clause-carries g c = λ conn going.
    rw (c.in-SetOption.is, c.set_option.ensures, ← c.deref.ensures.0, ← c.set.ensures.answer, ← c.set.ensures.after)
    (option_carried g.D.Desk.turned NoEnd conn going tt c.args.desk.now c.set.result c.set.ensures.refused)

pub returns-in-SetKeyDesc-clause-carries : goal.returns-in-SetKeyDesc-clause-carries
returns-in-SetKeyDesc-clause-carries g c = λ conn going.
    rw (c.in-SetKeyDesc.is, c.describe.ensures, c.text_of.ensures, c.deref-in-SetKeyDesc.ensures.0) (only_replies g.D.Desk.turned NoEnd conn going tt c.args.desk.now Ok (λ text is. rw is returns))

pub returns-in-GetInfo-clause-carries : goal.returns-in-GetInfo-clause-carries
returns-in-GetInfo-clause-carries g c = λ conn going.
    rw (c.in-GetInfo.is, c.info_response.ensures) (info_carried g.D.Desk.turned NoEnd conn going tt c.args.rules.now c.args.desk.now _)

pub returns-in_err-clear-in-ClearPassphrase-clause-carries : goal.returns-in_err-clear-in-ClearPassphrase-clause-carries
returns-in_err-clear-in-ClearPassphrase-clause-carries g c = λ conn going.
    let p = err_from_is_err_and c.from_residual.result c.from_residual.ensures.1 in
    rw (c.in-ClearPassphrase.is, p.1, p.2) (change_refused g.D.Desk.turned NoEnd conn going tt c.in_err-clear-in-ClearPassphrase.ensures.turn)

pub returns-in_ok-clear-in-ClearPassphrase-clause-carries : goal.returns-in_ok-clear-in-ClearPassphrase-clause-carries
returns-in_ok-clear-in-ClearPassphrase-clause-carries g c = λ conn going.
    rw c.in-ClearPassphrase.is (change_done g.D.Desk.turned NoEnd conn going tt Ok (λ text is. rw is refl) c.in_ok-clear-in-ClearPassphrase.ensures.turn)

pub returns-in_err-change-in-ReloadAgent-clause-carries : goal.returns-in_err-change-in-ReloadAgent-clause-carries
returns-in_err-change-in-ReloadAgent-clause-carries g c = λ conn going.
    let p = err_from_is_err_and c.from_residual-in_err-change-in-ReloadAgent.result c.from_residual-in_err-change-in-ReloadAgent.ensures.1 in
    rw (c.in-ReloadAgent.is, p.1, p.2) (change_refused g.D.Desk.turned NoEnd conn going tt c.in_err-change-in-ReloadAgent.ensures.turn)

pub returns-in_ok-change-in-ReloadAgent-clause-carries : goal.returns-in_ok-change-in-ReloadAgent-clause-carries
returns-in_ok-change-in-ReloadAgent-clause-carries g c = λ conn going.
    rw c.in-ReloadAgent.is (change_done g.D.Desk.turned NoEnd conn going tt Ok (λ text is. rw is refl) c.in_ok-change-in-ReloadAgent.ensures.turn)

pub returns-in_err-change-in-KillAgent-clause-carries : goal.returns-in_err-change-in-KillAgent-clause-carries
returns-in_err-change-in-KillAgent-clause-carries g c = λ conn going.
    let p = err_from_is_err_and c.from_residual-in_err-change-in-KillAgent.result c.from_residual-in_err-change-in-KillAgent.ensures.1 in
    rw (c.in-KillAgent.is, p.1, p.2) (change_refused g.D.Desk.turned NoEnd conn going tt c.in_err-change-in-KillAgent.ensures.turn)

pub returns-in_ok-change-in-KillAgent-clause-carries : goal.returns-in_ok-change-in-KillAgent-clause-carries
returns-in_ok-change-in-KillAgent-clause-carries g c = λ conn going.
    rw c.in-KillAgent.is (change_done g.D.Desk.turned NoEnd conn going tt Killed (λ text is. rw is refl) c.in_ok-change-in-KillAgent.ensures.turn)

use Rattle.std.proofs.{Common.{Err, sym}, lemmas.Result.err_from_is_err_and}
use Rattle.pinentry_client.specs.Talking.{StartTalk, greets}
use Rattle.pinentry_client.proofs.talk.start_talk.Goals as goal

pub returns-in_err-greeted-clause-talk : goal.returns-in_err-greeted-clause-talk
returns-in_err-greeted-clause-talk g c =
    let p = err_from_is_err_and c.from_residual.result c.from_residual.ensures.1 in
    rw (p.1, p.2) (StartTalk.stopped c.hello.result c.hello.ensures (sym {a = Err c.in_err-greeted.field-0.0} c.in_err-greeted.ensures))

pub returns-clause-talk : goal.returns-clause-talk
returns-clause-talk g c = greets c.hello.result c.hello.ensures (sym c.in_ok-greeted.ensures) c.tell_settings.ensures.sets

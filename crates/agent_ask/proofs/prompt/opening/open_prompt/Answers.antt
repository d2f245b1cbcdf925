use Rattle.std.proofs.{Common.{rules, [], ◌∷◌, None}, lemmas.Result.err_from_is_err_and}
use Rattle.agent_ports.specs.Leads.{none, one}
use Rattle.agent_ask.specs.{Callers.heard_of, Doing.{called, calls, notified}, Events.{Start, Called, Notified}, Prompts.{Opens, quiet, told}, declared.{client.caller.Heard.TheVariants.Fine, prompt.prompter.Opened.TheVariants.Pid}}
use Rattle.agent_ask.proofs.Making.{unopened, called_once, made_beside}
use Rattle.agent_ask.proofs.prompt.opening.open_prompt.Goals as goal

pub returns-in_default : goal.returns-in_default
returns-in_default g c = record {
  opened =
      made_beside c.args.caller.now
      (called_once (Start c.args.spec.now c.start.result) (λ events. Opens c.args.spec.now c.args.notify events None) c.start.ensures
      (unopened c.args.spec.now c.args.notify c.start.result c.in_default.not-Pid));
  ready = search rules;
  left = c.requires.listens;
}

pub returns-in_err-note-clause-opened : goal.returns-in_err-note-clause-opened
returns-in_err-note-clause-opened g c =
    let p = err_from_is_err_and c.from_residual.result c.from_residual.ensures.1 in
    rw (p.1, p.2)
    (record {
      events = Called (Start c.args.spec.now (Pid c.in-Pid.pid)) ∷ Notified c.in-Pid.pid (heard_of c.in_err-note.field-0.0) ∷ [];
      are = told c.if-notify.true;
      lead = one (calls (called c.in-Pid.ensures)) (one (notified c.in_err-note.ensures) none);
    })

pub returns-in_ok-note-clause-opened : goal.returns-in_ok-note-clause-opened
returns-in_ok-note-clause-opened g c = record {
  events = Called (Start c.args.spec.now (Pid c.in-Pid.pid)) ∷ Notified c.in-Pid.pid Fine ∷ [];
  are = told c.if-notify.true;
  lead = one (calls (called c.in-Pid.ensures)) (one (notified c.in_ok-note.ensures) none);
}

pub returns-else-notify-clause-opened : goal.returns-else-notify-clause-opened
returns-else-notify-clause-opened g c = record {
  events = Called (Start c.args.spec.now (Pid c.in-Pid.pid)) ∷ [];
  are = quiet c.if-notify.false;
  lead = one (calls (called c.in-Pid.ensures)) none;
}

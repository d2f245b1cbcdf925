use Rattle.std.proofs.{Common.{refl, sym, ◌∙◌}, lemmas.Result.err_from_is_err_and}
use Rattle.agent_ask.{specs.Session.Actions.refuses, proofs.ActionsDone.{action_then, action_stops, action_still, action_turns}}
use Rattle.key_commands.proofs.{Seating.seated, Partial.{beside_desk, beside_prompter}}
use Rattle.key_commands.proofs.old.open_uncached.Goals as goal

pub prompt_old-requires-clause-seated : goal.prompt_old-requires-clause-seated
prompt_old-requires-clause-seated g c = seated c.args.asking.now.grip.now c.in_ok-take_seat-in-Ask.ensures.turn

pub returns-in_err-take_seat-in-Ask-clause-does : goal.returns-in_err-take_seat-in-Ask-clause-does
returns-in_err-take_seat-in-Ask-clause-does g c =
    let p = err_from_is_err_and c.from_residual.result c.from_residual.ensures.1 in
    rw (sym c.mode.ensures ∙ c.in-Ask.is, p.1, p.2) (action_stops (action_turns c.requires.open c.in_err-take_seat-in-Ask.ensures.turn))

pub returns-in_ok-take_seat-in-Ask-clause-does : goal.returns-in_ok-take_seat-in-Ask-clause-does
returns-in_ok-take_seat-in-Ask-clause-does g c =
    rw (sym c.mode.ensures ∙ c.in-Ask.is) (action_then (action_turns c.requires.open c.in_ok-take_seat-in-Ask.ensures.turn) (beside_prompter c.prompt_old.ensures.prompts))

pub returns-in-Cancel-clause-does : goal.returns-in-Cancel-clause-does
returns-in-Cancel-clause-does g c = rw (sym c.mode.ensures ∙ c.in-Cancel.is) (action_still c.requires.open refl refuses)

pub returns-in-Error-clause-does : goal.returns-in-Error-clause-does
returns-in-Error-clause-does g c = rw (sym c.mode.ensures ∙ c.in-Error.is) (action_still c.requires.open refl refuses)

pub returns-in-Loopback-clause-does : goal.returns-in-Loopback-clause-does
returns-in-Loopback-clause-does g c = rw (sym c.mode.ensures ∙ c.in-Loopback.is) (beside_desk c.open_by_client.ensures.does)

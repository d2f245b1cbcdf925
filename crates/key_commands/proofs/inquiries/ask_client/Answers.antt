use Rattle.std.proofs.lemmas.Result.{err_from_is_err_and}
use Rattle.{assuan_server.proofs.Clients.wished, agent_ask.proofs.{ActionsDone.{action_then, action_stops, open_after}, ActionsAtClient.{gave, gave_none}}}
use Rattle.key_commands.proofs.inquiries.ask_client.Goals as goal

pub returns-in_err-tell_limit : goal.returns-in_err-tell_limit
returns-in_err-tell_limit g c =
    let p = err_from_is_err_and c.from_residual.result c.from_residual.ensures.1 in
    rw (p.1, p.2) (λ held. action_stops (c.in_err-tell_limit.ensures held))

pub ask_secret-requires-clause-going : goal.ask_secret-requires-clause-going
ask_secret-requires-clause-going g c = open_after c.in_ok-tell_limit.ensures

pub returns-in_err-ask_secret : goal.returns-in_err-ask_secret
returns-in_err-ask_secret g c =
    let p = err_from_is_err_and c.from_residual-in_err-ask_secret.result c.from_residual-in_err-ask_secret.ensures.1 in
    rw (p.1, p.2) (λ held. action_then (c.in_ok-tell_limit.ensures held) (gave_none (wished (open_after c.in_ok-tell_limit.ensures) _ c.in_err-ask_secret.ensures) held))

pub returns : goal.returns
returns g c = λ held. action_then (c.in_ok-tell_limit.ensures held) (gave (wished (open_after c.in_ok-tell_limit.ensures) _ c.in_ok-ask_secret.ensures) held)

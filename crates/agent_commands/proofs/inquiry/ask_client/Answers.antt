use Rattle.std.proofs.lemmas.Result.{err_from_is_err_and}
use Rattle.{agent_ask.proofs.{ActionsAtClient.{wrote, wrote_part, gave, gave_none}, ActionsDone.{action_then, action_stops, open_after}}, assuan_server.proofs.Clients.{said_so, wished}}
use Rattle.agent_commands.proofs.inquiry.ask_client.Goals as goal

pub returns-in_err-tell_limit : goal.returns-in_err-tell_limit
returns-in_err-tell_limit g c =
    let p = err_from_is_err_and c.from_residual.result c.from_residual.ensures.1 in
    rw (p.1, p.2) (λ held. action_stops (wrote_part c.in_err-tell_limit.field-0.0 (said_so c.in_err-tell_limit.ensures) held))

pub ask_secret-requires-clause-going : goal.ask_secret-requires-clause-going
ask_secret-requires-clause-going g c = open_after (wrote c.requires (said_so c.in_ok-tell_limit.ensures))

pub returns-in_err-ask_secret : goal.returns-in_err-ask_secret
returns-in_err-ask_secret g c =
    let p = err_from_is_err_and c.from_residual-in_err-ask_secret.result c.from_residual-in_err-ask_secret.ensures.1 in
    let told = wrote c.requires (said_so c.in_ok-tell_limit.ensures) in
    rw (p.1, p.2) (λ held. action_then (told held) (gave_none (wished (open_after told) _ c.in_err-ask_secret.ensures) held))

pub returns : goal.returns
returns g c =
    let told = wrote c.requires (said_so c.in_ok-tell_limit.ensures) in
    λ held. action_then (told held) (gave (wished (open_after told) _ c.in_ok-ask_secret.ensures) held)

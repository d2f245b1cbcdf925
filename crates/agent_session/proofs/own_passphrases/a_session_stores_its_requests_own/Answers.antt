use Rattle.agent_origin.specs.{DoorSessions.DoorExchange, SessionExchanges.SessionExchange}
use Rattle.agent_session.proofs.{AtOnce.all_fit, OwnSessions.{exchange_own, door_own, session_own}}
use Rattle.agent_session.proofs.own_passphrases.a_session_stores_its_requests_own.Goals as goal

pub returns-clause-session : goal.returns-clause-session
returns-clause-session g c rules before after end served =
    session_own rules (SessionExchange rules) (λ prior line events now went exchange fits. exchange_own line exchange fits) served.session
    (all_fit g.D.Desk.turned g.P.Prompter.prompted g.D.Desk.at g.met.D.Desk.promise served.leads)

pub returns-clause-door : goal.returns-clause-door
returns-clause-door g c door rules before after end served =
    session_own rules (DoorExchange door rules) (λ prior line events now went exchange fits. door_own line exchange fits) served.session
    (all_fit g.D.Desk.turned g.P.Prompter.prompted g.D.Desk.at g.met.D.Desk.promise served.leads)

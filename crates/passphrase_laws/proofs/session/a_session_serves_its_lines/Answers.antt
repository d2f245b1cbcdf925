use Rattle.agent_origin.specs.{DoorSessions.DoorExchange, SessionExchanges.SessionExchange, declared.door.Door.TheVariants.Home}
use Rattle.passphrase_laws.proofs.{Passing.{plain_home, plain_session}, Serving.{serves, written}}
use Rattle.passphrase_laws.proofs.session.a_session_serves_its_lines.Goals as goal

pub returns-clause-written : goal.returns-clause-written
returns-clause-written g c rules before after end served = written g.D.Desk.turned g.P.Prompter.prompted _ served.leads

pub returns-clause-lines : goal.returns-clause-lines
returns-clause-lines g c rules before after end options later line command served passed is lines whole =
    serves rules (SessionExchange rules) line later command is (plain_session rules line) options passed served.session lines whole

pub returns-clause-written_at_door : goal.returns-clause-written_at_door
returns-clause-written_at_door g c door rules before after end served = written g.D.Desk.turned g.P.Prompter.prompted _ served.leads

pub returns-clause-lines_at_home : goal.returns-clause-lines_at_home
returns-clause-lines_at_home g c rules before after end options later line command served passed is not_help lines whole =
    serves rules (DoorExchange Home rules) line later command is (plain_home c.an_exchange_at_a_door_is_a_sessions.ensures rules line command is not_help) options passed served.session lines whole

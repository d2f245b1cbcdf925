use Rattle.passphrase_laws.proofs.{Closing.{at_home, at_no_door}, Serving.written}
use Rattle.passphrase_laws.proofs.session.a_run_is_told_what_its_session_answered.Goals as goal

pub returns-clause-session : goal.returns-clause-session
returns-clause-session g c words task prompt description line fields rules before after end waits terminal turns means says served speaks =
    at_no_door rules words task prompt description means waits terminal says served.session (written g.D.Desk.turned g.P.Prompter.prompted _ served.leads) speaks

pub returns-clause-home : goal.returns-clause-home
returns-clause-home g c words task prompt description line fields rules before after end waits terminal turns means says served speaks =
    at_home c.an_exchange_at_a_door_is_a_sessions.ensures rules words task prompt description means waits terminal says served.session
    (written g.D.Desk.turned g.P.Prompter.prompted _ served.leads) speaks

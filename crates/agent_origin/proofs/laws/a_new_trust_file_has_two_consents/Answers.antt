use Rattle.agent_origin.proofs.NewTrustFiles.{exchange_consents, session_consents}
use Rattle.agent_origin.proofs.laws.a_new_trust_file_has_two_consents.Goals as goal

pub returns-clause-exchange : goal.returns-clause-exchange
returns-clause-exchange g c = λ door rules prior then line events before later file went exchanged is. exchange_consents door rules line exchanged before file later is

pub returns-clause-session : goal.returns-clause-session
returns-clause-session g c = λ door rules start now end before later file served is. session_consents door rules served.session before file later is

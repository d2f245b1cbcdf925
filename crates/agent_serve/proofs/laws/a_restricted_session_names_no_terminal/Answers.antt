use Rattle.std.proofs.Common.{refl}
use Rattle.agent_origin.{specs.SessionExchanges.kept_at_start, proofs.OuterPrompts.session_unnamed}
use Rattle.agent_serve.proofs.laws.a_restricted_session_names_no_terminal.Goals as goal

pub returns : goal.returns
returns g c = λ path rules session before after pass now end serves. session_unnamed rules {start = kept_at_start rules} refl serves.served.session

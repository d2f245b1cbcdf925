use Rattle.std.proofs.Common.{refl}
use Rattle.agent_origin.{specs.SessionExchanges.kept_at_start, proofs.OuterPrompts.{line_unnamed, session_unnamed}}
use Rattle.agent_origin.proofs.laws.a_prompt_at_the_outer_door_names_no_terminal.Goals as goal

pub returns-clause-exchange : goal.returns-clause-exchange
returns-clause-exchange g c = λ rules before after line events went unset exchanged. line_unnamed line unset exchanged

pub returns-clause-session : goal.returns-clause-session
returns-clause-session g c = λ rules before after end served. session_unnamed rules {start = kept_at_start rules} refl served.session

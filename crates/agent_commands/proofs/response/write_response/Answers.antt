use Rattle.std.proofs.Common.{refl, inl, inr}
use Rattle.assuan_server.{specs.Written.ok, proofs.Saying.said}
use Rattle.agent_commands.specs.Answers.{closing, help}
use Rattle.agent_commands.proofs.response.write_response.Goals as goal

pub returns-in-Ok : goal.returns-in-Ok
returns-in-Ok g c = (ok, rw c.in-Ok.is refl, said c.whole.ensures c.ok.ensures)

pub returns-in-Bye : goal.returns-in-Bye
returns-in-Bye g c = (closing, elim c.in-Bye.is [ inl bye ↦ rw bye refl | inr killed ↦ rw killed refl ], said c.whole-in-Bye.ensures c.ok-in-Bye.ensures)

pub returns-in-Help : goal.returns-in-Help
returns-in-Help g c = (help, rw c.in-Help.is refl, c.write_help.ensures)

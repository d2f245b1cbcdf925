use Rattle.agent_commands.specs.Requests.{request_of}
use Rattle.agent_session.proofs.Decisions.Exact.{cause_answered, door_cause}
use Rattle.agent_session.proofs.exactly.each_cause_has_its_error.Goals as goal

pub returns-clause-session : goal.returns-clause-session
returns-clause-session c rules kept now line events went exchange remembers why cause = cause_answered c.one_answer.ensures.canon rules kept (request_of line) exchange remembers why cause

pub returns-clause-door : goal.returns-clause-door
returns-clause-door c door rules kept now line events went exchange remembers why cause = door_cause rules kept c.one_answer.ensures.canon line door exchange remembers why cause

use Rattle.agent_commands.specs.Requests.{request_of}
use Rattle.agent_session.proofs.Courses.CacheOpens.{request_opens}
use Rattle.agent_session.proofs.refusals.a_prompt_is_opened_first.Goals as goal

pub returns : goal.returns
returns c rules kept now line events went exchange = request_opens (request_of line) exchange

use Rattle.agent_commands.specs.Requests.{request_of}
use Rattle.agent_session.proofs.Courses.ImportCourses.{import_course}
use Rattle.agent_session.proofs.refusals.an_import_stores_with_its_file.Goals as goal

pub returns : goal.returns
returns c rules kept now line events went force nonce is exchange = import_course (request_of line) is exchange

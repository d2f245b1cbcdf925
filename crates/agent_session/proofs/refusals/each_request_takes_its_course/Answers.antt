use Rattle.agent_commands.specs.Requests.{request_of}
use Rattle.agent_session.proofs.Courses.SessionCourses.{request_course}
use Rattle.agent_session.proofs.refusals.each_request_takes_its_course.Goals as goal

pub returns : goal.returns
returns c rules kept now line events went exchange = request_course (request_of line) exchange

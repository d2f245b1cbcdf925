use Rattle.agent_session.proofs.Courses.TrustEnds.{door_ends}
use Rattle.agent_session.proofs.refusals.a_call_of_the_trust_file_decides_its_request.Goals as goal

pub returns : goal.returns
returns c door rules kept now line events went exchanged = door_ends exchanged

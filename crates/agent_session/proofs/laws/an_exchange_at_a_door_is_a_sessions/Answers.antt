use Rattle.agent_session.proofs.DoorAnswering.{door_is_session}
use Rattle.agent_session.proofs.laws.an_exchange_at_a_door_is_a_sessions.Goals as goal

pub returns : goal.returns
returns c door rules kept now line events went exchanged allows is = door_is_session exchanged allows is

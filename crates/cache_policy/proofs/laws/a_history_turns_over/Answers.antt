use Rattle.cache_policy.proofs.Growing.{seat_turn_over, stopped_turn_over, live_turn_over, legal_turn_over}
use Rattle.cache_policy.proofs.laws.a_history_turns_over.Goals as goal

pub returns-clause-seat : goal.returns-clause-seat
returns-clause-seat c = seat_turn_over

pub returns-clause-stopped : goal.returns-clause-stopped
returns-clause-stopped c = stopped_turn_over

pub returns-clause-live : goal.returns-clause-live
returns-clause-live c = live_turn_over

pub returns-clause-legal : goal.returns-clause-legal
returns-clause-legal c = legal_turn_over

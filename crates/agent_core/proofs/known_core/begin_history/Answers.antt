use Rattle.std.{specs.Prelude.{◌≤◌, vec_capacity}, proofs.Common.rules}
use Rattle.cache_policy.specs.declared.bounds.TheConstants.{MAX_MARKS}
use Rattle.agent_core.proofs.Adding.{room_push}
use Rattle.agent_core.proofs.known_core.begin_history.Goals as goal

pub returns-clause-last : goal.returns-clause-last
returns-clause-last c =
    let room : MAX_MARKS ≤ vec_capacity c.push_reserved.new.self = search rules in
    room_push _ _ _ c.push_reserved-2.ensures.items room

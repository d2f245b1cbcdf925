use Rattle.std.{specs.Prelude.{◌≤◌, List, vec_capacity}, proofs.Common.{ap, subst, arith}}
use Rattle.cache_policy.specs.declared.{bounds.TheConstants.MAX_MARKS, mark.Mark.Mark}
use Rattle.agent_core.{specs.Recording.LastHasRoom, proofs.Adding.{room_push, room_last, room_place, run_place}}
use Rattle.agent_core.proofs.known_core.add_mark.Goals as goal

pub push_reserved-requires : goal.push_reserved-requires
push_reserved-requires c = room_place _ _ c.in-Some.last c.in-Some.ensures.items c.requires.place c.requires.last

pub returns-clause-run : goal.returns-clause-run
returns-clause-run c =
    run_place _ c.pop.new.self.items _ c.in-Some.last _ c.args.mark c.in-Some.ensures.items c.requires.place c.push_reserved-2.ensures.items
    (ap (λ (marks : List Mark). record { base = c.in-Some.last.base; held = c.in-Some.last.held; stopped = c.in-Some.last.stopped; marks = marks })
    c.push_reserved.ensures.items)

pub returns-clause-last : goal.returns-clause-last
returns-clause-last c =
    let all = room_last c.pop.new.self.items c.in-Some.last (subst LastHasRoom c.in-Some.ensures.items c.requires.last) in
    let room : MAX_MARKS ≤ vec_capacity c.push_reserved.new.self = omega (arith, all, c.push_reserved.ensures.capacity) in
    room_push _ _ _ c.push_reserved-2.ensures.items room

use Rattle.std.{specs.{Prelude.{◌≡◌, ◌+◌, ◌<◌, Bool, false, true, not}, Option.is_some}, proofs.Common.{◌∙◌, ap, rules}}
use Rattle.cache_policy.specs.{declared.bounds.TheConstants.MAX_MARKS, Turns.{mark_step, closes}}
use Rattle.agent_core.{specs.Adding.leaves_ticket, proofs.Coming.{needs_close, needs_full, needs_none, needs_last}}
use Rattle.agent_core.proofs.known_core.needs_room.Goals as goal

pub returns-then-is_close : goal.returns-then-is_close
returns-then-is_close c =
    let is : is_some (closes (mark_step c.args.session c.args.step.now)) ≡ true = search rules in
    λ history legal stands. needs_close c.args.core.now (mark_step c.args.session c.args.step.now) _ is

pub returns-then-count-eq-MAX_MARKS : goal.returns-then-count-eq-MAX_MARKS
returns-then-count-eq-MAX_MARKS c =
    let is : is_some (closes (mark_step c.args.session c.args.step.now)) ≡ false = search rules in
    let full : c.args.core.now.count ≡ MAX_MARKS = search rules in
    λ history legal stands. ap not c.is_held.ensures ∙ needs_full c.args.core.now (mark_step c.args.session c.args.step.now) _ is full

pub returns-then-count-lt-MAX_MARKS : goal.returns-then-count-lt-MAX_MARKS
returns-then-count-lt-MAX_MARKS c =
    let is : is_some (closes (mark_step c.args.session c.args.step.now)) ≡ false = search rules in
    let few : c.args.core.now.count + 1 < MAX_MARKS = search rules in
    λ history legal stands. needs_none c.args.core.now (mark_step c.args.session c.args.step.now) _ is few

pub returns : goal.returns
returns c =
    let is : is_some (closes (mark_step c.args.session c.args.step.now)) ≡ false = search rules in
    let ends : c.args.core.now.count + 1 ≡ MAX_MARKS = search rules in
    λ history legal stands.
    c.leaves_ticket.ensures
    ∙ (ap (λ (held : Bool). leaves_ticket held c.comes_to_seat-comes_to_seat.result) c.is_held-2.ensures
    ∙ (ap (leaves_ticket (is_some c.args.core.now.held)) (c.comes_to_seat-comes_to_seat.ensures history legal stands)
    ∙ needs_last c.args.core.now (mark_step c.args.session c.args.step.now) _ is ends))

use Rattle.std.proofs.Common.{◌≡◌, false, ap, sym, ◌∙◌}
use Rattle.cache_policy.specs.Turns.{asked_step, since_of}
use Rattle.counted_lock.proofs.Waking.{may_end, ends_stand, may_end_as, none_ends}
use Rattle.counted_lock.proofs.desk.may_end_stands.Goals as goal

pub returns-in_default : goal.returns-in_default
returns-in_default c = λ limits history mark is ends.
    let quiet = none_ends c.args.step.now c.in_default.not-Close c.in_default.not-Put c.in_default.not-Stop in
    let same : may_end mark.step ≡ false = ap may_end is ∙ may_end_as (since_of mark.step) (asked_step c.args.step.now) ∙ quiet in
    sym same ∙ ends_stand limits history mark ends

use Rattle.std.proofs.{Common.refl, Math.Nat.lt_of_not-le}
use Rattle.key_commands.specs.Steps.{nothing}
use Rattle.key_commands.specs.KeyActions as action
use Rattle.key_commands.proofs.protecting.check_len.Goals as goal

pub returns-then-not-has_short_list-clause-short : goal.returns-then-not-has_short_list-clause-short
returns-then-not-has_short_list-clause-short c =
    let no = c.if-not-has_short_list.true in
    nothing (λ held. action.long (lt_of_not-le (λ short. let yes = c.has_short_list.ensures.1 short in absurd (cc (yes, no))))) refl

pub returns-clause-short : goal.returns-clause-short
returns-clause-short c = nothing (λ held. action.short (c.has_short_list.ensures.0 c.if-not-has_short_list.false)) refl

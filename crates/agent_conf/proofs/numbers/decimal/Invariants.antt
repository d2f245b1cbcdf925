use Rattle.std.{proofs.Common.{◌≡◌, ◌≤◌, drop, fold, ◌+◌, ◌-◌, ◌*◌}, specs.Prelude.min}
use Rattle.assuan_text.specs.Numbers.{decimal}
use Rattle.agent_conf.specs.declared.numbers.TheConstants.{MAX_NUMBER}
use Rattle.agent_conf.proofs.numbers.decimal.Given as goal

-- the digits that are left go on with the number
abbrev pub invariant-loop-digit : goal.invariant-loop-digit
invariant-loop-digit l =
    record {
      value : min (fold (λ number digit. 10 * number + (digit - 48)) l.number (drop l.digit-index l.digits)) MAX_NUMBER ≡ min (decimal l.digits) MAX_NUMBER;
      small : l.number ≤ MAX_NUMBER;
    }

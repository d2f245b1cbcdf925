use Rattle.std.{proofs.{Common.{◌≡◌, ◌+◌, ◌-◌, ◌*◌, ℕ, drop, get_or, ap, sym, ◌∙◌, arith}, lemmas.List.at_drop_more}, specs.Prelude.min}
use Rattle.agent_conf.{specs.declared.numbers.TheConstants.MAX_NUMBER, proofs.NumberLemmas.{capped, same_up_to, with_digits}}
use Rattle.agent_conf.proofs.numbers.decimal.Goals as goal

pub loop-digit-preserved : goal.loop-digit-preserved
loop-digit-preserved c =
    let digits = c.args.digits.now in
    let at = c.loop-digit.digit-index in
    let next : ℕ = 10 * c.loop-digit.number + (get_or digits at 0 - 48) in
    let is : c.min-number.result ≡ min next MAX_NUMBER = omega arith in
    record {
      value =
          same_up_to (drop (at + 1) digits) c.min-number.result next (ap (λ n. min n MAX_NUMBER) is ∙ capped next)
          ∙ ap (λ n. min n MAX_NUMBER) (sym (at_drop_more (with_digits c.loop-digit.number) digits at 0 c.loop-digit-test.true))
          ∙ c.loop-digit.invariant.value;
      small = omega (arith, is);
    }

use Rattle.std.{proofs.Common.{◌≡◌, ◌+◌, ◌++◌, ℕ, List, length, map, append_assoc, Option, Bor, ap, sym, ◌∙◌, arith}, specs.Option.option_to_list}
use Rattle.agent_conf.{specs.Written.{Written, written}, proofs.LineLemmas.{bytes_left, fewer_left, first_line_sets, settings_left}}
use Rattle.agent_conf.proofs.lines.settings_in.Goals as goal

pub loop-rest-preserved : goal.loop-rest-preserved
loop-rest-preserved c =
    let before = map written c.loop-rest.settings.items in
    let number = c.loop-rest.number in
    let left = settings_left c.args.place (number + 1) c.first_line.result.1 in
    let cut = c.first_line.ensures.lines in
    let fewer = fewer_left c.in-Some.text.now c.first_line.result.0.now c.first_line.result.1 c.first_line.ensures.shorter in
    let one : bytes_left c.loop-rest.rest ≡ length c.in-Some.text.now + 1 = ap bytes_left c.in-Some.is in
    record {
      whole =
          ap (λ (s : List Written). s ++ left) c.in_ok-settings.ensures
          ∙ append_assoc before (option_to_list _) left
          ∙ ap (λ (o : Option Written). before ++ (option_to_list o ++ left)) c.setting_of.ensures
          ∙ ap (λ (r : List Written). before ++ r) (sym (first_line_sets c.args.place number c.in-Some.text.now c.first_line.result.0.now c.first_line.result.1 cut))
          ∙ ap (λ (r : Option (Bor (List ℕ))). before ++ settings_left c.args.place number r) (sym c.in-Some.is)
          ∙ c.loop-rest.invariant.whole;
      small = omega (arith, fewer, one, c.loop-rest.invariant.small);
    }

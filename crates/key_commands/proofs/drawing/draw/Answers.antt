use Rattle.std.proofs.Common.{◌≡◌, ◌∙◌, ap, subst, ℕ, List, false, length, replicate, refl}
use Rattle.{agent_ask.specs.Session.PortCalls.{Drew, NotDrawn}, agent_ports.specs.{Draws.IsDrawn, Sides.Side}}
use Rattle.key_commands.{specs.Actions.{drawn, faulted}, proofs.Unwrapping.zeros_len}
use Rattle.key_commands.proofs.drawing.draw.Goals as goal

-- a draw that failed left so many zeros
not_drawn : (before after : Side) (bytes : List ℕ) (count : ℕ) → length bytes ≡ count → IsDrawn before false bytes after → IsDrawn before false (replicate count 0) after
not_drawn before after bytes count len failed =
    subst (λ (b : List ℕ). IsDrawn before false b after) (failed.zeros ∙ ap (λ (n : ℕ). replicate n 0) len) failed

pub returns-then-fill : goal.returns-then-fill
returns-then-fill g c = record {
  draw = Drew c.fill.new.out;
  draws = rw c.if-fill.true at c.fill.ensures;
  does = λ held. drawn (c.fill.auto.out ∙ zeros_len g.row.N);
  on = refl;
}

pub returns-else-fill : goal.returns-else-fill
returns-else-fill g c = record {
  draw = NotDrawn g.row.N;
  draws = not_drawn _ _ c.fill.new.out g.row.N (c.fill.auto.out ∙ zeros_len g.row.N) (rw c.if-fill.false at c.fill.ensures);
  does = λ held. faulted;
  on = refl;
}

use Rattle.std.proofs.Common.{◌≡◌, ◌-◌, List, ℕ, length, take, drop, Some, ap, ◌∙◌, arith}
use Rattle.agent_ports.proofs.Pieces.{next_drawn}
use Rattle.agent_ports.proofs.mem.dice.ListDiceDice.fill.Goals as goal

pub returns-clause-drawn : goal.returns-clause-drawn
returns-clause-drawn c =
    let s = c.args.self.now in
    let room = length c.args.out.now in
    let part : c.copy_from_slice.new.self ≡ take room (take (length s.bytes.items - s.taken) (drop s.taken s.bytes.items)) =
    c.copy_from_slice.ensures.after ∙ ap (λ (x : List ℕ). take room (take (length x - s.taken) (drop s.taken x))) c.deref.ensures.value in
    record {
      next = ap (λ (x : List ℕ). Some x) (next_drawn s.bytes.items s.taken room c.copy_from_slice.new.self part (omega arith));
      zeros = tt;
      kept = tt;
      failed = tt;
      never_falls = c.next_fails.ensures.never_falls;
    }

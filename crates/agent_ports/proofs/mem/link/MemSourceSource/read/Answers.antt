use Rattle.std.proofs.Common.{◌≡◌, ◌-◌, List, ℕ, length, take, drop, Some, ap, ◌∙◌, arith}
use Rattle.agent_ports.proofs.Pieces.{front_copied}
use Rattle.agent_ports.proofs.mem.link.MemSourceSource.read.Goals as goal

pub returns-clause-taken : goal.returns-clause-taken
returns-clause-taken c =
    let s = c.args.self.now in
    let part : c.copy_from_slice.new.self ≡ take c.min-count.result (take (length s.bytes.items - s.taken) (drop s.taken s.bytes.items)) =
    c.copy_from_slice.ensures.after ∙ ap (λ (x : List ℕ). take c.min-count.result (take (length x - s.taken) (drop s.taken x))) c.deref.ensures.value in
    ap (λ (x : List ℕ). Some x) (front_copied s.bytes.items s.taken c.min-count.result c.copy_from_slice.new.self _ part (omega arith))

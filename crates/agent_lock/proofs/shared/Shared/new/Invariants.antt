use Rattle.std.specs.Prelude.{◌≡◌, ◌+◌, All, vec_len}
use Rattle.agent_lock.specs.Counting.{no_counts}
use Rattle.agent_lock.proofs.shared.Shared.new.Given as goal

abbrev pub invariant-loop-i : goal.invariant-loop-i
invariant-loop-i g l =
    (l.left.calls.parts + l._i ≡ l.passes) × (l.left.given.parts + l._i ≡ l.passes) × (l.left.empty.parts + l._i ≡ l.passes) × (l.left.opened.parts + l._i ≡ l.passes)
    × (l.left.calls.amount ≡ 0) × (l.left.given.amount ≡ 0) × (l.left.empty.amount ≡ 0) × (l.left.opened.amount ≡ 0)
    × (vec_len l.all ≡ l._i) × All (λ pass. pass ≡ no_counts) l.all.items

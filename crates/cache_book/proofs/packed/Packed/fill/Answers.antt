use Rattle.std.{specs.Prelude.{◌≡◌, ℕ, ◌-◌, List, ◌++◌, length, drop, replicate}, proofs.{Common.{arith, rules, ap, ◌∙◌}, lemmas.{List.drop-replicate, Slice.drop-append-drop}}}
use Rattle.cache_book.proofs.packed.Packed.fill.Goals as goal

-- behind bytes that were written over zeros there are zeros
zeros_behind : (N n len : ℕ) (from bytes : List ℕ) → len ≡ n → length from ≡ n → bytes ≡ replicate N 0 → drop len (from ++ drop n bytes) ≡ replicate (N - len) 0
zeros_behind N n len from bytes same long zeros =
    ap (λ (b : List ℕ). drop len (from ++ drop n b)) zeros ∙ (drop-append-drop n (replicate N 0) from len (omega arith) long ∙ drop-replicate len N 0)

pub invariant_of-self : goal.invariant_of-self
invariant_of-self g c =
    let len : c.in-Ok.len ≡ length c.args.from.now = search rules in
    let copied : length c.copy_from_slice.new.self ≡ length c.args.from.now = search rules in
    (omega arith, zeros_behind g.row.N (length c.args.from.now) c.in-Ok.len c.copy_from_slice.new.self c.wipe.new.bytes len copied (c.wipe.ensures ∙ ap (λ n. replicate n 0) c.self.told))

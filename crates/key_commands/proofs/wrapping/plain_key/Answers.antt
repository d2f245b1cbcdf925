use Rattle.std.proofs.{Common.{◌≤◌, inl, inr, ap, sym, ◌∙◌, subst, Err}, Math.Nat.lt_of_not-le}
use Rattle.sexp_canonical.specs.Spelling.{most_depth, depth}
use Rattle.key_commands.specs.{Faults.fault_code, Wrapping.{PlainSays, no_expression, no_key, protected, long, key}}
use Rattle.key_commands.proofs.wrapping.plain_key.Goals as goal

pub returns-in_default-clause-fault : goal.returns-in_default-clause-fault
returns-in_default-clause-fault c = inr (no_expression (rw c.in_default.is at c.in_ok-tree.ensures.none))

pub returns-in-Err-clause-fault : goal.returns-in-Err-clause-fault
returns-in-Err-clause-fault c =
    elim (c.in-Err.ensures.fault) [
      | inl memory ↦ inl (c.fault_code.ensures ∙ ap fault_code memory)
      | inr first ↦
          inr (subst (λ code. PlainSays c.args.plain.now (Err code)) (sym c.fault_code.ensures) (no_key (rw c.in-Some.is at c.in_ok-tree.ensures.found) first))
    ]

pub returns-then-not-is_clear-clause-fault : goal.returns-then-not-is_clear-clause-fault
returns-then-not-is_clear-clause-fault c =
    inr (protected (rw c.in-Some.is at c.in_ok-tree.ensures.found) c.in-Ok.ensures.found (sym c.is_clear.ensures.clear ∙ c.if-not-is_clear.true))

pub has_short_list-requires : goal.has_short_list-requires
has_short_list-requires c =
    let padded = rw c.in-Some.is at c.in_ok-tree.ensures.found in
    subst (λ tree. depth tree ≤ most_depth) c.in-Ok.ensures.found.parts padded.read.shallow

pub returns-then-not-has_short_list-clause-fault : goal.returns-then-not-has_short_list-clause-fault
returns-then-not-has_short_list-clause-fault c =
    let no = c.if-not-has_short_list.true in
    inr (long (rw c.in-Some.is at c.in_ok-tree.ensures.found) c.in-Ok.ensures.found (sym c.is_clear.ensures.clear ∙ c.if-not-is_clear.false)
    (lt_of_not-le (λ short. let yes = c.has_short_list.ensures.1 short in absurd (cc (yes, no)))))

pub returns-clause-key : goal.returns-clause-key
returns-clause-key c =
    key (rw c.in-Some.is at c.in_ok-tree.ensures.found) c.in-Ok.ensures.found (sym c.is_clear.ensures.clear ∙ c.if-not-is_clear.false) (c.has_short_list.ensures.0 c.if-not-has_short_list.false)

use Rattle.std.proofs.{Common.{◌≡◌, ◌-◌, length, sym, ◌∙◌, arith}, lemmas.Grind.common_steps}
use Rattle.secret_file.proofs.Unsealing.{joined, sealed_same}
use Rattle.secret_file.proofs.sealed.unsealed.Goals as goal

pub returns-then-not-is_own-clause-none : goal.returns-then-not-is_own-clause-none
returns-then-not-is_own-clause-none c = λ plain h.
    c.unseal-is_own.ensures.none c.if-not-is_own.true plain
    (sealed_same _ c.derive-key.result c.args.iv.now c.args.assoc.now _ c.args.protection.now.encrypted.now plain plain (sym c.derive-key.ensures)
    (sym (joined c.args.protection.now.encrypted.now c.split_at.result.0.now c.split_at.result.1.now c.as_mut_slice.result.now c.in-Some.tag (length c.args.protection.now.encrypted.now - 16)
    c.split_at.ensures.front c.split_at.ensures.back c.in-Some.ensures.found.0 (c.as_mut_slice.ensures.value ∙ c.in_ok-bytes.ensures.items))) (λ i. plain) h)

pub returns-clause-found : goal.returns-clause-found
returns-clause-found c =
    let same : c.unseal-is_own.new.bytes ≡ c.from.result = grind (arith, common_steps) in
    sealed_same c.derive-key.result _ c.args.iv.now c.args.assoc.now c.args.protection.now.encrypted.now _ c.unseal-is_own.new.bytes c.from.result c.derive-key.ensures
    (joined c.args.protection.now.encrypted.now c.split_at.result.0.now c.split_at.result.1.now c.as_mut_slice.result.now c.in-Some.tag (length c.args.protection.now.encrypted.now - 16)
    c.split_at.ensures.front c.split_at.ensures.back c.in-Some.ensures.found.0 (c.as_mut_slice.ensures.value ∙ c.in_ok-bytes.ensures.items)) same (c.unseal-is_own.ensures.sealed c.if-not-is_own.false)

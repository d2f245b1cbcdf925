use Rattle.std.proofs.Common.{ap, length, arith, sym, ◌∙◌}
use Rattle.sexp_keys.specs.Lists.{associated_list_of}
use Rattle.secret_file.{specs.Opens.time_of, proofs.{Within.associated_short, Unsealing.{not_listed, unsealed_opening}}}
use Rattle.secret_file.proofs.sealed.unsealed_key.Goals as goal

pub unsealed-requires-clause-assoc : goal.unsealed-requires-clause-assoc
unsealed-requires-clause-assoc c =
    let short = c.requires.list in
    omega (arith, associated_short c.args.locked.now, ap length (c.as_slice.ensures.value ∙ c.in_ok-assoc.ensures ∙ ap (associated_list_of c.args.locked.now) (c.time_of.ensures ∙ ap time_of c.private.ensures)))

pub returns-in_default-list-clause-found : goal.returns-in_default-list-clause-found
returns-in_default-list-clause-found c =
    not_listed c.args.locked.now c.args.protection.now.salt c.args.protection.now.count c.args.iv.now c.args.protection.now.encrypted.now c.args.pass.now c.as_slice.result.now c.in-Some.bytes c.as_slice-2.result.now
    (c.as_slice.ensures.value ∙ c.in_ok-assoc.ensures ∙ ap (associated_list_of c.args.locked.now) (c.time_of.ensures ∙ ap time_of c.private.ensures))
    (rw c.in-Some.is at c.in_ok-found.ensures.found) c.as_slice-2.ensures (rw c.in_default-list.is at c.in_ok-list.ensures.none)

pub returns-clause-found : goal.returns-clause-found
returns-clause-found c =
    unsealed_opening c.args.locked.now c.args.protection.now.salt c.args.protection.now.count c.args.iv.now c.args.protection.now.encrypted.now c.args.pass.now c.as_slice.result.now c.in-Some.bytes c.in-Some-list.secret
    c.in_ok-with_secret.field-0
    (c.as_slice.ensures.value ∙ c.in_ok-assoc.ensures ∙ ap (associated_list_of c.args.locked.now) (c.time_of.ensures ∙ ap time_of c.private.ensures))
    (rw c.in-Some.is at c.in_ok-found.ensures.found) (rw c.in-Some.is at c.in_ok-found.ensures.len) (sym c.as_slice-2.ensures ∙ (rw c.in-Some-list.is at c.in_ok-list.ensures.found))
    c.in_ok-with_secret.ensures.found c.in_ok-with_secret.ensures.key

use Rattle.std.proofs.Common.{ap, subst, ◌∙◌, arith}
use Rattle.sexp_keys.proofs.Measured.{names_measured, list_measured, short_names, IsUnfit, public_long, private_long, further_long}
use Rattle.sexp_keys.proofs.key_list.KeyList.list_len.Goals as goal

pub overflow_add-names : goal.overflow_add-names
overflow_add-names c =
    let names = names_measured c.args.self.now _ c.self.view_is c.atom_len.ensures c.atom_len-2.ensures c.form_name.ensures c.name.ensures in
    omega (arith, names, short_names c.args.self.now)

pub returns-in_err-public-clause-long : goal.returns-in_err-public-clause-long
returns-in_err-public-clause-long c =
    rw c.from_residual.ensures (public_long c.args.self.now (subst IsUnfit (c.as_slice.ensures ∙ ap (λ k. k.public) c.self.view_is) c.in_err-public.ensures))

pub returns-in_err-private-clause-long : goal.returns-in_err-private-clause-long
returns-in_err-private-clause-long c =
    rw c.from_residual-in_err-private.ensures (private_long c.args.self.now (subst IsUnfit (c.as_slice-2.ensures ∙ ap (λ k. k.private) c.self.view_is) c.in_err-private.ensures))

pub returns-in_err-further-clause-long : goal.returns-in_err-further-clause-long
returns-in_err-further-clause-long c =
    rw c.from_residual-in_err-further.ensures (further_long c.args.self.now (subst IsUnfit (c.as_slice-3.ensures ∙ ap (λ k. k.further) c.self.view_is) c.in_err-further.ensures))

pub overflow_add-result : goal.overflow_add-result
overflow_add-result c =
    let names = names_measured c.args.self.now _ c.self.view_is c.atom_len.ensures c.atom_len-2.ensures c.form_name.ensures c.name.ensures in
    omega (arith, names, short_names c.args.self.now, c.in_ok-public.ensures.0.1, c.in_ok-public.ensures.1)

pub overflow_add-result-2 : goal.overflow_add-result-2
overflow_add-result-2 c =
    let names = names_measured c.args.self.now _ c.self.view_is c.atom_len.ensures c.atom_len-2.ensures c.form_name.ensures c.name.ensures in
    omega (arith, names, short_names c.args.self.now, c.in_ok-public.ensures.0.1, c.in_ok-public.ensures.1, c.in_ok-private.ensures.0.1, c.in_ok-private.ensures.1)

pub overflow_add-result-3 : goal.overflow_add-result-3
overflow_add-result-3 c =
    let names = names_measured c.args.self.now _ c.self.view_is c.atom_len.ensures c.atom_len-2.ensures c.form_name.ensures c.name.ensures in
    omega (arith, names, short_names c.args.self.now, c.in_ok-public.ensures.0.1, c.in_ok-public.ensures.1, c.in_ok-private.ensures.0.1, c.in_ok-private.ensures.1, c.in_ok-further.ensures.0.1, c.in_ok-further.ensures.1)

pub overflow_add-result-4 : goal.overflow_add-result-4
overflow_add-result-4 c =
    let names = names_measured c.args.self.now _ c.self.view_is c.atom_len.ensures c.atom_len-2.ensures c.form_name.ensures c.name.ensures in
    omega (arith, names, short_names c.args.self.now, c.in_ok-public.ensures.0.1, c.in_ok-public.ensures.1, c.in_ok-private.ensures.0.1, c.in_ok-private.ensures.1, c.in_ok-further.ensures.0.1, c.in_ok-further.ensures.1)

pub returns-clause-len : goal.returns-clause-len
returns-clause-len c =
    list_measured c.args.self.now _ c.self.view_is (names_measured c.args.self.now _ c.self.view_is c.atom_len.ensures c.atom_len-2.ensures c.form_name.ensures c.name.ensures)
    c.in_ok-public.ensures.1 c.in_ok-private.ensures.1 c.in_ok-further.ensures.1 c.as_slice.ensures c.as_slice-2.ensures c.as_slice-3.ensures

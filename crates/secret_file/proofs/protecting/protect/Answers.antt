use Rattle.std.{proofs.Common.{◌≡◌, sym, ap, length, subst, ◌∙◌, List, ℕ, arith}, specs.Option.option_copied}
use Rattle.s2k_derive.specs.S2k.{derived_key}
use Rattle.secret_file.{specs.{Opens.{AreSealed, Opens}, Protects.protected_file}, proofs.Locking.{associated_within, sealed_short, sealed, ok_more, file_opens, ocb_made}}
use Rattle.secret_file.proofs.protecting.protect.Goals as goal

pub sealed_by-requires-clause-assoc : goal.sealed_by-requires-clause-assoc
sealed_by-requires-clause-assoc c =
    let short = c.requires.short in
    omega (arith, associated_within c.args.key.now (option_copied c.slice_of-time.result) c.slice_of-time.ensures.len, ap length (c.as_slice.ensures.value ∙ c.in_ok-assoc.ensures))

pub sealed_by-requires-clause-short : goal.sealed_by-requires-clause-short
sealed_by-requires-clause-short c =
    let short = c.requires.short in
    omega (arith, sealed_short c.args.key.now, ap length c.in_ok-text.ensures)

pub returns-clause-opens : goal.returns-clause-opens
returns-clause-opens c =
    let key = c.args.key.now in
    let time = option_copied c.slice_of-time.result in
    let salt = c.args.salt.now in
    let iv = c.args.iv.now in
    let octets = c.as_slice-2.result.now in
    ok_more c.file_of.result (λ file. file.items ≡ protected_file key (sealed salt c.args.count iv octets) time) (λ file. Opens file.items c.args.pass.now key)
    (λ file e. file_opens key (sealed salt c.args.count iv octets) time c.args.pass.now file.items c.is_clear-is_clear.ensures.formed c.requires.clear c.requires.short c.requires.shallow
    (ocb_made key salt c.args.count iv octets time c.args.pass.now c.as_slice.result.now c.in_ok-text.text c.told-salt c.told-iv c.requires.least c.requires.greatest c.slice_of-time.ensures.len
    (c.as_slice.ensures.value ∙ c.in_ok-assoc.ensures) c.in_ok-text.ensures (ap length c.as_slice-2.ensures.value ∙ c.in_ok-encrypted.ensures.len)
    (subst (λ (o : List ℕ). AreSealed (derived_key c.args.pass.now salt c.args.count) iv c.as_slice.result.now o c.in_ok-text.text) (sym c.as_slice-2.ensures.value) c.in_ok-encrypted.ensures.sealed)) e)
    c.file_of.ensures

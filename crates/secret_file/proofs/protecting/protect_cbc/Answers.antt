use Rattle.std.{proofs.Common.{◌≡◌, ap, length, ◌∙◌}, specs.Option.option_copied}
use Rattle.{s2k_derive.specs.S2k.derived_key, aes_modes.specs.Cbc.cbc_decrypted}
use Rattle.secret_file.{specs.{Opens.Opens, Protects.protected_file}, proofs.Locking.{chained, ok_more, file_opens, cbc_made}}
use Rattle.secret_file.proofs.protecting.protect_cbc.Goals as goal

pub returns-clause-opens : goal.returns-clause-opens
returns-clause-opens c =
    let key = c.args.key.now in
    let time = option_copied c.slice_of-time.result in
    let salt = c.args.salt.now in
    let iv = c.args.iv.now in
    let octets = c.as_slice.result.now in
    ok_more c.file_of.result (λ file. file.items ≡ protected_file key (chained salt c.args.count iv octets) time) (λ file. Opens file.items c.args.pass.now key)
    (λ file e. file_opens key (chained salt c.args.count iv octets) time c.args.pass.now file.items c.is_clear-is_clear.ensures.formed c.requires.clear c.requires.short c.requires.shallow
    (cbc_made key salt c.args.count iv octets time c.args.pass.now c.pad.new.text c.in_ok-text.text c.args.padding.now c.told-salt c.told-iv c.requires.least c.requires.greatest c.slice_of-time.ensures.len
    c.in_ok-text.ensures.text c.in_ok-text.ensures.len c.in_ok-pad.ensures.padded c.in_ok-pad.ensures.whole (ap length c.as_slice.ensures.value ∙ c.encrypted_by-encrypted.ensures.len)
    (ap (cbc_decrypted (derived_key c.args.pass.now salt c.args.count) iv) (c.as_slice.ensures.value ∙ c.encrypted_by-encrypted.ensures.value) ∙ c.encrypted_by-encrypted.ensures.undone)) e)
    c.file_of.ensures

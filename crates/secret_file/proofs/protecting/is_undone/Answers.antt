use Rattle.std.proofs.Common.{refl, arith}
use Rattle.secret_file.proofs.protecting.is_undone.Goals as goal

pub returns : goal.returns
returns c =
    c.decryption_undoes_encryption.ensures c.args.key.now c.args.iv.now c.args.plain.now
    (record { len = c.told-key; small = c.fits-key }) (record { len = c.told-iv; small = c.fits-iv }) (record { len = refl; small = λ k. let fits = c.type_inv.plain k in omega arith }) c.requires

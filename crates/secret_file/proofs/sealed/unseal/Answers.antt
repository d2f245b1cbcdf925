use Rattle.std.proofs.Common.{refl, arith}
use Rattle.secret_file.proofs.Unsealing.{sealed_back, not_own}
use Rattle.secret_file.proofs.sealed.unseal.Goals as goal

pub returns-clause-sealed : goal.returns-clause-sealed
returns-clause-sealed c = λ yes.
    sealed_back c.args.key.now c.args.iv.now c.args.assoc.now c.args.bytes.now c.ocb_decrypt.new.bytes c.args.tag.now (record { len = refl; small = λ k. let fits = c.type_inv.bytes k in omega arith }) c.told-tag
    (c.ocb_decrypt.ensures.encrypted yes)

pub returns-clause-none : goal.returns-clause-none
returns-clause-none c =
    not_own c.args.key.now c.args.iv.now c.args.assoc.now c.args.bytes.now c.args.tag.now c.ocb_decrypt.result (record { len = c.told-key; small = c.fits-key }) c.told-tag
    (λ plain bytes text tag. (c.ocb_decrypt.ensures.undoes plain bytes text tag).0)

use Rattle.std.proofs.Common.{sym}
use Rattle.sexp_advanced.proofs.{Behind.{behind_shorter, byte_behind}, Delimited.spells_more}
use Rattle.sexp_advanced.proofs.signs.delimited_at.Goals as goal

pub loop-byte-smaller : goal.loop-byte-smaller
loop-byte-smaller c =
    behind_shorter c.in-Byte.more.now c.loop-byte.rest.now (byte_behind c.args.form c.loop-byte.rest.now c.in-Byte.more.now c.in-Byte.byte (sym c.in-Byte.ensures))

pub loop-byte-preserved : goal.loop-byte-preserved
loop-byte-preserved c =
    rw c.in_ok-extend_from_slice-in-Byte.ensures.ok
    (spells_more c.args.form c.args.text.now c.loop-byte.bytes c.loop-byte.rest.now c.in-Byte.more.now c.in-Byte.byte c.loop-byte.invariant (sym c.in-Byte.ensures))

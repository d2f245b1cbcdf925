use Rattle.std.proofs.Common.{◌∙◌, arith}
use Rattle.sexp_canonical.proofs.Written.{atom_put}
use Rattle.sexp_canonical.proofs.writing.append_atom.Goals as goal

pub returns : goal.returns
returns c =
    atom_put c.args.text.now c.extend_from_slice.new.self c.extend_from_slice-2.new.self c.extend_from_slice-3.new.self c.as_bytes.result.now c.args.bytes.now
    (c.as_bytes.ensures.value ∙ c.format.ensures.text) (omega arith) c.in_ok-extend_from_slice.ensures.ok c.in_ok-extend_from_slice-2.ensures.ok c.in_ok-extend_from_slice-3.ensures.ok

use Rattle.std.{proofs.Common.{[], ◌∷◌}, specs.Prelude.codes}
use Rattle.{sexp_canonical.{specs.Tree.leaf, proofs.WrittenLists.written_one}, sexp_keys.proofs.WrittenLists.key_written}
use Rattle.secret_file.specs.Protection.{hash_name}
use Rattle.secret_file.proofs.protecting.append_hash.Goals as goal

pub returns : goal.returns
returns c =
    key_written c.args.text.now c.extend_from_slice.new.self c.append_atom.new.text c.append_atom-2.new.text c.append_atom-3.new.text c.extend_from_slice-2.new.self
    (codes "hash") (leaf hash_name) (leaf c.args.digest.now ∷ [])
    c.in_ok-extend_from_slice.ensures.ok c.in_ok-append_atom.ensures c.in_ok-append_atom-2.ensures
    (written_one c.append_atom-2.new.text c.append_atom-3.new.text (leaf c.args.digest.now) c.in_ok-append_atom-3.ensures) c.in_ok-extend_from_slice-2.ensures.ok

use Rattle.std.specs.Option.{option_copied}
use Rattle.sexp_canonical.specs.View.{trees}
use Rattle.secret_file.proofs.Texts.{text_written, text_len}
use Rattle.secret_file.proofs.protecting.secret_text.Goals as goal

pub returns-clause-text : goal.returns-clause-text
returns-clause-text c =
    text_written c.args.key.now (option_copied c.args.time) c.in_ok-digest.digest c.new-text.result c.extend_from_slice.new.self c.append_list.new.text c.append_hash.new.text c.extend_from_slice-2.new.self (trees c.private.result.now)
    c.in_ok-digest.ensures.digest c.new-text.ensures c.in_ok-extend_from_slice.ensures.ok c.in_ok-append_list.ensures c.private.ensures c.in_ok-append_hash.ensures c.in_ok-extend_from_slice-2.ensures.ok

pub returns-clause-len : goal.returns-clause-len
returns-clause-len c =
    text_len c.args.key.now (option_copied c.args.time) c.in_ok-digest.digest c.extend_from_slice-2.new.self c.in_ok-digest.ensures.digest c.in_ok-digest.ensures.len (returns-clause-text c)

use Rattle.std.specs.List.{flat_map}
use Rattle.passphrase_words.{specs.{Parts.{default_front}, Texts.escape_of}, proofs.Pushing.{pushed_both, first_is_full, default_is}}
use Rattle.passphrase_words.proofs.texts.push_default.Goals as goal

pub returns-in-Ok : goal.returns-in-Ok
returns-in-Ok c =
    rw (default_is c.args.is_new c.args.id.now)
    (pushed_both (default_front c.args.is_new) (flat_map escape_of c.args.id.now) c.args.texts.now.items c.push.new.texts.items c.push_text.new.texts.items c.push_text.result
    (rw c.default_front.ensures at c.in-Ok.ensures.taken) c.push_text.ensures)

pub returns-in-Err : goal.returns-in-Err
returns-in-Err c =
    rw (default_is c.args.is_new c.args.id.now)
    (first_is_full (default_front c.args.is_new) (flat_map escape_of c.args.id.now) c.args.texts.now.items c.push.new.texts.items c.in-Err.full
    (rw c.default_front.ensures at c.in-Err.ensures))

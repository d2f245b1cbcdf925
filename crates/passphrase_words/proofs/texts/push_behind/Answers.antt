use Rattle.std.specs.Prelude.{codes}
use Rattle.passphrase_words.{specs.Texts.{word_of, description_by, description_or}, proofs.Pushing.{pushed_both, first_is_full}}
use Rattle.passphrase_words.proofs.texts.push_behind.Goals as goal

pub returns-in-Ok : goal.returns-in-Ok
returns-in-Ok c =
    pushed_both (codes " ") (word_of (description_or c.args.id.now (description_by c.args.is_new c.args.id.now c.args.description.now))) c.args.texts.now.items c.push.new.texts.items c.push_description.new.texts.items
    c.push_description.result c.in-Ok.ensures.taken c.push_description.ensures

pub returns-in-Err : goal.returns-in-Err
returns-in-Err c =
    first_is_full (codes " ") (word_of (description_or c.args.id.now (description_by c.args.is_new c.args.id.now c.args.description.now))) c.args.texts.now.items c.push.new.texts.items c.in-Err.full c.in-Err.ensures

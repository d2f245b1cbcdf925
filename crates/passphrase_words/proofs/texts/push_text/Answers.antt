use Rattle.passphrase_words.{specs.Texts.escape_of, proofs.Pushing.some_is_full}
use Rattle.passphrase_words.proofs.texts.push_text.Goals as goal

pub returns-in-Err : goal.returns-in-Err
returns-in-Err c =
    some_is_full escape_of c.args.text.now c.args.texts.now.items c.loop-byte.texts.items c.push.new.texts.items c.loop-byte.byte-index c.in-Err.full
    c.loop-byte-test.true c.loop-byte.invariant (rw c.escape_of.ensures at c.in-Err.ensures)

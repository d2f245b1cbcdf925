use Rattle.std.{proofs.Common.◌∷◌, specs.Option.option_map}
use Rattle.passphrase_words.{specs.Texts.{word_of, prompt_word, description_by, description_or}, proofs.Pushing.{pushed_both, first_is_full}}
use Rattle.passphrase_words.proofs.texts.push_texts.Goals as goal

pub returns-in-Ok : goal.returns-in-Ok
returns-in-Ok c =
    pushed_both (prompt_word (option_map (λ prompt. prompt.now) c.args.prompt)) (32 ∷ word_of (description_or c.args.id.now (description_by c.args.is_new c.args.id.now c.args.description.now))) c.args.texts.now.items
    c.push_prompt.new.texts.items c.push_behind.new.texts.items c.push_behind.result c.in-Ok.ensures.taken c.push_behind.ensures

pub returns-in-Err : goal.returns-in-Err
returns-in-Err c =
    first_is_full (prompt_word (option_map (λ prompt. prompt.now) c.args.prompt)) (32 ∷ word_of (description_or c.args.id.now (description_by c.args.is_new c.args.id.now c.args.description.now))) c.args.texts.now.items
    c.push_prompt.new.texts.items c.in-Err.full c.in-Err.ensures

use Rattle.std.proofs.{Common.lit<, lemmas.Str.Pattern.split_once_first}
use Rattle.passphrase_words.proofs.settings.split_at_equals.Goals as goal

pub returns : goal.returns
returns c = split_once_first 61 c.args.word.now c.split_once.result c.split_once.ensures.cases (lit< tt)

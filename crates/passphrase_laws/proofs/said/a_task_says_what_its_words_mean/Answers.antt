use Rattle.passphrase_laws.proofs.Meaning.{askpass_texts, read_texts, says, seconds}
use Rattle.passphrase_laws.proofs.said.a_task_says_what_its_words_mean.Goals as goal

pub returns : goal.returns
returns c = record { read = read_texts; askpass = askpass_texts; says = says; seconds = seconds }

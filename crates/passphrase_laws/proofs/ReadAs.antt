-- What the agent writes is read as it was meant.
use Rattle.std.proofs.Common.{ℕ, List, true}
use Rattle.{agent_commands.specs.Answers.IsPassphrase, assuan_client.specs.Answers.success_of, assuan_server.specs.{Errors.{error_text, error_number}, declared.errors.Origin.Origin}, assuan_text.specs.LineEnds.line_of}
use Rattle.session_client.specs.declared.code.Code.{Code}
use Rattle.passphrase_laws.{specs.Readings.IsReadAs, proofs.{Finding.finds, Replying.{data_comes, error_comes}}}
use Rattle.assuan_client.specs.declared.answer.Answer.TheVariants as answer

pub passphrase_read : (secret text : List ℕ) → IsPassphrase true secret text → IsReadAs text (success_of secret)
passphrase_read secret text told behind tally found before after begun comes read =
    finds tally text _ (data_comes tally secret text begun told.is.bytes told.is.short told.written) behind before after found comes.within read comes.next

pub error_read : (why : Code) (origin : Origin) → IsReadAs (line_of (error_text why origin)) (answer.Err (error_number why origin))
error_read why origin behind tally found before after begun comes read =
    finds tally _ _ (error_comes tally why origin) behind before after found comes.within read comes.next

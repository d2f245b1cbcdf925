-- How many bytes an id has at most.
use Rattle.std.proofs.Common.{◌≡◌, refl}
use Rattle.passphrase_words.specs.declared.task.TheConstants.{MAX_ID_LEN}

fifty_bytes : MAX_ID_LEN ≡ 50
fifty_bytes = refl

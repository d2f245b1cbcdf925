use Rattle.aes_modes.proofs.Undone.{cbc_decrypted_cbc_encrypted}
use Rattle.aes_modes.proofs.laws.decryption_undoes_encryption.Goals as goal

pub returns : goal.returns
returns c = cbc_decrypted_cbc_encrypted

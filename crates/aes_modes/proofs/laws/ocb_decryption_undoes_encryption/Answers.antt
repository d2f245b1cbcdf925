use Rattle.aes_modes.proofs.{OcbTag.ocb_tag_bytes, OcbUndone.{ocb_encrypted_bytes, ocb_decrypted_ocb_encrypted}}
use Rattle.aes_modes.proofs.laws.ocb_decryption_undoes_encryption.Goals as goal

pub returns : goal.returns
returns c = record { len = ocb_encrypted_bytes; tag = ocb_tag_bytes; undone = ocb_decrypted_ocb_encrypted }

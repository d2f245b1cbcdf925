use Rattle.aes_modes.proofs.OcbUndone.{ocb_decrypted_bytes, ocb_encrypted_ocb_decrypted}
use Rattle.aes_modes.proofs.laws.ocb_plaintext_was_encrypted.Goals as goal

pub returns : goal.returns
returns c = record { len = ocb_decrypted_bytes; restored = ocb_encrypted_ocb_decrypted }

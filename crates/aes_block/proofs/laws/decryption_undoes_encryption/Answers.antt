use Rattle.aes_block.proofs.{Undone.{decrypted_encrypted, encrypted_bytes}, Restored.{encrypted_decrypted, decrypted_bytes}, XorLemmas.xor_of_twice}
use Rattle.aes_block.proofs.laws.decryption_undoes_encryption.Goals as goal

pub returns-clause-block : goal.returns-clause-block
returns-clause-block c = encrypted_bytes

pub returns-clause-undone : goal.returns-clause-undone
returns-clause-undone c = decrypted_encrypted

pub returns-clause-plain : goal.returns-clause-plain
returns-clause-plain c = decrypted_bytes

pub returns-clause-restored : goal.returns-clause-restored
returns-clause-restored c = encrypted_decrypted

pub returns-clause-xor : goal.returns-clause-xor
returns-clause-xor c = xor_of_twice

-- Whose a passphrase is that is stored or written.
pub mod OwnCache
pub mod OwnFacts
pub mod OwnKeys
pub mod OwnLines
pub mod OwnActions
pub mod OwnTrust

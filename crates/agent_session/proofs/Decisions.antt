-- Each code is answered wherever its cause stands.
pub mod Exact
pub mod ExactCache
pub mod ExactEnds
pub mod ExactFiles
pub mod ExactLong
pub mod ExactActions
pub mod ExactReads
pub mod ExactTrust
pub mod Talking
pub mod TrustDenied
pub mod TrustGone
pub mod TrustTold

-- What a failure counts at the outside.
pub mod Completing
pub mod Counting

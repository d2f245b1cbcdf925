pub mod S2k

pub mod ListTests
pub mod OneName
pub mod Parts
pub mod Keys
pub mod WrittenLists
pub mod Measured

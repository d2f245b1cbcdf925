pub mod Readings
pub mod Exchanges
pub mod Roads
pub mod Asking
pub mod Served
pub mod Joined

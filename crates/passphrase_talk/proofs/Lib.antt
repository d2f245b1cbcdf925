mod Leading
mod Ending
mod Writing
mod Visiting
pub mod Connected
mod Places
mod OnlyVisit
mod ItsReply
mod WorkedNumbers

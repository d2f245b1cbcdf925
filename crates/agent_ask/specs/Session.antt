-- What every session does: its events, the actions of its requests, and the states that these lead to.
pub mod SessionEvents
pub mod Worlds
pub mod Actions
pub mod ActionExchanges
pub mod ActionStates
pub mod ActionReplies
pub mod TurnActions
pub mod ClientActions
pub mod PortCalls
pub mod TrustCalls
pub mod States
pub mod Answering

pub mod Forms
pub mod Put
pub mod Sends
pub mod Taking
pub mod Pieces
pub mod Faults
pub mod Served
pub mod Told
pub mod Replay
pub mod NodeBooks
pub mod ToldLines
pub mod WrittenLines
mod Last
mod Lines
mod BookTexts
mod Order
mod Sent
mod Taken
mod Outcome
mod Settlements
mod ListPieces
mod OneReading
mod Versions
mod OneHistory
mod OneBooks
mod OneCame
mod OneVerdict
mod Exact

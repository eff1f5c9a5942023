mod LinkedBooks
mod Acknowledged
pub mod Sound
pub mod Views
pub mod Turned
pub mod Pairs
mod Coded
mod HostBooks
mod HostLaws
mod Grants
mod Held
mod Found
mod ReadyHosts
mod LinksHeld
mod OutgoingKept
mod PlayedBooks
mod CountedFrames
mod Rooms
mod MadeFrames
mod ReadyNodes
mod TurnsOfCalls
mod ReplayedLinks
mod SaidFrames
mod Refusals

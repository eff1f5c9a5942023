pub mod History
pub mod Book
pub mod Departures
pub mod Keeping
pub mod Refused
pub mod EventChecks
pub mod Endings
pub mod Timed
pub mod Settled
pub mod Pairs
pub mod Cut
pub mod Repeats
pub mod SettlingParts
pub mod EventMerge
mod TakenKeeping
pub mod Keys

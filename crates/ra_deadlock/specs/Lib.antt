pub mod Deadlock
pub mod Lasting
pub mod Ranks

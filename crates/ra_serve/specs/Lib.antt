pub mod Peers
pub mod Saying
pub mod Notes
pub mod Opening
pub mod Input
pub mod Answering
pub mod Events
pub mod Returning

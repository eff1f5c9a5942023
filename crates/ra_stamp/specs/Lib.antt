pub mod NodeId
pub mod Mode
pub mod Name
pub mod Sequence
pub mod Stamp
pub mod Message
pub mod Mark
pub mod Member

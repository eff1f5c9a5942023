pub mod Nonces
pub mod Takes
pub mod Frames
pub mod Messages
pub mod HostLines
pub mod Clients
pub mod StatusLines
pub mod Inputs

pub mod Pieces
pub mod Told
pub mod EventLists
pub mod LinkedHosts

pub mod Bag
pub mod Places
pub mod Filled
pub mod Removing

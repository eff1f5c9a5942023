mod Names
pub mod Places
mod Walks
pub mod StampLaws

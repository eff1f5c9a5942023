pub mod Outcome
pub mod Plan
pub mod Progress

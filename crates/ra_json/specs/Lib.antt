pub mod Objects
pub mod Verdicts
pub mod Surveys
pub mod Settled

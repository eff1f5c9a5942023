pub mod Lines
pub mod Contents
pub mod Book
pub mod Calls
pub mod Outcome
pub mod File
pub mod Handle
pub mod Opening

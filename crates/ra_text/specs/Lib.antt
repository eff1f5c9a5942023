pub mod Lines
pub mod Drafting
pub mod Input
pub mod DrawnPart

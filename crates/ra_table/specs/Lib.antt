pub mod Table
pub mod Refusals
pub mod Laws
pub mod Idle
pub mod Answers
pub mod NameTables

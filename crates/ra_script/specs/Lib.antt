pub mod Faults
pub mod Document
pub mod Operation
pub mod ScriptText
pub mod Meaning
pub mod Performed
pub mod Finding
pub mod Printing

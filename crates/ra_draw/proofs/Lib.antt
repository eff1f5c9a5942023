pub mod DrawingLemmas
pub mod Additions
pub mod FirstLines
pub mod LinesLeft
pub mod Verdicts

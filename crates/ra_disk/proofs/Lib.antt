pub mod LineLemmas
pub mod BookLemmas

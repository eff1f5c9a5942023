pub mod Drafts
mod Pieces
mod Written

pub mod Link
pub mod Pair
pub mod Progress
pub mod PutBack

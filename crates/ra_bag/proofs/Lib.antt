pub mod Emptied
pub mod Taken
pub mod Numbers
pub mod Told
pub mod Counts
mod Calls
mod Results

pub mod Allowed
pub mod Moves
pub mod Apart
pub mod Sound
pub mod Conflicts
pub mod Runs
pub mod Counts
pub mod History
pub mod Next
pub mod Numbers
pub mod Written
pub mod Joined
pub mod Kept
pub mod Checked
mod Idle
mod Refused
mod Places

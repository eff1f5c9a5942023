pub mod Apart
mod Ranges
mod NodeSetLemmas
mod Tables
pub mod Opening
mod Sent
pub mod Consistent
pub mod Ending
pub mod Refusals
mod DeferredLemmas

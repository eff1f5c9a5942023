pub mod Lookups
pub mod HandOverStep
pub mod Uses
pub mod Named
pub mod Opening
pub mod Sends
pub mod Distinct
pub mod Known
pub mod Endings
pub mod LeaveEndings
pub mod CancelEndings
pub mod Kept
pub mod Leading
pub mod Room
pub mod NodeLemmas
pub mod Updates
pub mod EventLemmas
pub mod EventsKept
pub mod After
mod Totals
pub mod Forgetting
mod Forgot
pub mod Counts
mod Refusals
pub mod Determined
pub mod Possible
pub mod Bringing
pub mod Receiving
pub mod Chains
pub mod Overview

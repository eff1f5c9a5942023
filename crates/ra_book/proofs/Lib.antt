pub mod Clocks
pub mod Histories
mod Kept
mod Running
mod Endings
mod Adding
mod Accepting
mod EventChecked
mod TimedTaking
mod TimedHistories
mod Losing
mod Ascending
mod FrameSearch
mod KeyOrders
mod Parts
mod KeySets
mod GrantMarks
mod Received
mod WasSent
mod LostSteps
mod Taking
pub mod Merging
mod NextEvents
pub mod Whole
pub mod Projections
pub mod NodeMarks
mod NodeSends
pub mod SettledNodes
mod SettledGrants
mod Clusters
pub mod SettledReport
pub mod Causes
pub mod Truth
mod Distinct
mod Unsent
mod Happened
mod Deliveries
mod LossesApart
mod SentApart
pub mod BooksFit
mod Copied
mod CopiesFit
pub mod CopiesBack
mod CopiesSettled
mod Departing
mod TakenEvents
mod KeptLaws
mod SettledOrders
mod PairedBooks
mod PairedApart
mod TakenAndSent
mod NotCome
mod FirstParts
mod CutBooks
mod BookEnds
mod SettlingLaws

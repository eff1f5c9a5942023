mod Deciding
pub mod Lists
mod OneMore
mod Dialogs
mod Members
mod Protocol
mod AutomatonSteps
mod Asking
mod Receiving
mod Exchanges
mod ExchangesAsking
mod ExchangesReceiving
mod Conduct
mod Tables
mod Marking
mod EventMarks
mod Uses
mod Cluster
mod WaitingCounts
mod Blocked
mod Balance
mod Rising
mod NobodyDeferred
pub mod Moves
mod Nodes
pub mod Reached
mod Steps
pub mod Runs
pub mod RequestCounts
pub mod GoingOn
pub mod Outcomes
mod MoveByMove
mod Numbered
mod Overtaking
mod Arriving
mod RequestsSent
mod Fairness
mod OneOvertakes
mod Requesting
mod Returning
mod GivingUp
pub mod QuietRuns
pub mod TableNodes
mod DifferentLists
mod DifferentDialogs
mod DifferentTurns
mod DifferentEvents
pub mod DifferentRuns
mod LogCounts
mod KeptRuns
mod Bringing
mod Queues
mod Causes
mod Reporting
mod StepTries
mod AtPlace
mod EventTries
mod StepAnswers
mod Worlds
pub mod Refusing
mod RunEnds
mod StateTexts
mod Elsewhere
pub mod Times
pub mod FittingRuns
pub mod WorldLaws

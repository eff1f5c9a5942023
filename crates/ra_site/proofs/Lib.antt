mod SiteNumbers
mod LostFrames
mod NoError
mod GivenGrants
mod Telling
mod NodeLaws
mod LetIn
mod StillWaiting
mod Waiters
mod EndedRequests
pub mod Refusing

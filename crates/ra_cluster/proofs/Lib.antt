mod Endings
mod Records
mod Planned
mod LockCounts
mod GoingOn

pub mod Audit
pub mod AuditKeeping
pub mod Matching

pub mod HostText
pub mod Fields
pub mod Wait
pub mod ClientText
pub mod ClientFields
pub mod StatusText
pub mod LineText
pub mod LineFields

pub mod Fits
pub mod Format
pub mod FrameText
pub mod Faults
pub mod Checked
pub mod Words

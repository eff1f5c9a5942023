pub mod Lines
pub mod Pictures
pub mod Drawing
pub mod PictureSteps
pub mod Following
pub mod Writing

pub mod Circles
pub mod Lasting
pub mod Order

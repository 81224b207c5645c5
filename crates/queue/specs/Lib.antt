pub mod Bounds
pub mod Queues
pub mod Rings
pub mod Spills
pub mod Overflows

pub mod Order
pub mod Timers
pub mod Bitmaps
pub mod Heaps
pub mod HeapViews

pub mod LowestOne
pub mod Firsts
pub mod Swapping
pub mod Sifting
pub mod Heaping

pub mod Codes
pub mod Table
pub mod Ranges
pub mod Format
pub mod Words
pub mod Laws
pub mod Examples

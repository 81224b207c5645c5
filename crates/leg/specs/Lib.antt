pub mod Codes
pub mod Places
pub mod Values
pub mod Views
pub mod Reactions
pub mod Tells
pub mod Slots

pub mod Messages
pub mod Reactions
pub mod Calls
pub mod Invokes
pub mod Replies
pub mod Timeouts
pub mod Told
pub mod Reacts

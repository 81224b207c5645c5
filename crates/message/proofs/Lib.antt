pub mod Every
pub mod Masks
pub mod Back
pub mod Outcomes
pub mod Accepted
pub mod Faults

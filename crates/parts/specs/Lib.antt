pub mod Body
pub mod Elements
pub mod Steps
pub mod Laws
pub mod Runs

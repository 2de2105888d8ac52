pub mod Rest
pub mod Leaves
pub mod Laws
pub mod Ends

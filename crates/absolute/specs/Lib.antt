pub mod Absolute
pub mod Leaves
pub mod Laws
pub mod Examples

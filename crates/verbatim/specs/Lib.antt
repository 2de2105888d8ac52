pub mod Verbatim
pub mod Leaves
pub mod Laws
pub mod Writing
pub mod Sharing
pub mod Examples

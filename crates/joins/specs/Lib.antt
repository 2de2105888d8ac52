pub mod Join
pub mod Leaves
pub mod Laws
pub mod Examples

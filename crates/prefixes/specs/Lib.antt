pub mod Prefix
pub mod Leaves
pub mod Laws
pub mod Examples
pub mod Cut

pub mod List
pub mod Leaves
pub mod Laws

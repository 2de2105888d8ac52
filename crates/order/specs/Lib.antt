pub mod Values
pub mod Order
pub mod Ordered
pub mod Leaves
pub mod Eights

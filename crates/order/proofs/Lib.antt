pub mod Ordered
pub mod HeadLaws
pub mod Laws
pub mod Steps

pub mod Reply
pub mod Outcome
pub mod Written
pub mod Laws

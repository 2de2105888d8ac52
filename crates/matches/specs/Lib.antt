pub mod Match
pub mod Strip
pub mod Leaves
pub mod Laws
pub mod StripLaws
pub mod EndLaws

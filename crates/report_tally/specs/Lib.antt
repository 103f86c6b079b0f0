pub mod Heads
pub mod Tallies
pub mod Tidy
pub mod Lasts
pub mod Fronts
pub mod HeadLaws

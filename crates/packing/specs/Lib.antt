pub mod Reachable
pub mod Packed
pub mod PackedLaws
pub mod Worked
pub mod Sizes

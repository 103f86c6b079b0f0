pub mod Utf8
pub mod Rising
pub mod Listed
pub mod Changed
pub mod LikelyKept
pub mod Sorted

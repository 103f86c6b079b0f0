pub mod Spelling
pub mod Classes
pub mod Reading
pub mod Source
pub mod Laws

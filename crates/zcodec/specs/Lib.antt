pub mod Record
pub mod Reading
pub mod Given
pub mod Worked

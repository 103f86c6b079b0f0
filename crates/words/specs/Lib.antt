pub mod CommandLine
pub mod Asking
pub mod Views
pub mod Worked

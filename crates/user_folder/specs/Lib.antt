pub mod Users
pub mod KeptLaws
pub mod Credentials
pub mod Worked

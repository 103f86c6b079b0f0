pub mod Everyone
pub mod Roles
pub mod Verdicts
pub mod Users
pub mod Laws
pub mod Worked

pub mod NewSite
pub mod Begun
pub mod SiteLaws
pub mod Worked

pub mod Trees
pub mod Views
pub mod ViewLaws
pub mod Tokens
pub mod Grammar
pub mod Reading
pub mod Refusals

pub mod Values
pub mod Expressions
pub mod Chains
pub mod StepLaws
pub mod UserLaws
pub mod Told

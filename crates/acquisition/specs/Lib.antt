pub mod Acquiring
pub mod Expressions
pub mod ExpressionLaws
pub mod Marks
pub mod HereLaws

pub mod RowSteps
pub mod Serial
pub mod Good
pub mod Proper
pub mod Running
pub mod Oracle
pub mod OracleCourses
pub mod Plain
pub mod WorkedReports
pub mod WrongReports
pub mod OneSchedule
pub mod Fronts
pub mod BadItems
pub mod BadLineLaws
pub mod Decided
pub mod Stamps
pub mod ReadOrBad
pub mod WorkedQueues
pub mod Unhindered
mod Counting
mod Replaying
mod WorkedPackReports
mod Sectioning

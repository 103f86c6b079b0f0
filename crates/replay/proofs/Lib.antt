pub mod PrintSteps
pub mod StepHalves
pub mod Flushing
pub mod WholeReport
pub mod BreakingOff
pub mod LineRefusals
pub mod InOrder
pub mod LostMarks
pub mod Giving
pub mod SecondWalking
pub mod DumpSteps
pub mod Closing
pub mod Handing
pub mod StepQueues
pub mod RestartSteps
pub mod Keeping
pub mod PackKeeping
pub mod PackItems
mod PackMaking
mod NoIdle
mod RunAlone
mod AloneReports
pub mod RestartMarks
pub mod Images
pub mod Reopening
pub mod ItemSteps
pub mod Endings
pub mod MadeAnew
pub mod OpenedRuns

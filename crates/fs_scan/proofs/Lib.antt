pub mod AheadRead
mod Behind
mod Scanning
pub mod Backwards
pub mod CopiedTexts
pub mod DataAt
pub mod DataPlaces
pub mod BacksJudged
pub mod KeptPlaces
pub mod Searching
pub mod OneByOne
pub mod RecordsRead
pub mod RisingPlaces
pub mod Stepping
pub mod StepsRead
pub mod WholeAt
pub mod Present
pub mod LastRows
pub mod Counting
pub mod BodiesRead
pub mod ValuesRead
pub mod Walking
pub mod TransactionsRead
pub mod Pacing
pub mod StepsPaced
pub mod ScanSteps

pub mod Store
pub mod History
pub mod Sound
pub mod Outcome
pub mod Apart
pub mod Shape
pub mod Examples
pub mod Runs

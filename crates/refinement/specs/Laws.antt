-- Laws of stores that represent a model, proved: nothing here has to be believed.
pub mod Tags
pub mod Reads
pub mod Kept
pub mod Counts
pub mod Slots
pub mod Stack
pub mod Words
pub mod Walks
pub mod Report
pub mod Fresh
pub mod Grow
pub mod Places
pub mod Allocate
pub mod Delete
pub mod Together
pub mod Refusals

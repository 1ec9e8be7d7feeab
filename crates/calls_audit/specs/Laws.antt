-- The audit's tests hold exactly if Sound does, proved.
pub mod State
pub mod Heap
pub mod Counts
pub mod Exact

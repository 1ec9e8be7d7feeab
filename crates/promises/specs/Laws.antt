-- What every call promises, proved: nothing here has to be believed.
pub mod Passed
pub mod Refused
pub mod Length
pub mod Heap
pub mod Sizes
pub mod Keeps

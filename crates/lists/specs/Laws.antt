-- Laws of the functions of Lists and Ticks, proved: nothing here has to be believed.
pub mod Tests
pub mod Sums
pub mod All
pub mod Finds
pub mod UpTo
pub mod Sets
pub mod Parts
pub mod Ticks
pub mod Zeroed
pub mod Kept
pub mod Every
pub mod Order
pub mod Chains

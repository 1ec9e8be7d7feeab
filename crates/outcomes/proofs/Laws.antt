-- Theorems on the outcomes, proved: nothing here has to be believed.
pub mod Decided
pub mod Examples
pub mod Cases
pub mod Steps
pub mod PageFor
pub mod Apart
pub mod Deleted
pub mod ApartCases
pub mod Sized
pub mod Bounded
pub mod Values
pub mod Begin
pub mod Tree
pub mod Pointers

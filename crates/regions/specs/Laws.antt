-- Laws of the functions of Regions, proved: nothing here has to be believed.
pub mod Entries
pub mod Climb
pub mod Counts
pub mod Named
pub mod Added
pub mod Removed
pub mod Tags
pub mod Steps
pub mod Recount
pub mod Cases

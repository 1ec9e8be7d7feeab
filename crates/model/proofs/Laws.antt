-- Laws of the reference model, proved: nothing here has to be believed.
pub mod Sessions
pub mod Passed
pub mod Regions
pub mod Climb
pub mod Slots
pub mod Grows
pub mod Removable
pub mod Deletes
pub mod Next
pub mod Counts
pub mod Moves
pub mod Paged
pub mod Cases

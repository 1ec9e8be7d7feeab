pub mod Model
pub mod Calls
pub mod Sessions
pub mod Further
pub mod Valid
pub mod Moves
pub mod Paged

pub mod Leavings

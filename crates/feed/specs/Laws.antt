-- Laws of what scripts do. Proved: nothing here has to be believed.
pub mod Cuts
pub mod Steps
pub mod Examples

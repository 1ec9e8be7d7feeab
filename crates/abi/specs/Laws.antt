-- Laws of lent memory. Proved: nothing here has to be believed.
pub mod Hosts
pub mod Examples

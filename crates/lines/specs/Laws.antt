-- Laws of printed lines, proved: nothing here has to be believed.
pub mod Adding
pub mod Lengths
pub mod Examples

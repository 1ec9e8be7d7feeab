-- Laws of texts and of what a script can ask, proved: nothing here has to be believed.
pub mod Text
pub mod Lengths
pub mod Examples

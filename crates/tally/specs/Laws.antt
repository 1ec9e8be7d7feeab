-- Laws of what is kept and what is printed. Proved: nothing here has to be believed.
pub mod Lengths

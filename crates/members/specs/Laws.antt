-- Laws, proved: nothing here has to be believed.
pub mod Cases

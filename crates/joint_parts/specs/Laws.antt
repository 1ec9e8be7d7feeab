-- Laws, proved: nothing here has to be believed. The definitions computed.
pub mod Cases

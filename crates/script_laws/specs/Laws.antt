-- The proofs. Nothing here has to be believed.
pub mod Cut
pub mod Once
pub mod Ran

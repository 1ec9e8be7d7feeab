pub mod Represents
pub mod Laws

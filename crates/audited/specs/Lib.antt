pub mod Rebuild
pub mod Laws

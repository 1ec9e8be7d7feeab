pub mod Scripted
pub mod Laws

pub mod Told
pub mod Demands
pub mod Later

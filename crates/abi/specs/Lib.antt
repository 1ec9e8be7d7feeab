pub mod Memory
pub mod Hosts
pub mod Laws

pub mod Lists
pub mod Ticks
pub mod Laws

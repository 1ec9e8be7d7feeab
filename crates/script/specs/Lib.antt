pub mod Script
pub mod Found
pub mod Laws

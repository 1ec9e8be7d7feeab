pub mod Text
pub mod Guide
pub mod Laws

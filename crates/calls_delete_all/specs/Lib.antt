pub mod DeleteAll
pub mod Laws

pub mod Joint
pub mod Laws

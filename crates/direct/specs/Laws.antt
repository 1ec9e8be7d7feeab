-- Laws of direct calls. Proved: nothing here has to be believed.
pub mod Direct
pub mod Examples

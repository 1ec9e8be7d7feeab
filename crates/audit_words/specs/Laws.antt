-- Laws of an object's words, proved.
pub mod Parts

-- What a history tells of a store that represents a model, proved: nothing here has to be believed.
pub mod Tells
pub mod Pointers
pub mod TellsPages

pub mod Delete

pub mod Heap

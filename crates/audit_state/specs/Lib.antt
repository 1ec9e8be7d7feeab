pub mod Fits

-- Laws that join the scanner's loops to the definitions, and lines that compute. Proved: nothing here has to be believed.
pub mod Words
pub mod Numbers
pub mod Lines
pub mod Examples

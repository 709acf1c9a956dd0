pub mod Eqv

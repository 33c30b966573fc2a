pub mod Obliging

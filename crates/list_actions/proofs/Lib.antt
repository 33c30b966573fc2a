pub mod Firsts
pub mod Late
pub mod Orders
pub mod ProducerLemmas

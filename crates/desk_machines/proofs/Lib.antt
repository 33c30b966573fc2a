pub mod AdderTotals
pub mod CounterTotals
pub mod Lendings
pub mod Exchanged
pub mod Slotted

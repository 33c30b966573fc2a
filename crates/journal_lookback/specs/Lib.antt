pub mod Lookback

-- What contracts cite of the executor that runs jobs side by side.
pub mod Pools

-- What is said of a policy that a first line opens, and of the core that is asked.
pub mod Opening
pub mod Standing

-- What contracts cite of the executor.
pub mod Calls
pub mod Jobs
pub mod Results
pub mod Answers

pub mod Courses
pub mod Found
pub mod Logged
pub mod Made
pub mod Makers

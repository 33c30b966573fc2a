-- What contracts say of rings.
pub mod Rings

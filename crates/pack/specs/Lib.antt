-- What contracts say of packed fields and of arrays that are filled.
pub mod Asked
pub mod Bits
pub mod Bytes
pub mod Fill

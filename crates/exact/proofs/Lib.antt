-- The laws of whole numbers, and what answers the needs of signed code.
pub mod Laws
pub mod Ring
pub mod Size
pub mod Signs
pub mod Linear
pub mod Order
pub mod Machine

-- A fixed sample of cases that the reference answers, proved of the definitions; written by tools/try-definitions.
pub mod Drawing
pub mod Sheet
pub mod Write
pub mod Pair
pub mod List
pub mod Desk
pub mod LimitDrawing
pub mod LimitReading
pub mod LimitList
pub mod LimitSheet
pub mod LimitDesk

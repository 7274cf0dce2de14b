-- What contracts on copied entries cite.
pub mod Rooms

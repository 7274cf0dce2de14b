-- What contracts on the desk's text cite beside the paper.
pub mod Written
pub mod Texts

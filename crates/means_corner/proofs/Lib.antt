-- What a corner angle means.
pub mod Signs
pub mod Small
pub mod Cone
pub mod Steps
pub mod Lead
pub mod Beside
pub mod Corner
pub mod Rays
pub mod Outer
pub mod Outside
pub mod Around
pub mod Only
pub mod Either
pub mod Views
pub mod Loops

-- The words of the theorems on sheets and face lists.
pub mod Sound
pub mod Sheets
pub mod FaceLists

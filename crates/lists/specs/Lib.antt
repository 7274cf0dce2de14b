-- What definitions say of lists, and what the code of a search answers.
pub mod Lists
pub mod Around
pub mod Found
pub mod After

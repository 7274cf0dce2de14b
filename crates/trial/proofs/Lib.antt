-- Laws behind the items of a book.
pub mod Book

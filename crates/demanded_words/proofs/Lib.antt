-- From what is told in words to the customer's demand.
pub mod Numbers
pub mod Demanding
pub mod Lists
pub mod Printed

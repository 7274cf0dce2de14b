-- What follows from the definitions of sheets and of lent drawings.
-- a lent drawing that passes 5, 8, 9 and 10
pub mod Lent
-- a sheet that passes 3 to 7, and one that passes 3 to 10
pub mod Shaped
pub mod Accepted
-- what is written one behind the other, and the writer's answer and room
pub mod Encoded
pub mod Written
pub mod Said

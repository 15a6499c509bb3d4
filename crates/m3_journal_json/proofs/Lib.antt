pub mod Strings
pub mod Values
pub mod Loop
pub mod Again
pub mod Whole
pub mod TextAgain

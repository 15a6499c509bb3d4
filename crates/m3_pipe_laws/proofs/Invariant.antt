pub mod Flights
pub mod Isolation
pub mod ReaderSide
pub mod Sides
pub mod WholePipe
pub mod WriterSide

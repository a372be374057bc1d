-- What writing does to the octets that wait.
pub mod Written

-- What `gather` does in one call, and what a chain of its calls does.
pub mod Gather
pub mod Fed

-- What a run leaves of its buffers.
pub mod Run

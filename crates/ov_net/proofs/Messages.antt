-- Every message can be traced to its broadcast.
pub mod Quiet
pub mod Holding
pub mod Passing
pub mod Tracing

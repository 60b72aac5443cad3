pub mod Arguments
pub mod GrowArguments

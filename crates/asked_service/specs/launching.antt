pub mod Told
pub mod OtherPrograms
pub mod Longer
pub mod Launched
pub mod Refusals
pub mod Starting
pub mod Settled

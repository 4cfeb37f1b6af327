pub mod Bits
pub mod Looking
pub mod Executing
pub mod MountCall
pub mod UmountCall
pub mod Found
pub mod Planning
pub mod There

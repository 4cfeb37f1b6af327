pub mod Order
pub mod Differing
pub mod Representing
pub mod Finding
pub mod word_sets
pub mod filter_paths
pub mod filter_lines
pub use Rattle.seccomp_compile.specs.bpf_code as bpf_code
pub use Rattle.seccomp_compile.specs.call_rules as call_rules

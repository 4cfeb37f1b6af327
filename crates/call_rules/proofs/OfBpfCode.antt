-- The lemmas of `bpf_code` that crates above take from here.
pub use Rattle.bpf_code.proofs.Chunks as Chunks
pub use Rattle.bpf_code.proofs.Endings as Endings
pub use Rattle.bpf_code.proofs.FirstFaults as FirstFaults
pub use Rattle.bpf_code.proofs.Refusals as Refusals
pub use Rattle.bpf_code.proofs.Runs as Runs
pub use Rattle.bpf_code.proofs.Stacks as Stacks
pub use Rattle.bpf_code.proofs.Tied as Tied

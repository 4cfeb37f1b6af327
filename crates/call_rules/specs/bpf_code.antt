-- The definitions of `bpf_code` that crates above take from here.
pub use Rattle.bpf_code.specs.Accepted as Accepted
pub use Rattle.bpf_code.specs.Codes as Codes
pub use Rattle.bpf_code.specs.Effects as Effects
pub use Rattle.bpf_code.specs.Meaning as Meaning
pub use Rattle.bpf_code.specs.Ops as Ops
pub use Rattle.bpf_code.specs.ProgramOf as ProgramOf
pub use Rattle.bpf_code.specs.Reading as Reading
pub use Rattle.bpf_code.specs.Refusing as Refusing
pub use Rattle.bpf_code.specs.Stack as Stack
pub use Rattle.bpf_code.specs.declared as declared

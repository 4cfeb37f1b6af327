-- The lemmas of `kernel_model` that crates above take from here.
pub use Rattle.kernel_model.proofs.Cases as Cases
pub use Rattle.kernel_model.proofs.Kernels as Kernels
pub use Rattle.kernel_model.proofs.Lists as Lists
pub use Rattle.kernel_model.proofs.MountsCall as MountsCall

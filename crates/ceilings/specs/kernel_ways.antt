-- The definitions of `kernel_ways` that crates above take from here.
pub use Rattle.kernel_ways.specs.Blindness as Blindness
pub use Rattle.kernel_ways.specs.Entering as Entering
pub use Rattle.kernel_ways.specs.Exposures as Exposures
pub use Rattle.kernel_ways.specs.Laws as Laws
pub use Rattle.kernel_ways.specs.Offers as Offers
pub use Rattle.kernel_ways.specs.Showing as Showing
pub use Rattle.kernel_ways.specs.Spared as Spared
pub use Rattle.kernel_ways.specs.Taking as Taking
pub use Rattle.kernel_ways.specs.Uncovering as Uncovering
pub use Rattle.kernel_ways.specs.Ways as Ways

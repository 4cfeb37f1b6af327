-- What is needed of a mount at which a row is found, mount(2).
use Rattle.std.specs.Prelude.{Bool}
use Rattle.kernel_laws.specs.kern_mounts.declared.step.Flags.{Flags}
use Rattle.kernel_laws.specs.Reach.{fits, runs_marked, runs_unmarked}
use Rattle.reach_paths.specs.declared.needs.Need.{Need}
use Rattle.reach_paths.specs.declared.needs.Need.TheVariants.{ForWish, Marked, Unmarked}

-- flags that allow what is wished; or flags with which programs run, and execve(2) looks at their marks, or does not
abbrev pub allows : Need → Flags → Bool
allows (ForWish wish) = fits wish
allows Marked = runs_marked
allows Unmarked = runs_unmarked

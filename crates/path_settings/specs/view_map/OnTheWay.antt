-- Places on the way to a path at which the same mentions decide.
use Rattle.std.specs.Prelude.{◌≡◌, true, List}
use Rattle.std.specs.List.{AllByRecursion}
use Rattle.abs_path.specs.Paths.{Path}
use Rattle.abs_path.specs.Prefix.{is_prefix}
use Rattle.path_settings.specs.declared.mentions.Mention.{Mention}

-- the place is the path or leads to it, and no kept mention lies between the two: each mention that leads to the path leads to
-- the place
pub record HasNoneBetween (kept : List Mention) (place path : Path) : Type 0 where
  pub leads : is_prefix place path ≡ true
  pub none_between : AllByRecursion (λ mention. is_prefix mention.path path ≡ true → is_prefix mention.path place ≡ true) kept

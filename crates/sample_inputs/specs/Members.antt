-- The members of a table of TOML, in byte order of their keys.
use Rattle.std.specs.Prelude.{ℕ, List}
use Rattle.std.specs.Cmp.Lexicographic.{slice_cmp}
use Rattle.std.specs.Ordering.{nat_cmp, match_ordering}
use Rattle.toml.specs.Data.{Data, Members, no_members, member}

-- the members with one more in its place; a key that is there has the new value
abbrev pub with_member : List ℕ → Data → Members → Members
with_member key value no_members = member key value no_members
with_member key value (member first other members) =
    match_ordering (slice_cmp nat_cmp key first) (member key value (member first other members)) (member first value members)
    (member first other (with_member key value members))

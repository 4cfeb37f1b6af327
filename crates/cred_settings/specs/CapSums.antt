-- systemd.exec(5), CapabilityBoundingSet= and AmbientCapabilities=, as a version of systemd reads them: line by line, by the sum of a
-- line, which is the set of the capabilities that it names. A set is unset, or lines have made it.
use Rattle.std.specs.Prelude.{ℕ, ◌==◌, ◌||◌, not, is_some, Bool, false, cond, Option, Some, None, List, fold, unwrap_or}
use Rattle.std.specs.Option.{option_map_or}
use Rattle.dropin_merge.specs.declared.unit_values.listed.Listed.{Listed}
use Rattle.site_table.specs.cap_sets.Sets.{none, all, union, minus}
use Rattle.cred_settings.specs.CapNames.{named_caps}

-- an unset set counts as all
abbrev pub counted : Option ℕ → ℕ
counted set = unwrap_or set all

-- the set is what it is without any line: unset, or the set that the key has by default
abbrev pub is_untouched : Option ℕ → Option ℕ → Bool
is_untouched None set = not (is_some set)
is_untouched (Some default) set = option_map_or (λ now. now == default) set false

-- an inverted line that begins anew gives all but its sum; if its sum is empty, it makes the set unset again
abbrev pub all_but : ℕ → Option ℕ
all_but sum = cond (sum == none) None (Some (minus all sum))

-- a plain line that begins anew gives its sum
abbrev pub anew : Bool → ℕ → Option ℕ
anew is_inverted sum = cond is_inverted (all_but sum) (Some sum)

-- any other line takes its sum off if it is inverted, and else adds it
abbrev pub changed : Bool → ℕ → ℕ → ℕ
changed is_inverted set sum = cond is_inverted (minus set sum) (union set sum)

-- a line begins anew if its sum is empty, or if the set is what it is without any line
abbrev pub with_sum : Option ℕ → Option ℕ → Bool → ℕ → Option ℕ
with_sum default set is_inverted sum =
    cond (sum == none || is_untouched default set) (anew is_inverted sum) (Some (changed is_inverted (counted set) sum))

-- an empty value counts as a plain line without names
abbrev pub with_value : Option ℕ → Option ℕ → Listed → Option ℕ
with_value default set one = with_sum default set one.line.is_inverted (named_caps one.line.words)

-- the set that these lines make from the default
abbrev pub summed : Option ℕ → List Listed → Option ℕ
summed default lines = fold (with_value default) default lines

-- systemd.exec(5), CapabilityBoundingSet= and AmbientCapabilities=: lines add to a set of capabilities or take off. The base profile looks
-- at the set that the lines before a line make.
use Rattle.std.specs.Prelude.{ℕ, ◌==◌, cond, Option, List, [], ◌∷◌, ◌++◌, flat_map, fold}
use Rattle.dropin_merge.specs.declared.resolved.Resolved.{Resolved}
use Rattle.dropin_merge.specs.declared.unit_values.value.FileNote.{FileNote}
use Rattle.dropin_merge.specs.declared.unit_values.lines.Line.{Line}
use Rattle.dropin_merge.specs.declared.unit_values.listed.Listed.{Listed}
use Rattle.dropin_merge.specs.unit_values.Listed.{is_reset, unit_listed, unit_listed_notes}
use Rattle.dropin_merge.specs.unit_names.Versions.{is_known}
use Rattle.dropin_merge.specs.unit_names.declared.version.Version.{Version}
use Rattle.site_table.specs.cap_sets.Sets.{none, all, union, minus}
use Rattle.cred_settings.specs.CapNames.{named_caps, word_notes}
use Rattle.cred_settings.specs.CapSums.{counted, summed}

-- a plain line replaces a set that equals its default, and is merged with any other set
abbrev pub with_plain : ℕ → ℕ → ℕ → ℕ
with_plain default set named = cond (set == default) named (union set named)

-- `~` alone gives all; an inverted line gives all but its names if the set equals its default, and takes its names off any other set
abbrev pub with_inverted : ℕ → ℕ → List (List ℕ) → ℕ
with_inverted default set [] = all
with_inverted default set (word ∷ words) = minus (cond (set == default) all set) (named_caps (word ∷ words))

abbrev pub with_line : ℕ → ℕ → Line → ℕ
with_line default set line = cond line.is_inverted (with_inverted default set line.words) (with_plain default set (named_caps line.words))

-- an empty value resets the set to the empty set
abbrev pub with_listed : ℕ → ℕ → Listed → ℕ
with_listed default set one = cond (is_reset one) none (with_line default set one.line)

-- the set that these lines make from the default
abbrev pub caps_by : ℕ → List Listed → ℕ
caps_by default lines = fold (with_listed default) default lines

-- each unknown name is noted
abbrev pub names_notes : Listed → List FileNote
names_notes one = flat_map (word_notes one.value) one.line.words

-- a version of systemd looks at the sums of the lines
abbrev pub caps_read : Option Version → Option ℕ → List Listed → ℕ
caps_read systemd default lines = cond (is_known systemd) (counted (summed default lines)) (caps_by (counted default) lines)

-- the set that the files of a unit give to such a key, which by default is unset or has this set
unfoldable pub unit_caps : Resolved → List ℕ → Option ℕ → ℕ
unit_caps unit key default = caps_read unit.systemd default (unit_listed unit key)

-- the notes name values that cannot be expanded, values that cannot be split, and then unknown names
unfoldable pub unit_caps_notes : Resolved → List ℕ → List FileNote
unit_caps_notes unit key = unit_listed_notes unit key ++ flat_map names_notes (unit_listed unit key)

-- The paths of one key alone, by the rule of lists (systemd.syntax(7)).
use Rattle.std.specs.Prelude.{cond, List, None, [], map, filter, flat_map, unwrap_or}
use Rattle.std.specs.List.{filter_map}
use Rattle.path_settings.specs.declared.dialect.Dialect.{Dialect}
use Rattle.path_settings.specs.declared.keys.PathKey.{PathKey}
use Rattle.path_settings.specs.declared.mentions.Mention.{Mention}
use Rattle.path_settings.specs.Keys.{is_named}
use Rattle.dropin_merge.specs.declared.resolved.Resolved.{Resolved}
use Rattle.dropin_merge.specs.unit_values.Assignments.{service_assignments}
use Rattle.dropin_merge.specs.declared.unit_values.value.Value.{Value}
use Rattle.dropin_merge.specs.unit_values.Values.{expanded_at, in_force}
use Rattle.dropin_merge.specs.unit_values.Words.{split}
use Rattle.mount_settings.specs.Assigned.{Assigned, is_key, dialect_of}
use Rattle.mount_settings.specs.Written.{mentions_in_word}

-- the values of one key, among all values that are assigned
abbrev pub values_to : PathKey → List Assigned → List Value
values_to key assigned = map (λ one. one.value) (filter (λ one. is_key one.key key) assigned)

-- the values that the files of a unit give to a key by any of its names
abbrev pub values_named : Resolved → PathKey → List Value
values_named unit key = filter_map
    (λ one. cond (is_named (dialect_of unit.systemd) one.1.key key) (expanded_at unit.systemd unit.name one) None) (service_assignments unit)

-- the mentions of the words of the values after the last empty one
abbrev pub listed_by : Dialect → PathKey → List Value → List Mention
listed_by dialect key values =
    flat_map (mentions_in_word dialect key) (flat_map (λ value. unwrap_or (split value.text) []) (in_force values))

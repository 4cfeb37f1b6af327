-- Keys outside of the model: a unit that asks for their effect is refused (systemd.exec(5), Paths, Capabilities, Sandboxing).
use Rattle.std.specs.Prelude.{ℕ, not, Bool, true, false, cond, Option, Some, None, List, [], ◌∷◌, find, unwrap_or}
use Rattle.std.specs.List.{filter_map}
use Rattle.std.specs.Option.{option_map}
use Rattle.std.specs.Str.{bytes_eq}
use Rattle.cred_settings.specs.text_forms.Booleans.{bool_value}
use Rattle.cred_settings.specs.unit_grammar.Before.{last_of}
use Rattle.cred_settings.specs.unit_grammar.declared.unit.Assignment.{Assignment}
use Rattle.cred_settings.specs.dropin_merge.declared.resolved.Resolved.{Resolved}
use Rattle.cred_settings.specs.dropin_merge.unit_values.Assignments.{service_assignments}
use Rattle.mount_settings.specs.Roots.{mentions_root}
use Rattle.mount_settings.specs.Written.{unit_written}
use Rattle.exec_settings.specs.Keys.{keys}
use Rattle.exec_settings.specs.declared.keys.Meaning.{Meaning}
use Rattle.exec_settings.specs.declared.keys.Meaning.TheVariants as means

-- an empty text and a false boolean do not ask for the effect of a key
abbrev pub is_false : Option Bool → Bool
is_false None = false
is_false (Some on) = not on

abbrev pub asks : List ℕ → Bool
asks [] = false
asks (byte ∷ text) = not (is_false (bool_value (byte ∷ text)))

-- an assignment to the key asks for its effect by its text as it is written
abbrev pub asked_by : List ℕ → Assignment → Option Bool
asked_by key assignment = cond (bytes_eq assignment.key key) (Some (asks assignment.value)) None

-- the last assignment of a key decides
abbrev pub is_asked : Resolved → List ℕ → Bool
is_asked unit key = unwrap_or (last_of (filter_map (λ one. asked_by key one.1) (service_assignments unit))) false

-- the unit uses a key of this meaning in a way that is outside of the model: a key that says which object is at a path says it of the
-- root, the program is relative, or the key is always outside
abbrev pub is_outside_by : Resolved → Bool → List ℕ → Meaning → Bool
is_outside_by unit relative key (means.Place name) = mentions_root (unit_written unit) name
is_outside_by unit relative key means.Command = relative
is_outside_by unit relative key means.Refused = is_asked unit key
is_outside_by unit relative key means.Credentials = false
is_outside_by unit relative key means.Filter = false
is_outside_by unit relative key means.Protection = false
is_outside_by unit relative key means.Path = false

abbrev pub is_outside : Resolved → Bool → List ℕ × Meaning → Bool
is_outside unit relative row = is_outside_by unit relative row.0 row.1

-- the first such key in byte order, by whether the program is relative
unfoldable pub outside_key : Resolved → Bool → Option (List ℕ)
outside_key unit relative = option_map (λ row. row.0) (find (is_outside unit relative) (keys unit.systemd))

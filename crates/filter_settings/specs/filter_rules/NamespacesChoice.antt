-- RestrictNamespaces=: what the rules do to calls of a name.
use Rattle.std.specs.Prelude.{ℕ, if◌then◌else◌, Option, None, Some, List, [], ◌∷◌, ◌++◌, map, codes}
use Rattle.std.specs.Option.{option_map}
use Rattle.std.specs.Str.{bytes_eq}
use Rattle.dropin_merge.specs.unit_names.declared.version.Version.{Version}
use Rattle.dropin_merge.specs.linux_numbers.Errnos.{enosys}
use Rattle.call_rules.specs.Tested.{Tested}
use Rattle.call_rules.specs.declared.actions.Action.TheVariants.{Errno}
use Rattle.filter_settings.specs.declared.filter_rules.choice.Choice.{Choice}
use Rattle.filter_settings.specs.linux_numbers.declared.namespaces.NamespaceType.{NamespaceType}
use Rattle.filter_settings.specs.declared.filter_rules.namespace_types.NamespaceTypes.{NamespaceTypes}
use Rattle.filter_settings.specs.linux_numbers.Namespaces.{flag_of}
use Rattle.filter_settings.specs.filter_rules.Namespaces.{forbidden_types, types_argument, clone_newtime}
use Rattle.filter_settings.specs.filter_rules.Choices.{always, bits, whole, refused_where}

-- setns(2) with type 0, which enters a namespace of any type
abbrev pub any_type_tests : List ℕ → List Tested
any_type_tests name = if bytes_eq name (codes "setns") then whole 1 0 ∷ [] else []

abbrev pub flag_test : ℕ → NamespaceType → Tested
flag_test at kind = bits at (flag_of kind)

abbrev pub namespace_tests : NamespaceTypes → List ℕ → ℕ → List Tested
namespace_tests types name at = any_type_tests name ++ map (flag_test at) (forbidden_types types)

abbrev pub namespaces_choice : NamespaceTypes → List ℕ → Option Choice
namespaces_choice types name = option_map (λ at. refused_where (namespace_tests types name at)) (types_argument name)

-- clone(2) with a new time namespace
abbrev pub time_tests : List ℕ → List Tested
time_tests name = if bytes_eq name (codes "clone") then bits 0 clone_newtime ∷ [] else []

-- by the rules of a version of systemd one more call has a rule, and clone(2) has one more test
abbrev pub namespaces_choice_in : Option Version → NamespaceTypes → List ℕ → Option Choice
namespaces_choice_in None types name = namespaces_choice types name
namespaces_choice_in (Some version) types name =
    if bytes_eq name (codes "clone3") then Some (always (Errno enosys))
    else option_map (λ at. refused_where (namespace_tests types name at ++ time_tests name)) (types_argument name)

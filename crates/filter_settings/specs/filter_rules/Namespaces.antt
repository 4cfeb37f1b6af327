-- systemd.exec(5), RestrictNamespaces=: the types of namespaces that the service may make and enter (namespaces(7)).
use Rattle.std.specs.Prelude.{ℕ, ◌==◌, ◌&&◌, ◌||◌, not, if◌then◌else◌, Bool, false, Option, Some, None, List, [], ◌∷◌, codes, filter}
use Rattle.std.specs.Option.{option_map_or}
use Rattle.std.specs.List.{list_any}
use Rattle.std.specs.Str.{bytes_eq}
use Rattle.dropin_merge.specs.unit_names.declared.version.Version.{Version}
use Rattle.dropin_merge.specs.linux_numbers.Errnos.{eperm, enosys}
use Rattle.call_rules.specs.bpf_code.declared.machine.CallData.{CallData}
use Rattle.call_rules.specs.declared.actions.Action.{Action}
use Rattle.call_rules.specs.declared.actions.Action.TheVariants.{Errno}
use Rattle.filter_settings.specs.linux_numbers.declared.namespaces.NamespaceType.{NamespaceType}
use Rattle.filter_settings.specs.declared.filter_rules.namespace_types.NamespaceTypes.{NamespaceTypes}
use Rattle.filter_settings.specs.filter_rules.NamespaceTypes.{all_types, permits}
use Rattle.filter_settings.specs.linux_numbers.Namespaces.{flag_of}
use Rattle.filter_settings.specs.filter_rules.Actions.{unless_refused, low, has_bits, is_one_of}

abbrev pub forbidden_types : NamespaceTypes → List NamespaceType
forbidden_types types = filter (λ kind. not (permits types kind)) all_types

-- the argument with the flags of unshare(2) and clone(2), or with the type of setns(2)
abbrev pub types_argument : List ℕ → Option ℕ
types_argument name =
    if is_one_of name (codes "unshare" ∷ codes "clone" ∷ []) then Some 0
    else if bytes_eq name (codes "setns") then Some 1
    else None

-- the flag of a type that is not permitted is set
abbrev pub has_forbidden : NamespaceTypes → ℕ → Bool
has_forbidden types flags = list_any (λ kind. has_bits flags (flag_of kind)) (forbidden_types types)

-- setns(2) enters a namespace of any type if its type is 0
abbrev pub enters_any : List ℕ → CallData → Bool
enters_any name input = bytes_eq name (codes "setns") && low input 1 == 0

abbrev pub refuses_namespace : NamespaceTypes → List ℕ → CallData → Bool
refuses_namespace types name input = enters_any name input || option_map_or (λ at. has_forbidden types (low input at))
    (types_argument name) false

-- CLONE_NEWTIME of clone(2)
abbrev pub clone_newtime : ℕ
clone_newtime = 0x80

-- by the rules of a version of systemd clone(2) may not make a time namespace (time_namespaces(7))
abbrev pub makes_time : List ℕ → CallData → Bool
makes_time name input = bytes_eq name (codes "clone") && has_bits (low input 0) clone_newtime

-- a version of systemd also answers clone3(2), whose flags are in memory, with ENOSYS
abbrev pub namespace_action : Option Version → NamespaceTypes → List ℕ → CallData → Action
namespace_action None types name input = unless_refused eperm (refuses_namespace types name input)
namespace_action (Some version) types name input =
    if bytes_eq name (codes "clone3") then Errno enosys
    else unless_refused eperm (refuses_namespace types name input || makes_time name input)

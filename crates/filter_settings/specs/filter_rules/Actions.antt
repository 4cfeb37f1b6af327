-- What a filter does to a call that is refused, and what it may look at (seccomp(2)).
use Rattle.std.specs.Prelude.{ℕ, ◌%◌, ◌^◌, ◌==◌, ◌&&◌, not, if◌then◌else◌, Bool, Option, None, Some, List, bit_and, slice_index}
use Rattle.std.specs.List.{list_any}
use Rattle.std.specs.Str.{bytes_eq}
use Rattle.dropin_merge.specs.unit_names.declared.version.Version.{Version}
use Rattle.call_rules.specs.bpf_code.declared.machine.CallData.{CallData}
use Rattle.call_rules.specs.Action.{is_wide}
use Rattle.call_rules.specs.declared.actions.Action.{Action}
use Rattle.call_rules.specs.declared.actions.Action.TheVariants.{Errno, Allow}

-- a refused call returns this error, and any other call is made
abbrev pub unless_refused : ℕ → Bool → Action
unless_refused number refused = if refused then Errno number else Allow

-- the low 32 bits of an argument; arguments are counted from 0. A filter sees no more in one load
abbrev pub low : CallData → ℕ → ℕ
low input at = slice_index input.args at % 2 ^ 32

-- an argument is one of the values of 32 bits that pass a test: by its low 32 bits, or with a version of systemd by all 64
abbrev pub meets : Option Version → CallData → ℕ → (ℕ → Bool) → Bool
meets None input at test = test (low input at)
meets (Some version) input at test = not (is_wide input at) && test (low input at)

-- all bits of the mask are set
abbrev pub has_bits : ℕ → ℕ → Bool
has_bits word mask = bit_and word mask == mask

abbrev pub is_one_of : List ℕ → List (List ℕ) → Bool
is_one_of name names = list_any (λ other. bytes_eq name other) names

-- MemoryDenyWriteExecute=: what the rules do to calls of a name.
use Rattle.std.specs.Prelude.{ℕ, if◌then◌else◌, Option, Some, None, List, [], ◌∷◌, codes}
use Rattle.std.specs.Str.{bytes_eq}
use Rattle.filter_settings.specs.declared.filter_rules.choice.Choice.{Choice}
use Rattle.filter_settings.specs.filter_rules.Actions.{is_one_of}
use Rattle.filter_settings.specs.filter_rules.Mapping.{prot_write_exec, prot_exec, shm_exec}
use Rattle.filter_settings.specs.filter_rules.Choices.{bits, refused_where}

-- the bits of argument 2 that are refused
abbrev pub refused_bits : List ℕ → Option ℕ
refused_bits name =
    if bytes_eq name (codes "mmap") then Some prot_write_exec
    else if is_one_of name (codes "mprotect" ∷ codes "pkey_mprotect" ∷ []) then Some prot_exec
    else if bytes_eq name (codes "shmat") then Some shm_exec
    else None

abbrev pub choice_of_bits : Option ℕ → Option Choice
choice_of_bits None = None
choice_of_bits (Some mask) = Some (refused_where (bits 2 mask ∷ []))

abbrev pub mapping_choice : List ℕ → Option Choice
mapping_choice name = choice_of_bits (refused_bits name)

-- The version of systemd that reads a unit. Without a version, the rules of the base profile apply.
use Rattle.std.specs.Prelude.{Bool, true, false, is_some, Option, Some, None}
use Rattle.unit_names.specs.declared.version.Version.{Version}
use Rattle.unit_names.specs.declared.version.Version.TheVariants.{V252, V257}

-- a version is known
abbrev pub is_known : Option Version → Bool
is_known version = is_some version

abbrev pub is_252 : Option Version → Bool
is_252 None = false
is_252 (Some V252) = true
is_252 (Some V257) = false

abbrev pub is_257 : Option Version → Bool
is_257 None = false
is_257 (Some V252) = false
is_257 (Some V257) = true

-- The version of systemd that a site has.
use Rattle.std.specs.Prelude.{ℕ, ℤ, codes, pos, negsuc, ◌==◌, cond, Option, Some, None, option_map}
use Rattle.toml.specs.Data.{Data}
use Rattle.toml_shapes.specs.Tree.{number_at}
use Rattle.unit_names.specs.declared.version.Version.{Version}
use Rattle.unit_names.specs.declared.version.Version.TheVariants.{V252, V257}

-- the rules of these versions are known
abbrev pub version_of : ℤ → Option Version
version_of (pos number) = cond (number == 252) (Some V252) (cond (number == 257) (Some V257) None)
version_of (negsuc number) = None

-- without a number there is no version, and a number must be one of the known versions
abbrev pub systemd_by : Option ℤ → Option (Option Version)
systemd_by None = Some None
systemd_by (Some number) = option_map Some (version_of number)

abbrev pub systemd_at : Data → Option (Option Version)
systemd_at site = systemd_by (number_at (codes "systemd") site)

-- Whether processes can set up rings on the site, io_uring(7).
use Rattle.std.specs.Prelude.{Bool, true, codes, unwrap_or}
use Rattle.toml.specs.Data.{Data}
use Rattle.toml_shapes.specs.Tree.{flag_at}

-- a missing key means that they can
abbrev pub rings_at : Data → Bool
rings_at site = unwrap_or (flag_at (codes "io_uring") site) true

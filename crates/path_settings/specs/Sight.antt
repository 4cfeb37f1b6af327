-- What a service sees at a path: an object, and how the service may use it.
use Rattle.std.specs.Prelude.{Bool}
use Rattle.path_settings.specs.view_map.Object.{Object}

pub record Sight : Type 0 where
  pub object : Object
  pub read_only : Bool
  pub no_exec : Bool
  pub no_suid : Bool

-- The written paths after one more value.
use Rattle.std.specs.Prelude.{◌==◌, not, cond, List, ◌++◌, length, filter, fold}
use Rattle.path_settings.specs.declared.keys.PathKey.{PathKey}
use Rattle.path_settings.specs.declared.dialect.Dialect.{Dialect}
use Rattle.mount_settings.specs.declared.written.WrittenPath.{WrittenPath}
use Rattle.mount_settings.specs.Assigned.{Assigned, is_key}
use Rattle.mount_settings.specs.Written.{gives}

-- the paths of the other keys
abbrev pub without_key : PathKey → List WrittenPath → List WrittenPath
without_key key paths = filter (λ path. not (is_key path.key key)) paths

abbrev pub with_value : Dialect → List WrittenPath → Assigned → List WrittenPath
with_value dialect paths one = cond (length one.value.text == 0) (without_key one.key paths) (paths ++ gives dialect one)

abbrev pub after : Dialect → List WrittenPath → List Assigned → List WrittenPath
after dialect paths values = fold (with_value dialect) paths values

-- The keys of site.toml: each has a name and a shape of its value, and is required or optional.
use Rattle.std.specs.Prelude.{codes, List, [], ◌∷◌}
use Rattle.toml_shapes.specs.Keys.{KnownKey}
use Rattle.toml_shapes.specs.declared.keys.Shape.TheVariants.{Text, Number, Flag, Texts, Numbers, Tables}
use Rattle.toml_shapes.specs.declared.keys.Need.TheVariants.{Must, May}

abbrev pub top_keys : List KnownKey
top_keys = (codes "dynamic_uid", Number, Must) ∷ (codes "user_namespaces", Number, May) ∷ (codes "systemd", Number, May) ∷
    (codes "io_uring", Flag, May) ∷ (codes "row", Tables, May) ∷ (codes "user", Tables, May) ∷ (codes "group", Tables, May) ∷ []

abbrev pub row_keys : List KnownKey
row_keys =
    (codes "path", Text, Must) ∷ (codes "kind", Text, Must) ∷ (codes "setuid", Number, May) ∷ (codes "setgid", Number, May) ∷
    (codes "caps", Texts, May) ∷ (codes "effective", Flag, May) ∷ []

abbrev pub user_keys : List KnownKey
user_keys = (codes "name", Text, Must) ∷ (codes "uid", Number, Must) ∷ (codes "gid", Number, Must) ∷ (codes "groups", Numbers, May) ∷ []

abbrev pub group_keys : List KnownKey
group_keys = (codes "name", Text, Must) ∷ (codes "gid", Number, Must) ∷ []

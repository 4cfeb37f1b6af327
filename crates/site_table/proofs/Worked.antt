-- These sites are computed from the definition.
use Rattle.std.proofs.Common.{◌≡◌, ℕ, List, [], ◌∷◌, codes, pos, map, refl}
use Rattle.std.specs.Prelude.{true}
use Rattle.toml.specs.Data.{Data, string, integer, boolean, array, table, Items, no_items, item, Members, no_members, member}
use Rattle.site_table.specs.declared.row.Row.{Row}
use Rattle.site_table.specs.declared.error.RowCause.TheVariants.{Key, Kind, Duplicate, NoParent}
use Rattle.site_table.specs.declared.error.SiteError.TheVariants.{Top, Row as BadRow}
use Rattle.site_table.specs.Reading.{faults_of, site_in}

-- a row of the file with these further keys, which are before `path` or after it in byte order
row : List ℕ → List ℕ → Members → Data
row path kind more = table (member (codes "kind") (string kind) (member (codes "path") (string path) more))

rows : Items → Data
rows items = table (member (codes "dynamic_uid") (integer (pos 61184)) (member (codes "row") (array items) no_members))

alone : faults_of (rows (item (row (codes "/a/b") (codes "dir") no_members) no_items)) ≡ BadRow 1 NoParent ∷ []
unfolding row rows
alone = refl

-- the parent may be a later row, and only its path and its kind matter
later : faults_of (rows (item (row (codes "/a/b") (codes "file") no_members)
    (item (row (codes "/a//") (codes "dir") (member (codes "x") (boolean true) no_members)) no_items))) ≡ BadRow 2 Key ∷ []
unfolding row rows
later = refl

-- each faulty row is reported by its first fault; the second row is a file and so no folder of the third
several : faults_of (rows
    (item (row (codes "/a") (codes "file") no_members)
    (item (row (codes "//a/.") (codes "dir") no_members) (item (row (codes "/b") (codes "link") no_members) no_items))))
    ≡ BadRow 2 Duplicate ∷ BadRow 3 Kind ∷ []
unfolding row rows
several = refl

-- the rows have `/proc` and `/`, and byte order puts `/a-b` before `/a/c`
in_byte_order : map (λ (r : Row). r.path)
    (site_in (rows (item (row (codes "/a/c") (codes "file") no_members)
    (item (row (codes "/a-b") (codes "exe") no_members) (item (row (codes "/a") (codes "dir") no_members) no_items))))).rows
    ≡ [] ∷ (codes "a" ∷ []) ∷ (codes "a-b" ∷ []) ∷ (codes "a" ∷ codes "c" ∷ []) ∷ (codes "proc" ∷ []) ∷ []
unfolding row rows
in_byte_order = refl

no_uid : faults_of (table (member (codes "row") (array no_items) no_members)) ≡ Top ∷ []
no_uid = refl

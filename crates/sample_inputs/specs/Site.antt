-- The site.toml of a sample, as the tree that its text is read as: sixteen folders of sixty-four files and executables each. The number
-- of the sample says which of them are executables.
use Rattle.std.specs.Prelude.{ℕ, zero, suc, ◌+◌, ◌*◌, ◌%◌, ◌==◌, pos, codes, List, [], ◌∷◌, ◌++◌, map, flat_map, cond}
use Rattle.std.specs.Fmt.{decimal}
use Rattle.toml.specs.Data.{Data, string, integer, array, table, Members, no_members, member}
use Rattle.toml.specs.View.{items_of}

-- the numbers from the first on, so many of them
abbrev pub numbers_from : ℕ → ℕ → List ℕ
numbers_from first zero = []
numbers_from first (suc count) = first ∷ numbers_from (first + 1) count

-- `dK`, the name of a folder, and `fJ`, the name of what lies in it
abbrev pub folder_name : ℕ → List ℕ
folder_name k = codes "d" ++ decimal k

abbrev pub object_name : ℕ → List ℕ
object_name j = codes "f" ++ decimal j

-- `/dK` and `/dK/fJ`
abbrev pub folder_path : ℕ → List ℕ
folder_path k = codes "/" ++ folder_name k

abbrev pub object_path : ℕ → ℕ → List ℕ
object_path k j = folder_path k ++ codes "/" ++ object_name j

-- a row of which the kind and the path are said, and one that is set-user-id
abbrev pub plain_row : List ℕ → List ℕ → Data
plain_row kind path = table (member (codes "kind") (string kind) (member (codes "path") (string path) no_members))

abbrev pub setuid_row : List ℕ → ℕ → Data
setuid_row path owner = table
    (member (codes "kind") (string (codes "exe"))
    (member (codes "path") (string path) (member (codes "setuid") (integer (pos owner)) no_members)))

abbrev pub dir_row : List ℕ → Data
dir_row path = plain_row (codes "dir") path

abbrev pub exe_row : List ℕ → Data
exe_row path = plain_row (codes "exe") path

abbrev pub file_row : List ℕ → Data
file_row path = plain_row (codes "file") path

-- by its number: each third object is an executable, each twenty-fourth is one that is root's and set-user-id, and the others are files
abbrev pub numbered_row : ℕ → List ℕ → Data
numbered_row i path =
    cond (i % 24 == 0) (setuid_row path 0)
    (cond (i % 3 == 0) (exe_row path) (file_row path))

-- the objects of all folders are numbered one after the other, from the number of the sample on
abbrev pub object_row : ℕ → ℕ → ℕ → Data
object_row n k j = numbered_row (64 * k + j + n) (object_path k j)

-- a folder and what lies in it
abbrev pub folder_rows : ℕ → ℕ → List Data
folder_rows n k = dir_row (folder_path k) ∷ map (object_row n k) (numbers_from 0 64)

-- the program of the unit and its folders, and the sixteen folders
unfoldable pub site_rows : ℕ → List Data
site_rows n =
    dir_row (codes "/usr") ∷ dir_row (codes "/usr/bin") ∷ exe_row (codes "/usr/bin/app") ∷
    flat_map (folder_rows n) (numbers_from 0 16)

abbrev pub user_row : List ℕ → ℕ → Data
user_row name id = table (member (codes "gid") (integer (pos id))
    (member (codes "name") (string name) (member (codes "uid") (integer (pos id)) no_members)))

abbrev pub group_row : List ℕ → ℕ → Data
group_row name id = table (member (codes "gid") (integer (pos id)) (member (codes "name") (string name) no_members))

abbrev pub site_users : List Data
site_users = user_row (codes "root") 0 ∷ user_row (codes "app") 100 ∷ []

abbrev pub site_groups : List Data
site_groups = group_row (codes "root") 0 ∷ group_row (codes "app") 100 ∷ []

-- the keys in byte order
abbrev pub site_tree : ℕ → Members
site_tree n =
    member (codes "dynamic_uid") (integer (pos 61184))
    (member (codes "group") (array (items_of site_groups))
    (member (codes "row") (array (items_of (site_rows n)))
    (member (codes "user") (array (items_of site_users)) no_members)))

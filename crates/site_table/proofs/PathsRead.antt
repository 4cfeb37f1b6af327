-- The paths of rows are normal and short, and their folders are normal.
use Rattle.std.proofs.Common.{◌≡◌, ℕ, Bool, true, false, cond, List, [], ◌∷◌, length, take, suc, zero, Option, Some, None, refl, sym, ap}
use Rattle.std.proofs.Common.{◌∙◌}
use Rattle.std.specs.Prelude.{◌&&◌, is_none, nat_lt, nat_le, nat_eq, codes, option_and_then}
use Rattle.std.specs.List.{list_any, starts_with}
use Rattle.std.specs.Str.{bytes_eq}
use Rattle.std.proofs.lemmas.Bool.{and_parts, and_from}
use Rattle.toml.specs.Data.{Data}
use Rattle.abs_path.specs.Paths.{Path, text_of, parts_of, pieces_of, is_part, is_normal}
use Rattle.abs_path.specs.Read.{fault_of}
use Rattle.abs_path.proofs.Reading.{reads_normal}
use Rattle.abs_path.specs.declared.error.PathError.TheVariants.{TooLong, HasNul, Relative, DotDot}
use Rattle.site_table.specs.Paths.{short_path, parent_of}
use Rattle.site_table.specs.Rows.{path_of}
use Rattle.toml_shapes.specs.Tree.{text_at}

-- a text without fault is a normal path
faultless_normal : (text : List ℕ) → is_none (fault_of text) ≡ true → is_normal (parts_of text) ≡ true
faultless_normal text h =
    by (nat_lt 512 (length text)) (list_any (λ byte. nat_eq byte 0) text) (starts_with nat_eq text (codes "/"))
    (list_any (λ piece. bytes_eq piece (codes "..")) (pieces_of text)) refl refl h
  where
    by : (long nul rooted climbs : Bool) → list_any (λ byte. nat_eq byte 0) text ≡ nul
        → list_any (λ piece. bytes_eq piece (codes "..")) (pieces_of text) ≡ climbs
        → is_none (cond long (Some TooLong) (cond nul (Some HasNul) (cond rooted (cond climbs (Some DotDot) None) (Some Relative))))
        ≡ true → is_normal (parts_of text) ≡ true
    by true nul rooted climbs e f h = cc
    by false true rooted climbs e f h = cc
    by false false false climbs e f h = cc
    by false false true true e f h = cc
    by false false true false e f h = reads_normal text e f

short_path_is : (text : List ℕ) (path : Path) → short_path text ≡ Some path
    → (is_normal path ≡ true) × (nat_le (length (text_of path)) 250 ≡ true)
short_path_is text path h = by (is_none (fault_of text) && nat_le (length (text_of (parts_of text))) 250) refl h
  where
    by : (b : Bool) → (is_none (fault_of text) && nat_le (length (text_of (parts_of text))) 250) ≡ b
        → cond b (Some (parts_of text)) None ≡ Some path → (is_normal path ≡ true) × (nat_le (length (text_of path)) 250 ≡ true)
    by true e f =
        let same : parts_of text ≡ path = cc in
        let both = and_parts (is_none (fault_of text)) (nat_le (length (text_of (parts_of text))) 250) e in
        (ap is_normal (sym same) ∙ faultless_normal text both.0, ap (λ p. nat_le (length (text_of p)) 250) (sym same) ∙ both.1)
    by false e f = absurd (cc)

read_path_is : (text : Option (List ℕ)) (path : Path) → option_and_then short_path text ≡ Some path
    → (is_normal path ≡ true) × (nat_le (length (text_of path)) 250 ≡ true)
read_path_is None path h = absurd (cc)
read_path_is (Some text) path h = short_path_is text path h

-- the path of a row is normal, and short
pub path_is : (row : Data) (path : Path) → path_of row ≡ Some path → (is_normal path ≡ true) × (nat_le (length (text_of path)) 250 ≡ true)
path_is row path h = read_path_is (text_at (codes "path") row) path h

take_normal : (n : ℕ) (path : Path) → is_normal path ≡ true → is_normal (take n path) ≡ true
take_normal zero path h = refl
take_normal (suc n) [] h = refl
take_normal (suc n) (part ∷ path) h = let both = and_parts (is_part part) (is_normal path) h in and_from (is_part part) (is_normal (take n path)) both.0 (take_normal n path both.1)

pub parent_normal : (path parent : Path) → is_normal path ≡ true → parent_of path ≡ Some parent → is_normal parent ≡ true
parent_normal [] parent h e = absurd (cc)
parent_normal (part ∷ parts) parent h e = let same : take (length parts) (part ∷ parts) ≡ parent = cc in ap is_normal (sym same) ∙ take_normal (length parts) (part ∷ parts) h

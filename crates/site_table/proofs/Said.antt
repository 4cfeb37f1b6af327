-- A row without a fault has these properties.
use Rattle.std.proofs.Common.{◌≡◌, ◌≢◌, ℕ, ◌≤◌, Bool, true, false, cond, List, [], ◌∷◌, drop, Option, Some, None, refl, sym, ap, ◌∙◌}
use Rattle.std.proofs.Common.{ℤ}
use Rattle.std.specs.Prelude.{◌||◌, ◌&&◌, not, codes, is_some, is_none, nat_le, fold, IsSome, option_and_then, unwrap_or, pos, negsuc}
use Rattle.std.specs.List.{filter_map, cons_option}
use Rattle.std.specs.Option.{option_map_or}
use Rattle.std.proofs.lemmas.Bool.{and_parts, or_parts, not-true, not-false, false≢true, leb-true, eq-eqb}
use Rattle.toml.specs.Data.{Data, get, as_integer, as_bool}
use Rattle.cap_sets.specs.Sets.{has as has_cap, none, union, single}
use Rattle.cap_sets.proofs.Members.{has_union, has_single, has_none}
use Rattle.site_table.specs.declared.kinds.RowKind.{RowKind}
use Rattle.site_table.specs.declared.kinds.RowKind.TheVariants.{Dir, File, Exe, Dev}
use Rattle.site_table.specs.declared.error.RowCause.TheVariants.{Key, Path as BadPath, Kind, Number, Caps, Both}
use Rattle.site_table.specs.Caps.{as_cap, are_caps, caps_of}
use Rattle.site_table.specs.Ids.{id_of, id_at, greatest_id}
use Rattle.toml_shapes.specs.Keys.{has_keys}
use Rattle.site_table.specs.Keys.{row_keys}
use Rattle.site_table.specs.Kinds.{is_dir, is_exe}
use Rattle.site_table.specs.Rows.{path_of, kind_of, cap_names, has, is_empty, has_exe_key, is_always_dir, may_be, has_wrong_kind}
use Rattle.site_table.specs.Rows.{has_wrong_number, has_wrong_caps, has_both, own_causes, first_of, row_of}
use Rattle.site_table.specs.Table.{IsIdIfSome}
use Rattle.toml_shapes.specs.Tree.{number_at, flag_at, elements_at, elements_of}
use Rattle.site_table.proofs.Causes.{first_of-none}

-- no own fault of the row applies
pub record IsRight (row : Data) : Type 0 where
  pub path : is_none (path_of row) ≡ false
  pub kind : has_wrong_kind row ≡ false
  pub caps : has_wrong_caps row ≡ false
  pub both : has_both row ≡ false

pub is_right : (row : Data) → first_of (own_causes row) ≡ None → IsRight row
is_right row h =
    let keys = first_of-none (not (has_keys row_keys row)) Key (drop 1 (own_causes row)) h in
    let path = first_of-none (is_none (path_of row)) BadPath (drop 2 (own_causes row)) keys.1 in
    let kind = first_of-none (has_wrong_kind row) Kind (drop 3 (own_causes row)) path.1 in
    let number = first_of-none (has_wrong_number row) Number (drop 4 (own_causes row)) kind.1 in
    let caps = first_of-none (has_wrong_caps row) Caps (drop 5 (own_causes row)) number.1 in
    let both = first_of-none (has_both row) Both [] caps.1 in
    record { path = path.0; kind = kind.0; caps = caps.0; both = both.0 }

-- ---- ids

small_id : (number : ℤ) → IsIdIfSome (id_of number)
small_id (pos number) = by (nat_le number greatest_id) refl
  where
    by : (b : Bool) → nat_le number greatest_id ≡ b → IsIdIfSome (cond b (Some number) None)
    by true e = leb-true number greatest_id e
    by false e = tt
small_id (negsuc number) = tt

pub small_if_some : (number : Option ℤ) → IsIdIfSome (option_and_then id_of number)
small_if_some None = tt
small_if_some (Some number) = small_id number

-- an id that is read is in range
pub id_small : (key : List ℕ) (value : Data) → IsIdIfSome (id_at key value)
id_small key value = small_if_some (number_at key value)

pub unwrapped_small : (id : Option ℕ) → IsIdIfSome id → unwrap_or id 0 ≤ greatest_id
unwrapped_small None h = leb-true 0 greatest_id refl
unwrapped_small (Some number) h = h

-- ---- kinds

-- the kind of a row is the kind of the definition, and the row may have it
pub kind_is : (row : Data) → IsRight row → (kind_of row ≡ Some (row_of row).kind) × (may_be (row_of row).kind row ≡ true)
kind_is row right = by (kind_of row) (not-false (option_map_or (λ kind. may_be kind row) (kind_of row) false) right.kind)
  where
    by : (kind : Option RowKind) → option_map_or (λ kind. may_be kind row) kind false ≡ true
        → (kind ≡ Some (unwrap_or kind Dir)) × (may_be (unwrap_or kind Dir) row ≡ true)
    by None h = absurd (false≢true h)
    by (Some kind) h = (refl, h)

dir_if : (kind : RowKind) (always : Bool) → (is_dir kind || not always) ≡ true → always ≡ true → kind ≡ Dir
dir_if Dir always h e = refl
dir_if File true h e = absurd (false≢true h)
dir_if File false h e = absurd (false≢true e)
dir_if Exe true h e = absurd (false≢true h)
dir_if Exe false h e = absurd (false≢true e)
dir_if Dev true h e = absurd (false≢true h)
dir_if Dev false h e = absurd (false≢true e)

-- `/` and `/proc` are directories if they are listed
pub always_is_dir : (row : Data) → IsRight row → path_of row ≡ Some (row_of row).path → is_always_dir (row_of row).path ≡ true
    → (row_of row).kind ≡ Dir
always_is_dir row right here e =
    let said = kind_is row right in
    dir_if (row_of row).kind (option_map_or is_always_dir (path_of row) false)
    (and_parts (is_exe (row_of row).kind || not (has_exe_key row))
    (is_dir (row_of row).kind || not (option_map_or is_always_dir (path_of row) false)) said.1).1
    (ap (λ path. option_map_or is_always_dir path false) here ∙ e)

-- ---- the keys that only an executable has

pub none_from : {X : Type 0} (found : Option X) → is_some found ≡ false → found ≡ None
none_from None h = refl
none_from (Some x) h = absurd (false≢true (sym h))

pub absent_number : (key : List ℕ) (row : Data) → has key row ≡ false → id_at key row ≡ None
absent_number key row h = ap (λ found. option_and_then id_of (option_and_then as_integer found)) (none_from (get key row) h)

pub absent_flag : (key : List ℕ) (row : Data) → has key row ≡ false → flag_at key row ≡ None
absent_flag key row h = ap (λ found. option_and_then as_bool found) (none_from (get key row) h)

pub absent_names : (key : List ℕ) (row : Data) → has key row ≡ false → elements_at key row ≡ []
absent_names key row h = ap (λ found. option_map_or elements_of found []) (none_from (get key row) h)

no_exe_key : (kind : RowKind) (keys : Bool) → kind ≢ Exe → (is_exe kind || not keys) ≡ true → keys ≡ false
no_exe_key Dir keys h e = not-true keys e
no_exe_key File keys h e = not-true keys e
no_exe_key Exe keys h e = absurd (h refl)
no_exe_key Dev keys h e = not-true keys e

pub exe_alone : (row : Data) → IsRight row → (row_of row).kind ≢ Exe
    → ((row_of row).setuid ≡ None) × ((row_of row).setgid ≡ None) × ((row_of row).caps ≡ none) × ((row_of row).effective ≡ false)
exe_alone row right other =
    let said = kind_is row right in
    let absent = no_exe_key (row_of row).kind (has_exe_key row) other
    (and_parts (is_exe (row_of row).kind || not (has_exe_key row)) (is_dir (row_of row).kind || not (option_map_or is_always_dir (path_of row) false)) said.1).0 in
    let three = or_parts ((has (codes "setuid") row || has (codes "setgid") row) || has (codes "caps") row) (has (codes "effective") row) absent in
    let two = or_parts (has (codes "setuid") row || has (codes "setgid") row) (has (codes "caps") row) three.0 in
    let one = or_parts (has (codes "setuid") row) (has (codes "setgid") row) two.0 in (
      absent_number (codes "setuid") row one.0,
      absent_number (codes "setgid") row one.1,
      ap caps_of (absent_names (codes "caps") row two.1),
      ap (λ flag. unwrap_or flag false) (absent_flag (codes "effective") row three.1),
    )

-- ---- capabilities

present : {X : Type 0} (key : List ℕ) (row : Data) (read : Data → Option X) → IsSome (option_and_then read (get key row))
    → has key row ≡ true
present key row read h = by (get key row) h
  where
    by : (found : Option Data) → IsSome (option_and_then read found) → is_some found ≡ true
    by None h = absurd (false≢true h)
    by (Some value) h = refl

read_number : (found : Option Data) → IsSome (option_and_then id_of (option_and_then as_integer found)) → is_some found ≡ true
read_number None h = absurd (false≢true h)
read_number (Some value) h = refl

empty_is : (names : List Data) → is_empty names ≡ true → names ≡ []
empty_is [] h = refl
empty_is (name ∷ names) h = absurd (false≢true h)

-- a row with an owner's uid has no capabilities
pub owner_or_caps : (row : Data) → IsRight row → IsSome (row_of row).setuid → (row_of row).caps ≡ none
owner_or_caps row right owner =
    ap caps_of (empty_is (cap_names row)
    (by (has (codes "setuid") row) (is_empty (cap_names row)) (read_number (get (codes "setuid") row) owner) right.both))
  where
    by : (b c : Bool) → b ≡ true → (b && not c) ≡ false → c ≡ true
    by true true e h = refl
    by true false e h = absurd (false≢true (sym h))
    by false c e h = absurd (false≢true e)

-- a set keeps its members when others are added
stays : (set number : ℕ) (numbers : List ℕ) → has_cap set number ≡ true
    → has_cap (fold (λ set number. union set (single number)) set numbers) number ≡ true
stays set number [] h = h
stays set number (other ∷ numbers) h = stays (union set (single other)) number numbers
    (has_union set (single other) number ∙ ap (λ b. b || has_cap (single other) number) h)

some_cap : (value : Data) (values : List Data) → is_some (as_cap value) ≡ true → caps_of (value ∷ values) ≢ none
some_cap value values h = by (as_cap value) h
  where
    or_true : (b : Bool) → (b || true) ≡ true
    or_true true = refl
    or_true false = refl

    own : (number : ℕ) → has_cap (union none (single number)) number ≡ true
    own number =
        has_union none (single number) number ∙ ap (λ b. has_cap none number || b) (has_single number number ∙ eq-eqb number number refl)
        ∙ or_true (has_cap none number)

    by : (found : Option ℕ) → is_some found ≡ true → fold (λ set number. union set (single number)) none
        (cons_option found (filter_map as_cap values)) ≢ none
    by None h = absurd (false≢true h)
    by (Some number) h = λ e.
        false≢true (sym (has_none number) ∙ ap (λ set. has_cap set number) (sym e)
        ∙ stays (union none (single number)) number (filter_map as_cap values) (own number))

pub effective_caps : (row : Data) → IsRight row → (row_of row).effective ≡ true → (row_of row).caps ≢ none
effective_caps row right on = by (cap_names row) both.0 both.1
  where
    flagged : (flag : Option Data) → unwrap_or (option_and_then as_bool flag) false ≡ true → is_some flag ≡ true
    flagged None h = absurd (false≢true h)
    flagged (Some value) h = refl

    both : (are_caps (cap_names row) ≡ true) × (is_empty (cap_names row) ≡ false)
    both = apart (are_caps (cap_names row)) (has (codes "effective") row) (is_empty (cap_names row))
        (flagged (get (codes "effective") row) on) right.caps
      where
        apart : (a b c : Bool) → b ≡ true → (not a || (b && c)) ≡ false → (a ≡ true) × (c ≡ false)
        apart true true c e h = (refl, h)
        apart true false c e h = absurd (false≢true e)
        apart false b c e h = absurd (false≢true (sym h))

    by : (names : List Data) → are_caps names ≡ true → is_empty names ≡ false → caps_of names ≢ none
    by [] all some = absurd (false≢true (sym some))
    by (value ∷ values) all some = some_cap value values (and_parts (is_some (as_cap value)) (are_caps values) all).0

-- What a value that is put into a table leaves as its members.
use Rattle.std.proofs.Common.{◌≡◌, List, [], ◌∷◌, String, Global, Ordering, Less, Equal, Greater, string_bytes, refl, ◌∙◌}
use Rattle.std.specs.BTreeMap.{insert_entry}
use Rattle.std.specs.Ordering.{match_ordering}
use Rattle.std.specs.String.{string_cmp}
use Rattle.toml.specs.View.{view, members_view}
use Rattle.toml.specs.declared.value.Value.{Value}
use Rattle.toml.proofs.Views.{Entry}
use Rattle.sample_inputs.specs.Members.{with_member}

match_entries : (o : Ordering) (a b c : List Entry) → members_view (match_ordering o a b c)
    ≡ match_ordering o (members_view a) (members_view b) (members_view c)
match_entries Less a b c = refl
match_entries Equal a b c = refl
match_entries Greater a b c = refl

pub members_put : (entries : List Entry) (key : String Global) (value : Value)
    → members_view (insert_entry string_cmp entries key value) ≡ with_member (string_bytes key) (view value) (members_view entries)
members_put [] key value = refl
members_put (entry ∷ entries) key value = match_entries (string_cmp key entry.0) _ _ _ ∙ rw (members_put entries key value)

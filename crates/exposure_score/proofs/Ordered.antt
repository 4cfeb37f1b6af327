-- Members stand in byte order of their names: as a map holds them, and as a text is read.
use Rattle.std.proofs.Common.{◌≡◌, ℕ, Bool, true, false, cond, List, [], ◌∷◌, map, Some, None, Option, String, Global, Ordering, Less}
use Rattle.std.proofs.Common.{Equal, Greater, string_bytes, string_cmp, nat_cmp, refl, ap, ◌∙◌, subst}
use Rattle.std.specs.Prelude.{option_map, option_and_then}
use Rattle.std.specs.Cmp.Lexicographic.{slice_cmp}
use Rattle.std.specs.List.{AllByRecursion}
use Rattle.std.specs.List.Sorted.{IsStrictlySortedBy}
use Rattle.std.specs.Map.{keys_of}
use Rattle.std.specs.Ordering.{match_ordering, ordering_reverse}
use Rattle.std.specs.Str.{is_utf8}
use Rattle.std.proofs.lemmas.Cmp.{nat_list_cmp_total}
use Rattle.std.proofs.lemmas.Option.{option_and_then_some}
use Rattle.json.specs.Json as json
use Rattle.json.specs.Lex.{tokens}
use Rattle.serde_json.specs.Data.{Num, Data, null, boolean, number, string, array, object, Items, Members, no_members, member, put}
use Rattle.serde_json.specs.Find.{as_object}
use Rattle.serde_json.specs.Read.{number_of, of_json, of_items, of_members, read, max_depth}
use Rattle.exposure_score.specs.policy_file.Policy.{AreAscending}
use Rattle.exposure_score.specs.policy_file.Reading.{names_of, tree_of, object_of}
use Rattle.exposure_score.proofs.Accepted.{names}
use Rattle.exposure_score.proofs.Members.{Entry, member_at}

-- ---- as a map holds them

keys_above : (first : String Global) (entries : List Entry) → AllByRecursion (λ y. string_cmp first y ≡ Less) (keys_of entries)
    → AllByRecursion (λ y. slice_cmp nat_cmp (string_bytes first) y ≡ Less) (names (map member_at entries))
keys_above first [] h = tt
keys_above first (entry ∷ entries) h = (h.0, keys_above first entries h.1)

pub entries_ascend : (entries : List Entry) → IsStrictlySortedBy string_cmp (keys_of entries) → AreAscending (names (map member_at entries))
unfolding IsStrictlySortedBy
entries_ascend [] h = tt
entries_ascend (entry ∷ entries) h = (keys_above entry.0 entries h.0, entries_ascend entries h.1)

-- ---- as a text is read

abbrev pub Above : List ℕ → List ℕ → Type 0
Above name other = slice_cmp nat_cmp name other ≡ Less

pub above_through : (name other : List ℕ) (others : List (List ℕ)) → Above name other → AllByRecursion (Above other) others
    → AllByRecursion (Above name) others
above_through name other [] h all = tt
above_through name other (third ∷ others) h all =
    (nat_list_cmp_total.trans name other third h all.0, above_through name other others h all.1)

put_above_at : (o : Ordering) (name k l : List ℕ) (d e : Data) (members : Members) → Above name k
    → AllByRecursion (Above name) (names_of (member l e members))
    → AllByRecursion (Above name) (names_of (put k d members))
    → AllByRecursion (Above name)
    (names_of (match_ordering o (member k d (member l e members)) (member l d members) (member l e (put k d members))))
put_above_at Less name k l d e members h all more = (h, all)
put_above_at Equal name k l d e members h all more = all
put_above_at Greater name k l d e members h all more = (all.0, more)

put_above : (name k : List ℕ) (d : Data) (members : Members) → Above name k → AllByRecursion (Above name) (names_of members)
    → AllByRecursion (Above name) (names_of (put k d members))
put_above name k d no_members h all = (h, tt)
put_above name k d (member l e members) h all = put_above_at (slice_cmp nat_cmp k l) name k l d e members h all
    (put_above name k d members h all.1)

put_ascends_at : (o : Ordering) (k l : List ℕ) (d e : Data) (members : Members) → slice_cmp nat_cmp k l ≡ o
    → AreAscending (names_of (member l e members)) → AreAscending (names_of (put k d members))
    → AreAscending (names_of (match_ordering o (member k d (member l e members)) (member l d members) (member l e (put k d members))))
unfolding IsStrictlySortedBy
put_ascends_at Less k l d e members is up more = ((is, above_through k l (names_of members) is up.0), up)
put_ascends_at Equal k l d e members is up more = up
put_ascends_at Greater k l d e members is up more =
    let above : Above l k = nat_list_cmp_total.antisymm l k ∙ ap ordering_reverse is in
    (put_above l k d members above up.0, more)

pub tail_ascends : (l : List ℕ) (e : Data) (members : Members) → AreAscending (names_of (member l e members))
    → AreAscending (names_of members)
unfolding IsStrictlySortedBy
tail_ascends l e members up = up.1

one_ascends : (k : List ℕ) → AreAscending (k ∷ [])
unfolding IsStrictlySortedBy
one_ascends k = (tt, tt)

none_ascends : AreAscending []
unfolding IsStrictlySortedBy
none_ascends = tt

put_ascends : (k : List ℕ) (d : Data) (members : Members) → AreAscending (names_of members) → AreAscending (names_of (put k d members))
put_ascends k d no_members up = one_ascends k
put_ascends k d (member l e members) up =
    put_ascends_at (slice_cmp nat_cmp k l) k l d e members refl up (put_ascends k d members (tail_ascends l e members up))

members_ascend : (members : json.Members) (found result : Members) → AreAscending (names_of found)
    → of_members members found ≡ Some result → AreAscending (names_of result)
members_ascend json.no_members found result up e =
    let same : found ≡ result = cc in
    subst (λ (one : Members). AreAscending (names_of one)) same up
members_ascend (json.member k j members) found result up e =
    option_and_then_some (λ d. of_members members (put k d found)) (of_json j) result e
    (λ d is more. members_ascend members (put k d found) result (put_ascends k d found up) more)

number_is_none : (found : Option Num) (members : Members) → option_map number found ≡ Some (object members) → ⊥
number_is_none None members e = cc
number_is_none (Some n) members e = cc

array_is_none : (found : Option Items) (members : Members) → option_map array found ≡ Some (object members) → ⊥
array_is_none None members e = cc
array_is_none (Some items) members e = cc

object_is : (found : Option Members) (members : Members) → option_map object found ≡ Some (object members) → found ≡ Some members
object_is None members e = cc
object_is (Some one) members e = cc

json_ascends : (value : json.Json) (members : Members) → of_json value ≡ Some (object members) → AreAscending (names_of members)
json_ascends json.null members e = cc
json_ascends (json.boolean b) members e = cc
json_ascends (json.number s) members e = absurd (number_is_none (number_of s) members e)
json_ascends (json.string s) members e = cc
json_ascends (json.array items) members e = absurd (array_is_none (of_items items) members e)
json_ascends (json.object found) members e = members_ascend found no_members members none_ascends
    (object_is (of_members found no_members) members e)

tree_ascends : (tree : Data) (members : Members) → as_object tree ≡ Some members → tree ≡ object members
tree_ascends null members e = cc
tree_ascends (boolean b) members e = cc
tree_ascends (number n) members e = cc
tree_ascends (string s) members e = cc
tree_ascends (array items) members e = cc
tree_ascends (object found) members e = cc

read_of : (b : Bool) (bytes : List ℕ) (tree : Data) → cond b (read bytes) None ≡ Some tree → read bytes ≡ Some tree
read_of true bytes tree e = e
read_of false bytes tree e = cc

read_ascends : (bytes : List ℕ) (members : Members) → read bytes ≡ Some (object members) → AreAscending (names_of members)
read_ascends bytes members e =
    option_and_then_some of_json (option_and_then (λ p. json.if_last p.0 p.1) (json.value max_depth (tokens bytes))) (object members) e
    (λ value is said. json_ascends value members said)

-- the members of a text's object
pub text_ascends : (bytes : List ℕ) (members : Members) → object_of bytes ≡ Some members → AreAscending (names_of members)
text_ascends bytes members e =
    option_and_then_some as_object (tree_of bytes) members e
    (λ tree is found. read_ascends bytes members (read_of (is_utf8 bytes) bytes tree is ∙ ap Some (tree_ascends tree members found)))

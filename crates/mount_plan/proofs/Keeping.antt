-- The steps of the code together keep the mentions that the rules keep.
use Rattle.std.proofs.Common.{◌≡◌, ℕ, ◌+◌, ◌<◌, Bool, true, false, cond, List, [], ◌∷◌, ◌++◌, map, filter, find, length, get_or, drop}
use Rattle.std.proofs.Common.{Option, Some, None, option_map, Result, Ok, Err, refl, sym, ap, ◌∙◌, Bor}
use Rattle.std.specs.Prelude.{◌&&◌, ◌||◌, not}
use Rattle.std.specs.List.{list_all, list_any, filter_map, enumerate_from}
use Rattle.std.proofs.lemmas.Bool.{and_parts}
use Rattle.std.proofs.lemmas.List.{drop_more}
use Rattle.std.proofs.lemmas.List.Elements.{filter_map-append}
use Rattle.path_settings.specs.abs_path.Paths.{Path}
use Rattle.path_settings.specs.abs_path.Prefix.{is_prefix, is_same, is_below}
use Rattle.path_settings.specs.declared.mentions.Mention.{Mention}
use Rattle.path_settings.specs.Mentions.{is_origin}
use Rattle.path_settings.specs.view_map.View.{above, longest}
use Rattle.path_settings.specs.declared.view_map.rules.Beneath.{Beneath}
use Rattle.path_settings.specs.view_map.Kept.{Host, Refusal, missing, wrong_kind, is_kept, puts, refusal_of, refusals, unless_refused}
use Rattle.path_settings.specs.view_map.Kept.{kept_among, kept_at, goes_on, kept_from}
use Rattle.path_settings.proofs.ViewMapLists.{filter_is, all_weaker, all_trivial}
use Rattle.path_settings.proofs.Deciding.{longest_is}
use Rattle.mount_plan.specs.declared.error.PlanError.{PlanError}
use Rattle.mount_plan.specs.declared.error.PlanError.TheVariants.{Missing, Kind, Memory}
use Rattle.mount_plan.specs.declared.here.Part.{Part}
use Rattle.mount_plan.specs.declared.here.Part.TheVariants.{Origins, Flags}
use Rattle.mount_plan.specs.Here.{is_asked, fate_beside}
use Rattle.mount_plan.specs.Answers.{first_of, Refuses, AddsKept, Keeps}

-- a test of borrowed elements
pub any_lent : {X : Type 0} (test : X → Bool) (xs : List (Bor X)) → list_any (λ x. test x.now) xs ≡ list_any test (map (λ x. x.now) xs)
any_lent test [] = refl
any_lent test (x ∷ xs) = ap (λ b. test x.now || b) (any_lent test xs)

pub all_lent : {X : Type 0} (test : X → Bool) (xs : List (Bor X)) → list_all (λ x. test x.now) xs ≡ list_all test (map (λ x. x.now) xs)
all_lent test [] = refl
all_lent test (x ∷ xs) = ap (λ b. test x.now && b) (all_lent test xs)

find_lent : {X : Type 0} (test : X → Bool) (xs : List (Bor X))
    → option_map (λ x. x.now) (find (λ x. test x.now) xs) ≡ find test (map (λ x. x.now) xs)
find_lent test [] = refl
find_lent test (x ∷ xs) = by (test x.now) (find_lent test xs)
  where
    by : (b : Bool) → option_map (λ x. x.now) (find (λ x. test x.now) xs) ≡ find test (map (λ x. x.now) xs)
        → option_map (λ x. x.now) (cond b (Some x) (find (λ x. test x.now) xs)) ≡ cond b (Some x.now) (find test (map (λ x. x.now) xs))
    by true more = refl
    by false more = more

pub found_lent : {X : Type 0} (test : X → Bool) (xs : List (Bor X)) (r : Option (Bor X))
    → option_map (λ x. x) r ≡ find (λ x. test x.now) xs → option_map (λ x. x.now) r ≡ find test (map (λ x. x.now) xs)
found_lent {X = X} test xs r e = ap (option_map (λ x. x.now)) (itself r ∙ e) ∙ find_lent test xs
  where
    itself : (r : Option (Bor X)) → r ≡ option_map (λ x. x) r
    itself None = refl
    itself (Some x) = refl

-- the longest mention above a path leads to it
pub above_leads : (kept : List Mention) (path : Path) (one : ℕ × Mention) → longest is_origin (above path kept) ≡ Some one
    → is_prefix one.1.path path ≡ true
above_leads kept path one e = longest_is (λ found. is_prefix found.1.path path ≡ true) is_origin (above path kept) one
    (filter_is (λ found. is_below path found.1.path) (λ found. is_origin found.1.kind ≡ true → is_prefix found.1.path path ≡ true)
    (enumerate_from 0 kept)
    (all_weaker (λ found. Unit {0}) (λ found. is_below path found.1.path ≡ true → is_origin found.1.kind ≡ true
    → is_prefix found.1.path path ≡ true) (enumerate_from 0 kept)
    (λ found _ over says. (and_parts (is_prefix found.1.path path) (not (is_same found.1.path path)) over).0)
    (all_trivial (enumerate_from 0 kept)))) e

-- the refusals of one part of the mentions at a path
abbrev pub refusals_of : Host → Beneath → Bool → Part → List Mention → List Refusal
refusals_of row_at here put part mentions =
    filter_map (λ mention. refusal_of mention (fate_beside row_at here put mention))
    (filter (λ mention. is_asked part mention.kind) mentions)

-- the refusals of all mentions are the refusals of the two parts
both_parts : (row_at : Host) (here : Beneath) (mentions : List Mention) →
    refusals row_at here mentions ≡ refusals_of row_at here (list_any (puts row_at here) mentions) Origins mentions ++ refusals_of row_at
    here (list_any (puts row_at here) mentions) Flags mentions
both_parts row_at here mentions =
    filter_map-append (λ mention. refusal_of mention (fate_beside row_at here (list_any (puts row_at here) mentions) mention))
    (filter (λ mention. is_origin mention.kind) mentions) (filter (λ mention. not (is_origin mention.kind)) mentions)

first_part : (refused more : List Refusal) (refusal : Refusal) (found : List Mention) → first_of refused ≡ Some refusal
    → unless_refused (refused ++ more) found ≡ Err refusal
first_part [] more refusal found e = absurd (cc)
first_part (first ∷ refused) more refusal found e = let same : first ≡ refusal = cc in ap Err same

second_part : (none refused : List Refusal) (refusal : Refusal) (found : List Mention) → first_of none ≡ None
    → first_of refused ≡ Some refusal → unless_refused (none ++ refused) found ≡ Err refusal
second_part [] [] refusal found h e = absurd (cc)
second_part [] (first ∷ refused) refusal found h e = let same : first ≡ refusal = cc in ap Err same
second_part (first ∷ none) refused refusal found h e = absurd (cc)

no_part : (none refused : List Refusal) (found : List Mention) → first_of none ≡ None → first_of refused ≡ None
    → unless_refused (none ++ refused) found ≡ Ok found
no_part [] [] found h e = refl
no_part [] (first ∷ refused) found h e = absurd (cc)
no_part (first ∷ none) refused found h e = absurd (cc)

-- the kept mentions among the mentions at a path, by the refusals of the two parts
abbrev among_by : Host → Beneath → List Mention → Bool → Result (List Mention) Refusal
among_by row_at here mentions put =
    unless_refused (refusals_of row_at here put Origins mentions ++ refusals_of row_at here put Flags mentions)
    (filter (λ mention. is_kept (fate_beside row_at here put mention)) mentions)

among_is : (row_at : Host) (here : Beneath) (mentions : List Mention) (put : Bool) → put ≡ list_any (puts row_at here) mentions
    → kept_among row_at here mentions ≡ among_by row_at here mentions put
among_is row_at here mentions put e =
    ap (λ refused. unless_refused refused
    (filter (λ mention. is_kept (fate_beside row_at here (list_any (puts row_at here) mentions) mention)) mentions))
    (both_parts row_at here mentions)
    ∙ ap (among_by row_at here mentions) (sym e)

pub origin_refused : (row_at : Host) (here : Beneath) (mentions old : List Mention) (put : Bool) (error : PlanError)
    → put ≡ list_any (puts row_at here) mentions →
    Refuses (first_of (refusals_of row_at here put Origins mentions)) (Err error)
    → AddsKept (kept_among row_at here mentions) old old (Err error)
origin_refused row_at here mentions old put Memory same h = tt
origin_refused row_at here mentions old put (Missing path) same h = among_is row_at here mentions put same
    ∙ first_part (refusals_of row_at here put Origins mentions) (refusals_of row_at here put Flags mentions) (missing path) _ h
origin_refused row_at here mentions old put (Kind path) same h = among_is row_at here mentions put same
    ∙ first_part (refusals_of row_at here put Origins mentions) (refusals_of row_at here put Flags mentions) (wrong_kind path) _ h

pub flag_refused : (row_at : Host) (here : Beneath) (mentions old : List Mention) (put : Bool) (error : PlanError)
    → put ≡ list_any (puts row_at here) mentions →
    first_of (refusals_of row_at here put Origins mentions) ≡ None
    → Refuses (first_of (refusals_of row_at here put Flags mentions)) (Err error)
    → AddsKept (kept_among row_at here mentions) old old (Err error)
flag_refused row_at here mentions old put Memory same none h = tt
flag_refused row_at here mentions old put (Missing path) same none h = among_is row_at here mentions put same
    ∙ second_part (refusals_of row_at here put Origins mentions) (refusals_of row_at here put Flags mentions) (missing path) _ none h
flag_refused row_at here mentions old put (Kind path) same none h = among_is row_at here mentions put same
    ∙ second_part (refusals_of row_at here put Origins mentions) (refusals_of row_at here put Flags mentions) (wrong_kind path) _ none h

pub none_refused : (row_at : Host) (here : Beneath) (mentions old new : List Mention) (put : Bool)
    → put ≡ list_any (puts row_at here) mentions →
    first_of (refusals_of row_at here put Origins mentions) ≡ None → first_of (refusals_of row_at here put Flags mentions) ≡ None →
    new ≡ old ++ filter (λ mention. is_kept (fate_beside row_at here put mention)) mentions
    → (more : List Mention) × (kept_among row_at here mentions ≡ Ok more) × (new ≡ old ++ more)
none_refused row_at here mentions old new put same none neither e = (
  filter (λ mention. is_kept (fate_beside row_at here put mention)) mentions,
  among_is row_at here mentions put same ∙ no_part (refusals_of row_at here put Origins mentions)
      (refusals_of row_at here put Flags mentions) _ none neither,
  e,
)

pub from_refused : (row_at : Host) (mentions old new : List Mention) (path : Path) (paths : List Path) (error : PlanError)
    → AddsKept (kept_at row_at mentions old path) old new (Err error) → Keeps (kept_from row_at mentions (path ∷ paths) old) (Err error)
from_refused row_at mentions old new path paths Memory h = tt
from_refused row_at mentions old new path paths (Missing told) h =
    ap (λ r. goes_on r (λ more. kept_from row_at mentions paths (old ++ more))) h
from_refused row_at mentions old new path paths (Kind told) h =
    ap (λ r. goes_on r (λ more. kept_from row_at mentions paths (old ++ more))) h

pub from_goes : (row_at : Host) (mentions old new : List Mention) (path : Path) (paths : List Path)
    → (more : List Mention) × (kept_at row_at mentions old path ≡ Ok more) × (new ≡ old ++ more) →
    kept_from row_at mentions (path ∷ paths) old ≡ kept_from row_at mentions paths new
from_goes row_at mentions old new path paths h = ap (λ r. goes_on r (λ more. kept_from row_at mentions paths (old ++ more))) h.1
    ∙ ap (kept_from row_at mentions paths) (sym h.2)

pub drop_item : (paths : List Path) (i : ℕ) (path : Path) → i < length paths → path ≡ get_or paths i path
    → drop i paths ≡ path ∷ drop (i + 1) paths
drop_item paths i path lt e = drop_more paths i path lt ∙ ap (λ p. p ∷ drop (i + 1) paths) (sym e)

pub drop_lent : {X : Type 0} (xs : List (Bor X)) (i : ℕ) (x : Bor X) → i < length xs → x ≡ get_or xs i x
    → map (λ x. x.now) (drop i xs) ≡ x.now ∷ map (λ x. x.now) (drop (i + 1) xs)
drop_lent {X = X} xs i x lt e = ap (map (λ x. x.now)) (drop_more xs i x lt)
    ∙ ap (λ (first : Bor X). first.now ∷ map (λ x. x.now) (drop (i + 1) xs)) (sym e)

-- Properties of all kept mentions.
use Rattle.std.proofs.Common.{◌≡◌, Bool, true, false, List, [], ◌∷◌, ◌++◌, filter, map, Result, Ok, Err, refl, sym, ap, ◌∙◌, subst}
use Rattle.std.proofs.Common.{append-nil, append_assoc, inl, inr, arith}
use Rattle.std.specs.Prelude.{not, if◌then◌else◌}
use Rattle.std.specs.List.{AllByRecursion, Contains}
use Rattle.std.proofs.lemmas.Bool.{false≢true, false_from_ne_true, and_left, and_right}
use Rattle.std.proofs.lemmas.List.Elements.{filter_passes, recursion_from_All, All-from_recursion, All-contains, All-contains_itself}
use Rattle.std.proofs.lemmas.List.Elements.{Contains-append_right}
use Rattle.abs_path.specs.Paths.{Path, is_normal}
use Rattle.abs_path.specs.Prefix.{is_prefix, is_same, is_below}
use Rattle.abs_path.specs.ByteOrder.{is_before, in_byte_order, AreAscending}
use Rattle.abs_path.proofs.Prefixes.{same_path, same_itself}
use Rattle.abs_path.proofs.Placed.{in_byte_order_was, in_byte_order_ascending}
use Rattle.abs_path.proofs.ByteOrder.{prefix_before, not_before_itself, before_trans}
use Rattle.path_settings.specs.declared.mentions.Mention.{Mention}
use Rattle.path_settings.specs.Mentions.{is_origin}
use Rattle.path_settings.specs.view_map.View.{above, longest}
use Rattle.path_settings.specs.view_map.Object.{object_from}
use Rattle.path_settings.specs.declared.view_map.rules.Beneath.{Beneath}
use Rattle.path_settings.specs.view_map.Kept.{Host, Refusal, at_path, is_beaten, unbeaten_of, unbeaten, beneath_by, beneath_at, is_kept}
use Rattle.path_settings.specs.view_map.Kept.{fate_among, refusals, unless_refused, kept_among, kept_at, goes_on, kept_from, kept_of}
use Rattle.path_settings.specs.view_map.Kept.{KeepsByRules}
use Rattle.path_settings.specs.view_map.Asked.{place_of, beneath_place, beneath_places, asked_on, asked_from, asked_of}
use Rattle.path_settings.proofs.ViewMapLists.{all_weaker, all_mapped, mapped_all, all_filtered, all_appended, filter_was, filter_middle}
use Rattle.path_settings.proofs.ViewMapLists.{found_front}

unbeaten_of_is : (P : Mention → Type 0) (here later : List Mention) → AllByRecursion P later → AllByRecursion P (unbeaten_of here later)
unbeaten_of_is P here [] h = tt
unbeaten_of_is P here (mention ∷ later) h = by (is_beaten here later mention.kind) (unbeaten_of_is P here later h.1)
  where
    by : (b : Bool) → AllByRecursion P (unbeaten_of here later)
        → AllByRecursion P (if b then unbeaten_of here later else mention ∷ unbeaten_of here later)
    by true more = more
    by false more = (h.0, more)

unbeaten_is : (P : Mention → Type 0) (here : List Mention) → AllByRecursion P here → AllByRecursion P (unbeaten here)
unbeaten_is P here h = unbeaten_of_is P here here h

-- if the rules refuse nothing, the kept mentions at a path are the mentions with this fate
pub kept_among_Ok : (row_at : Host) (beneath : Beneath) (here more : List Mention) → kept_among row_at beneath here ≡ Ok more
    → filter (λ mention. is_kept (fate_among row_at beneath here mention)) here ≡ more
kept_among_Ok row_at beneath here more e = by (refusals row_at beneath here)
    (filter (λ mention. is_kept (fate_among row_at beneath here mention)) here) e
  where
    by : (refused : List Refusal) (found : List Mention) → unless_refused refused found ≡ Ok more → found ≡ more
    by [] found e = cc
    by (refusal ∷ refusals) found e = cc

kept_among_is : (P : Mention → Type 0) (row_at : Host) (beneath : Beneath) (here more : List Mention)
    → kept_among row_at beneath here ≡ Ok more → AllByRecursion P here → AllByRecursion P more
kept_among_is P row_at beneath here more e h =
    subst (AllByRecursion P) (kept_among_Ok row_at beneath here more e)
    (all_filtered P (λ mention. is_kept (fate_among row_at beneath here mention)) here h)

-- if the rules refuse nothing at a path, they keep each kept mention there
pub kept_at_Ok : (row_at : Host) (mentions kept : List Mention) (path : Path) (more : List Mention)
    → kept_at row_at mentions kept path ≡ Ok more →
    AllByRecursion (λ mention. is_kept (fate_among row_at (beneath_at row_at kept path) (unbeaten (at_path path mentions)) mention)
    ≡ true) more
kept_at_Ok row_at mentions kept path more e =
    let fates : Mention → Bool = λ mention. is_kept (fate_among row_at (beneath_at row_at kept path) (unbeaten (at_path path mentions)) mention) in
    subst (AllByRecursion (λ mention. fates mention ≡ true)) (kept_among_Ok row_at (beneath_at row_at kept path) _ more e)
    (recursion_from_All (λ mention. fates mention ≡ true) _ (filter_passes fates (unbeaten (at_path path mentions))))

kept_at_is : (P : Mention → Type 0) (row_at : Host) (mentions kept : List Mention) (path : Path) (more : List Mention)
    → kept_at row_at mentions kept path ≡ Ok more → AllByRecursion P (at_path path mentions) → AllByRecursion P more
kept_at_is P row_at mentions kept path more e h = kept_among_is P row_at (beneath_at row_at kept path) _ more e
    (unbeaten_is P (at_path path mentions) h)

-- going on from one path to the rest
pub goes_on_Ok : (r : Result (List Mention) Refusal) (go : List Mention → Result (List Mention) Refusal) (kept : List Mention)
    → goes_on r go ≡ Ok kept → (more : List Mention) × (r ≡ Ok more) × (go more ≡ Ok kept)
goes_on_Ok (Err refusal) go kept e = cc
goes_on_Ok (Ok more) go kept e = (more, refl, e)

-- if each mention, and each one kept before, has a property, so has each kept one
kept_from_is : (P : Mention → Type 0) (row_at : Host) (mentions : List Mention) (paths : List Path) (before kept : List Mention)
    → AllByRecursion P mentions → AllByRecursion P before →
    kept_from row_at mentions paths before ≡ Ok kept → AllByRecursion P kept
kept_from_is P row_at mentions [] before kept all h e = let same : before ≡ kept = cc in subst (AllByRecursion P) same h
kept_from_is P row_at mentions (path ∷ paths) before kept all h e =
    let step = goes_on_Ok (kept_at row_at mentions before path) (λ more. kept_from row_at mentions paths (before ++ more)) kept e in
    kept_from_is P row_at mentions paths (before ++ step.0) kept all
    (all_appended P before step.0 h
    (kept_at_is P row_at mentions before path step.0 step.1 (all_filtered P (λ mention. is_same mention.path path) mentions all)))
    step.2

-- if each mention has a property, so has each kept one: none is made up
pub kept_is : (P : Mention → Type 0) (row_at : Host) (mentions kept : List Mention) → AllByRecursion P mentions
    → kept_of row_at mentions ≡ Ok kept → AllByRecursion P kept
kept_is P row_at mentions kept all e = kept_from_is P row_at mentions _ [] kept all tt e

pub kept_among_mentions : (row_at : Host) (mentions kept : List Mention) → kept_of row_at mentions ≡ Ok kept
    → AllByRecursion (Contains mentions) kept
kept_among_mentions row_at mentions kept e = kept_is (Contains mentions) row_at mentions kept
    (recursion_from_All (Contains mentions) mentions (All-contains_itself mentions)) e

-- a path that comes later does not lead to an earlier one
later_leads_not : (path later : Path) → is_before path later ≡ true → is_prefix later path ≡ false
later_leads_not path later h = false_from_ne_true _ (λ leads. elim (prefix_before later path leads) [
  | inl same ↦ false≢true (sym (not_before_itself path) ∙ subst (λ (p : Path). is_before path p ≡ true) same h)
  | inr back ↦ false≢true (sym (not_before_itself path) ∙ before_trans path later path h back)
])

-- two paths of which one precedes the other are not the same
before_differs : (one other : Path) → is_before one other ≡ true → is_same one other ≡ false
before_differs one other h =
    false_from_ne_true _ (λ same. false≢true (sym (not_before_itself one)
    ∙ subst (λ (p : Path). is_before one p ≡ true) (sym (same_path one other same)) h))

differs_back : (path later : Path) → is_before path later ≡ true → is_same later path ≡ false
differs_back path later h =
    false_from_ne_true _ (λ same. false≢true (sym (not_before_itself path)
    ∙ subst (λ (p : Path). is_before path p ≡ true) (same_path later path same) h))

passes_at : (path : Path) (mentions : List Mention) → AllByRecursion (λ mention. is_same mention.path path ≡ true) (at_path path mentions)
passes_at path mentions = recursion_from_All (λ mention. is_same mention.path path ≡ true) _
    (filter_passes (λ mention. is_same mention.path path) mentions)

-- the kept mentions of these paths, if the rules look at all kept mentions
pub record Settles (row_at : Host) (mentions : List Mention) (paths : List Path) (before kept : List Mention) : Type 0 where
  pub later : List Mention
  pub whole : kept ≡ before ++ later
  pub inside : AllByRecursion (λ mention. Contains paths mention.path) later
  pub asked : asked_from row_at mentions paths before ≡ beneath_places kept paths
  pub rules : AllByRecursion (λ path. kept_at row_at mentions kept path ≡ Ok (at_path path kept)) paths

pub settles : (row_at : Host) (mentions : List Mention) (paths : List Path) (before kept : List Mention) → AreAscending paths
    → AllByRecursion (λ mention. AllByRecursion (λ path. is_before mention.path path ≡ true) paths) before →
    kept_from row_at mentions paths before ≡ Ok kept → Settles row_at mentions paths before kept
settles row_at mentions [] before kept up early e = record { later = []; whole = (let same : before ≡ kept = cc in sym same) ∙ sym (append-nil before); inside = tt; asked = refl; rules = tt }
settles row_at mentions (path ∷ paths) before kept up early e =
    let step = goes_on_Ok (kept_at row_at mentions before path) (λ more. kept_from row_at mentions paths (before ++ more)) kept e in
    let more : List Mention = step.0 in
    let here = kept_at_is (λ mention. is_same mention.path path ≡ true) row_at mentions before path more step.1 (passes_at path mentions) in
    let rest = settles row_at mentions paths (before ++ more) kept up.1 (earlier path paths before more up.0 early here) step.2 in
    let after = all_weaker (λ mention. Contains paths mention.path) (λ mention. is_before path mention.path ≡ true) rest.later
    (λ mention among. All-contains (λ other. is_before path other ≡ true) paths mention.path (All-from_recursion (λ other. is_before path other ≡ true) paths up.0) among) rest.inside in
    let above_same = ap (above path) rest.whole ∙ found_front (λ mention. is_below path mention.path) before more rest.later
    (all_weaker (λ mention. is_same mention.path path ≡ true) _ more
    (λ mention same. and_right (is_prefix mention.path path) _ (ap not same)) here)
    (all_weaker (λ mention. is_before path mention.path ≡ true) _ rest.later (λ mention late. and_left _ _ (later_leads_not path mention.path late)) after) in
    let at_same = ap (at_path path) rest.whole ∙ filter_middle (λ mention. is_same mention.path path) before more rest.later
    (all_weaker (λ mention. AllByRecursion (λ other. is_before mention.path other ≡ true) (path ∷ paths)) _ before
    (λ mention first. before_differs mention.path path first.0) early)
    here
    (all_weaker (λ mention. is_before path mention.path ≡ true) _ rest.later (λ mention late. differs_back path mention.path late) after) in
    record {
      later = more ++ rest.later;
      whole = rest.whole ∙ append_assoc before more rest.later;
      inside = all_appended (λ mention. Contains (path ∷ paths) mention.path) more rest.later
          (all_weaker (λ mention. is_same mention.path path ≡ true) _ more
          (λ mention same. (0, omega arith, sym (same_path mention.path path same))) here)
          (all_weaker (λ mention. Contains paths mention.path) _ rest.later
          (λ mention among. Contains-append_right (path ∷ []) paths mention.path among) rest.inside);
      asked = ap (λ (r : Result (List Mention) Refusal). beneath_place before path ++ asked_on r
          (λ more. asked_from row_at mentions paths (before ++ more))) step.1
          ∙ ap (λ (ps : List Path). beneath_place before path ++ ps) rest.asked
          ∙ ap (λ found. place_of (object_from (longest is_origin found) path) ++ beneath_places kept paths) (sym above_same);
      rules = (ap (λ found. kept_among row_at (beneath_by row_at (object_from (longest is_origin found) path)) (unbeaten (at_path path mentions))) above_same ∙ step.1 ∙ ap Ok (sym at_same), rest.rules);
    }
  where
    earlier : (path : Path) (paths : List Path) (before more : List Mention) → AllByRecursion (λ later. is_before path later ≡ true) paths →
        AllByRecursion (λ mention. AllByRecursion (λ other. is_before mention.path other ≡ true) (path ∷ paths)) before
        → AllByRecursion (λ mention. is_same mention.path path ≡ true) more →
        AllByRecursion (λ mention. AllByRecursion (λ other. is_before mention.path other ≡ true) paths) (before ++ more)
    earlier path paths before more up early here = all_appended
        (λ mention. AllByRecursion (λ other. is_before mention.path other ≡ true) paths) before more
        (all_weaker (λ mention. AllByRecursion (λ other. is_before mention.path other ≡ true) (path ∷ paths)) _ before
        (λ mention h. h.1) early)
        (all_weaker (λ mention. is_same mention.path path ≡ true) _ more
        (λ mention same. subst (λ (p : Path). AllByRecursion (λ other. is_before p other ≡ true) paths)
        (sym (same_path mention.path path same)) up) here)

-- the rules refuse nothing, and keep just the kept mentions, if they look at all kept mentions
pub keeps_by_rules : (row_at : Host) (mentions kept : List Mention) → AllByRecursion (λ mention. is_normal mention.path ≡ true) mentions
    → kept_of row_at mentions ≡ Ok kept → KeepsByRules row_at mentions kept
keeps_by_rules row_at mentions kept normal e = record {
  rules = mapped_all (λ mention. mention.path) (λ path. kept_at row_at mentions kept path ≡ Ok (at_path path kept)) mentions
      (in_byte_order_was (λ path. kept_at row_at mentions kept path ≡ Ok (at_path path kept)) (map (λ mention. mention.path) mentions)
      (all_mapped (λ mention. mention.path) (λ path. is_normal path ≡ true) mentions normal)
      (settles row_at mentions (in_byte_order (map (λ mention. mention.path) mentions)) [] kept
      (in_byte_order_ascending (map (λ mention. mention.path) mentions)) tt e).rules);
  among = kept_among_mentions row_at mentions kept e;
}

-- if the rules refuse nothing, they asked for the objects beneath by the kept mentions themselves
pub asks_beneath : (row_at : Host) (mentions kept : List Mention) → kept_of row_at mentions ≡ Ok kept
    → asked_of row_at mentions ≡ beneath_places kept (in_byte_order (map (λ mention. mention.path) mentions))
asks_beneath row_at mentions kept e =
    (settles row_at mentions (in_byte_order (map (λ mention. mention.path) mentions)) [] kept
    (in_byte_order_ascending (map (λ mention. mention.path) mentions)) tt e).asked

-- the rules keep each kept mention, by the kept mentions above it
pub each_kept : (row_at : Host) (mentions kept : List Mention) → KeepsByRules row_at mentions kept →
    AllByRecursion (λ mention. is_kept
    (fate_among row_at (beneath_at row_at kept mention.path) (unbeaten (at_path mention.path mentions)) mention) ≡ true) kept
each_kept row_at mentions kept keeps = all_weaker (Contains kept) _ kept here
    (recursion_from_All (Contains kept) kept (All-contains_itself kept))
  where
    here : (mention : Mention) → Contains kept mention → is_kept
        (fate_among row_at (beneath_at row_at kept mention.path) (unbeaten (at_path mention.path mentions)) mention) ≡ true
    here mention among =
        let rule = All-contains (λ other. kept_at row_at mentions kept other.path ≡ Ok (at_path other.path kept)) mentions mention
        (All-from_recursion (λ other. kept_at row_at mentions kept other.path ≡ Ok (at_path other.path kept)) mentions keeps.rules) (All-contains (Contains mentions) kept mention (All-from_recursion (Contains mentions) kept keeps.among) among) in
        let fine : Mention → Type 0 = λ other. is_kept (fate_among row_at (beneath_at row_at kept mention.path) (unbeaten (at_path mention.path mentions)) other) ≡ true in
        let all = filter_was (λ other. is_same other.path mention.path) fine kept (kept_at_Ok row_at mentions kept mention.path _ rule) in
        All-contains (λ other. is_same other.path mention.path ≡ true → fine other) kept mention
        (All-from_recursion (λ other. is_same other.path mention.path ≡ true → fine other) kept all) among (same_itself mention.path)

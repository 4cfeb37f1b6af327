-- The rules ask the host only at these paths.
use Rattle.std.proofs.Common.{◌≡◌, ◌∙◌, Bool, true, false, cond, List, [], ◌∷◌, ◌++◌, Option, Result, Ok, Err, refl, ap}
use Rattle.std.specs.Prelude.{◌||◌, ◌&&◌, not, map, filter}
use Rattle.std.specs.List.{AllByRecursion, list_any, filter_map, cons_option}
use Rattle.abs_path.specs.Paths.{Path}
use Rattle.abs_path.specs.Prefix.{is_same}
use Rattle.abs_path.specs.ByteOrder.{in_byte_order}
use Rattle.path_settings.specs.declared.mentions.Mention.{Mention}
use Rattle.path_settings.specs.Mentions.{is_origin, is_tmp, is_bind}
use Rattle.path_settings.specs.view_map.Asked.{place_of, beneath_place, asked_on, asked_from}
use Rattle.path_settings.specs.view_map.Kept.{Host, Refusal, at_path, unbeaten, unbeaten_of, is_beaten, beneath_row, beneath_by, beneath_at}
use Rattle.path_settings.specs.view_map.Kept.{source_row, is_kept, puts, fate_among, refusal_of, in_order_of_rules, refusals}
use Rattle.path_settings.specs.view_map.Kept.{unless_refused, kept_among, kept_at, goes_on, kept_from}
use Rattle.path_settings.specs.view_map.Object.{Object, on_host, empty, hidden, object_from}
use Rattle.path_settings.specs.view_map.Rules.{fate_of}
use Rattle.path_settings.specs.view_map.View.{above, longest}
use Rattle.path_settings.specs.declared.view_map.rules.Beneath.{Beneath}
use Rattle.path_settings.proofs.ViewMapLists.{all_weaker, all_filtered, all_appended, filter_agree_on}
use Rattle.path_settings.specs.view_map.Resting.{AreSame, KeptRestsOnWhatIsAsked}

pub all_parts : {X : Type 0} (P : X → Type 0) (xs ys : List X) → AllByRecursion P (xs ++ ys) → AllByRecursion P xs × AllByRecursion P ys
all_parts P [] ys all' = (tt, all')
all_parts P (x ∷ xs) ys all' = let more = all_parts P xs ys all'.1 in ((all'.0, more.0), more.1)

same_any : {X : Type 0} (p q : X → Bool) (xs : List X) → AllByRecursion (λ x. p x ≡ q x) xs → list_any p xs ≡ list_any q xs
same_any p q [] all' = refl
same_any p q (x ∷ xs) all' = ap (λ b. b || list_any p xs) all'.0 ∙ ap (λ b. q x || b) (same_any p q xs all'.1)

same_filter_map : {X Y : Type 0} (f g : X → Option Y) (xs : List X) → AllByRecursion (λ x. f x ≡ g x) xs → filter_map f xs ≡ filter_map g xs
same_filter_map f g [] all' = refl
same_filter_map f g (x ∷ xs) all' = ap (λ o. cons_option o (filter_map f xs)) all'.0
    ∙ ap (cons_option (g x)) (same_filter_map f g xs all'.1)

module _ (row_at other : Host) where
  abbrev HasSameSource : Mention → Type 0
  HasSameSource mention = source_row other mention.kind ≡ source_row row_at mention.kind

  beneath_same : (object : Object) → AreSame row_at other (place_of object) → beneath_by other object ≡ beneath_by row_at object
  beneath_same (on_host path) same = ap beneath_row same.0
  beneath_same empty same = refl
  beneath_same hidden same = refl

  pub beneath_at_same : (kept : List Mention) (path : Path) → AreSame row_at other (beneath_place kept path)
      → beneath_at other kept path ≡ beneath_at row_at kept path
  beneath_at_same kept path same = beneath_same (object_from (longest is_origin (above path kept)) path) same

  module _ (beneath : Beneath) where
    puts_same : (mention : Mention) → HasSameSource mention → puts other beneath mention ≡ puts row_at beneath mention
    puts_same mention same = ap
        (λ (s : Option Bool). (is_tmp mention.kind || is_bind mention.kind) && is_kept (fate_of s beneath true mention)) same

    any_puts : (here : List Mention) → AllByRecursion HasSameSource here
        → list_any (puts other beneath) here ≡ list_any (puts row_at beneath) here
    any_puts here sources = same_any (puts other beneath) (puts row_at beneath) here
        (all_weaker HasSameSource (λ mention. puts other beneath mention ≡ puts row_at beneath mention) here puts_same sources)

    abbrev HasSameFate : List Mention → Mention → Type 0
    HasSameFate here mention = fate_among other beneath here mention ≡ fate_among row_at beneath here mention

    fate_same : (here : List Mention) → AllByRecursion HasSameSource here → (mention : Mention) → HasSameSource mention
        → HasSameFate here mention
    fate_same here sources mention same =
        ap (λ (s : Option Bool). fate_of s beneath (list_any (puts other beneath) here) mention) same
        ∙ ap (λ b. fate_of (source_row row_at mention.kind) beneath b mention) (any_puts here sources)

    among_same : (here : List Mention) → AllByRecursion HasSameSource here → kept_among other beneath here ≡ kept_among row_at beneath here
    among_same here sources =
        let ordered : AllByRecursion HasSameSource (in_order_of_rules here) =
        all_appended HasSameSource _ _ (all_filtered HasSameSource (λ mention. is_origin mention.kind) here sources) (all_filtered HasSameSource (λ mention. not (is_origin mention.kind)) here sources) in
        let refused : refusals other beneath here ≡ refusals row_at beneath here =
        same_filter_map (λ mention. refusal_of mention (fate_among other beneath here mention))
        (λ mention. refusal_of mention (fate_among row_at beneath here mention)) (in_order_of_rules here)
        (all_weaker HasSameSource (λ mention. refusal_of mention (fate_among other beneath here mention) ≡ refusal_of mention (fate_among row_at beneath here mention)) (in_order_of_rules here) (λ mention s. ap (refusal_of mention) (fate_same here sources mention s)) ordered) in
        let kept : filter (λ mention. is_kept (fate_among other beneath here mention)) here ≡ filter (λ mention. is_kept (fate_among row_at beneath here mention)) here =
        filter_agree_on (λ mention. is_kept (fate_among other beneath here mention))
        (λ mention. is_kept (fate_among row_at beneath here mention)) here
        (all_weaker HasSameSource (λ mention. is_kept (fate_among other beneath here mention) ≡ is_kept (fate_among row_at beneath here mention)) here (λ mention s. ap is_kept (fate_same here sources mention s)) sources) in
        ap (λ (r : List Refusal). unless_refused r (filter (λ mention. is_kept (fate_among other beneath here mention)) here)) refused
        ∙ ap (unless_refused (refusals row_at beneath here)) kept

  unbeaten_sources : (here mentions : List Mention) → AllByRecursion HasSameSource mentions
      → AllByRecursion HasSameSource (unbeaten_of here mentions)
  unbeaten_sources here [] sources = tt
  unbeaten_sources here (mention ∷ later) sources = by (is_beaten here later mention.kind) (unbeaten_sources here later sources.1)
    where
      by : (b : Bool) → AllByRecursion HasSameSource (unbeaten_of here later)
          → AllByRecursion HasSameSource (cond b (unbeaten_of here later) (mention ∷ unbeaten_of here later))
      by true more = more
      by false more = (sources.0, more)

  kept_at_same : (mentions kept : List Mention) (path : Path) → AllByRecursion HasSameSource mentions
      → AreSame row_at other (beneath_place kept path) → kept_at other mentions kept path ≡ kept_at row_at mentions kept path
  kept_at_same mentions kept path sources same =
      ap (λ (b : Beneath). kept_among other b (unbeaten (at_path path mentions))) (beneath_at_same kept path same)
      ∙ among_same (beneath_at row_at kept path) (unbeaten (at_path path mentions))
      (unbeaten_sources (at_path path mentions) (at_path path mentions)
      (all_filtered HasSameSource (λ mention. is_same mention.path path) mentions sources))

  from_same : (mentions : List Mention) (paths : List Path) (kept : List Mention) → AllByRecursion HasSameSource mentions
      → AreSame row_at other (asked_from row_at mentions paths kept)
      → kept_from other mentions paths kept ≡ kept_from row_at mentions paths kept
  from_same mentions [] kept sources same = refl
  from_same mentions (path ∷ paths) kept sources same =
      let parts = all_parts (λ p. other p ≡ row_at p) (beneath_place kept path) (asked_on (kept_at row_at mentions kept path) (λ more. asked_from row_at mentions paths (kept ++ more))) same in
      ap (λ (r : Result (List Mention) Refusal). goes_on r (λ more. kept_from other mentions paths (kept ++ more)))
      (kept_at_same mentions kept path sources parts.0)
      ∙ by (kept_at row_at mentions kept path) parts.1 (λ more. from_same mentions paths (kept ++ more) sources)
    where
      by : (r : Result (List Mention) Refusal) → AreSame row_at other (asked_on r (λ more. asked_from row_at mentions paths (kept ++ more)))
          → ((more : List Mention) → AreSame row_at other (asked_from row_at mentions paths (kept ++ more))
          → kept_from other mentions paths (kept ++ more) ≡ kept_from row_at mentions paths (kept ++ more))
          → goes_on r (λ more. kept_from other mentions paths (kept ++ more))
          ≡ goes_on r (λ more. kept_from row_at mentions paths (kept ++ more))
      by (Err refusal) same on = refl
      by (Ok more) same on = on more same

pub kept_rests : KeptRestsOnWhatIsAsked
kept_rests row_at other mentions sources same = from_same row_at other mentions
    (in_byte_order (map (λ mention. mention.path) mentions)) [] sources same

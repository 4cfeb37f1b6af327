use Rattle.std.proofs.Common.{◌≡◌, ◌++◌, ◌∷◌, [], ◌+◌, take, map, sym, ap, ◌∙◌}
use Rattle.std.specs.Prelude.{flat_map}
use Rattle.std.specs.String.{string_bytes}
use Rattle.std.proofs.lemmas.List.{take_more, map-append, flat_map_more}
use Rattle.dropin_merge.specs.Places.{in_locations}
use Rattle.dropin_merge.proofs.places.dropin_places.Goals as goal

pub loop-folder-preserved : goal.loop-folder-preserved
loop-folder-preserved c =
    let folders = c.deref-folder-items.result.now in
    let i = c.loop-folder.folder-index in
    let folder = c.folder-item.result in
    let front = map string_bytes (take i folders) in
    let more : map string_bytes (take (i + 1) folders) ≡ front ++ string_bytes folder ∷ [] =
    ap (map string_bytes) (take_more folders i folder c.loop-folder-test.true) ∙ map-append string_bytes (take i folders) _ ∙ ap (λ f. front ++ string_bytes f ∷ []) (sym c.folder-item.is) in
    c.in_ok-push_locations.ensures ∙ ap (λ ps. ps ++ in_locations c.as_str.result.now) c.loop-folder.invariant
    ∙ ap (λ t. flat_map in_locations front ++ in_locations t) c.as_str.ensures.value
    ∙ flat_map_more in_locations [] front (string_bytes folder) ∙ ap (flat_map in_locations) (sym more)

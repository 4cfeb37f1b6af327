use Rattle.std.proofs.Common.{◌≡◌, List, [], ◌∷◌, Bor, Bool, ℕ, map, refl, ap, ◌∙◌}
use Rattle.std.specs.Prelude.{◌||◌}
use Rattle.std.specs.List.{list_any}
use Rattle.std.specs.Str.{bytes_eq}
use Rattle.path_settings.proofs.keys.PathKey.is_named.Goals as goal

any_now : (p : List ℕ → Bool) (names : List (Bor (List ℕ))) → list_any (λ name. p name.now) names ≡ list_any p (map (λ name. name.now) names)
any_now p [] = refl
any_now p (name ∷ names) = ap (λ rest. p name.now || rest) (any_now p names)

pub returns : goal.returns
returns c =
    c.is_among.ensures
    ∙ any_now (λ name. bytes_eq name c.args.text.now) c.names.result.now
    ∙ ap (list_any (λ name. bytes_eq name c.args.text.now)) c.names.ensures.all_names

-- Implied mentions are optional, and the site has rows at their paths.
use Rattle.std.proofs.Common.{◌≡◌, ℕ, Bool, true, false, cond, Option, Some, None, List, [], ◌∷◌, refl, ap, ◌∙◌}
use Rattle.std.specs.Prelude.{◌&&◌, filter, flat_map, unwrap_or}
use Rattle.std.specs.List.{list_all}
use Rattle.path_settings.specs.declared.dialect.Dialect.{Dialect}
use Rattle.path_settings.specs.declared.keys.PathKey.{PathKey}
use Rattle.mount_settings.specs.Assigned.{dialect_of}
use Rattle.path_settings.specs.declared.mentions.Mention.{Mention}
use Rattle.path_settings.specs.Keys.{is_implied}
use Rattle.path_settings.specs.FolderWords.{mentions_of_word}
use Rattle.path_settings.proofs.ReadFolders.{words_optional as all_optional}
use Rattle.dropin_merge.specs.declared.resolved.Resolved.{Resolved}
use Rattle.site_table.specs.Table.{Site}
use Rattle.mount_settings.specs.declared.protections.Protections.{Protections}
use Rattle.mount_settings.specs.declared.protections.Switches.{Switches}
use Rattle.mount_settings.specs.Written.{mentions_in_word, of_key, unit_written}
use Rattle.mount_settings.specs.Effects.{stands}
use Rattle.mount_settings.specs.Implied.{asked, implied}
use Rattle.mount_settings.proofs.EachMention.{of_implied, of_two}
use Rattle.mount_settings.proofs.KeyByKey.{words_in_force}

abbrev pub are_optional : List Mention → Bool
are_optional mentions = list_all (λ mention. mention.optional) mentions

words_optional : (dialect : Dialect) (key : PathKey) (words : List (List ℕ)) → is_implied key ≡ true
    → are_optional (flat_map (mentions_in_word dialect key) words) ≡ true
words_optional dialect key [] implies = refl
words_optional dialect key (word ∷ words) implies =
    of_two (λ mention. mention.optional) (mentions_in_word dialect key word) (flat_map (mentions_in_word dialect key) words)
    (word_optional (mentions_of_word dialect key word) (λ mentions e. all_optional dialect key word mentions implies e))
    (words_optional dialect key words implies)
  where
    word_optional : (o : Option (List Mention)) → ((mentions : List Mention) → o ≡ Some mentions → are_optional mentions ≡ true)
        → are_optional (unwrap_or o []) ≡ true
    word_optional None each = refl
    word_optional (Some mentions) each = each mentions refl

folders_optional : (unit : Resolved) (key : PathKey) → is_implied key ≡ true → are_optional (of_key key (unit_written unit)) ≡ true
folders_optional unit key implies = ap are_optional (words_in_force unit key) ∙ words_optional (dialect_of unit.systemd) key _ implies

pub implied_are_optional : (site : Site) (switches : Switches) (protections : Protections) (unit : Resolved)
    → are_optional (implied site switches protections (unit_written unit)) ≡ true
implied_are_optional site switches protections unit =
    of_implied (λ mention. mention.optional) refl site switches protections (unit_written unit) (folders_optional unit)

pub filter_all : (p : Mention → Bool) (xs : List Mention) → list_all p (filter p xs) ≡ true
filter_all p [] = refl
filter_all p (x ∷ xs) =
    let rest = filter_all p xs in
    (elim (p x) as (λ b. p x ≡ b → list_all p (cond b (x ∷ filter p xs) (filter p xs)) ≡ true) [
      | true ↦ λ is. ap (λ b. b && list_all p (filter p xs)) is ∙ rest
      | false ↦ λ is. rest
    ]) refl

pub implied_have_rows : (site : Site) (switches : Switches) (protections : Protections) (unit : Resolved)
    → list_all (stands site) (implied site switches protections (unit_written unit)) ≡ true
unfolding implied
implied_have_rows site switches protections unit = filter_all (stands site) (asked switches protections (unit_written unit))

-- The steps of the code together make the plan of the entries.
use Rattle.std.proofs.Common.{◌≡◌, Bool, List, [], ◌∷◌, ◌++◌, filter, Some, None, Ok, Err, refl, sym, ap, ◌∙◌}
use Rattle.std.specs.List.{filter_map}
use Rattle.path_settings.specs.declared.systemd.entries.MountEntry.{MountEntry}
use Rattle.path_settings.specs.systemd.Listed.{listed}
use Rattle.path_settings.specs.systemd.Made.{has_source, made, made_of, mounted_in, nodes, puts, putting, refusals, unless_refused}
use Rattle.path_settings.specs.systemd.View.{beginning}
use Rattle.path_settings.specs.view_map.Kept.{Host, Refusal, missing, wrong_kind}
use Rattle.mount_plan.specs.Answers.{Refuses, Tables, first_of}
use Rattle.mount_plan.specs.declared.error.PlanError.{PlanError}
use Rattle.mount_plan.specs.declared.error.PlanError.TheVariants.{Missing, Kind, Memory}
use Rattle.mount_plan.specs.systemd.Table.{steps_among, table_of}
use Rattle.mount_plan.proofs.EntriesMade.{refusals_in}

module _ (row_at : Host) (entries list devices : List MountEntry) (all_listed : list ≡ listed entries) (all_nodes : devices ≡ nodes entries) where
  pub is_putting : (put : List MountEntry) → put ≡ filter (puts row_at) (list ++ devices) → put ≡ putting row_at entries
  is_putting put e = e ∙ ap (λ (some : List MountEntry). filter (puts row_at) (some ++ devices)) all_listed
      ∙ ap (λ (some : List MountEntry). filter (puts row_at) (listed entries ++ some)) all_nodes

  pub is_made : (put found : List MountEntry) → put ≡ putting row_at entries → found ≡ filter_map (mounted_in row_at put devices) list
      → found ≡ made row_at entries
  is_made put found is e = e ∙ ap (λ (some : List MountEntry). filter_map (mounted_in row_at some devices) list) is
      ∙ ap (λ (some : List MountEntry). filter_map (mounted_in row_at (putting row_at entries) some) list) all_nodes
      ∙ ap (filter_map (mounted_in row_at (putting row_at entries) (nodes entries))) all_listed

  pub is_beginning : (found begun : List MountEntry) → found ≡ made row_at entries → begun ≡ found ++ filter (has_source row_at) devices
      → begun ≡ beginning row_at entries
  is_beginning found begun is e = e ∙ ap (λ (some : List MountEntry). some ++ filter (has_source row_at) devices) is
      ∙ ap (λ (some : List MountEntry). made row_at entries ++ filter (has_source row_at) some) all_nodes

  all_refusals : (put : List MountEntry) → put ≡ putting row_at entries → refusals_in row_at put list ≡ refusals row_at entries
  all_refusals put is = ap (λ (some : List MountEntry). refusals_in row_at some list) is
      ∙ ap (refusals_in row_at (putting row_at entries)) all_listed

  first_refuses : (none : List Refusal) (refusal : Refusal) → first_of none ≡ Some refusal
      → unless_refused none (made row_at entries) ≡ Err refusal
  first_refuses [] refusal e = let bad : ⊥ = cc in absurd bad
  first_refuses (first ∷ more) refusal e = let same : first ≡ refusal = cc in ap (λ (r : Refusal). Err r) same

  none_refuses : (none : List Refusal) → first_of none ≡ None → unless_refused none (made row_at entries) ≡ Ok (made row_at entries)
  none_refuses [] e = refl
  none_refuses (first ∷ more) e = let bad : ⊥ = cc in absurd bad

  -- the first refusal is the answer
  pub is_refused : (put : List MountEntry) → put ≡ putting row_at entries → (no_new_privs : Bool) (error : PlanError)
      → Refuses (first_of (refusals_in row_at put list)) (Err error) → Tables row_at no_new_privs entries (Err error)
  is_refused put is no_new_privs Memory h = tt
  is_refused put is no_new_privs (Missing path) h = first_refuses (refusals row_at entries) (missing path) (ap first_of (sym (all_refusals put is)) ∙ h)
  is_refused put is no_new_privs (Kind path) h = first_refuses (refusals row_at entries) (wrong_kind path) (ap first_of (sym (all_refusals put is)) ∙ h)

  -- if there is none, the made entries are
  pub is_made_of : (put : List MountEntry) → put ≡ putting row_at entries → first_of (refusals_in row_at put list) ≡ None
      → made_of row_at entries ≡ Ok (made row_at entries)
  is_made_of put is h = none_refuses (refusals row_at entries) (ap first_of (sym (all_refusals put is)) ∙ h)

pub is_table : (row_at : Host) (no_new_privs : Bool) (entries put begun found : List MountEntry) → put ≡ putting row_at entries → begun ≡ beginning row_at entries
    → found ≡ made row_at entries → steps_among row_at no_new_privs entries put begun found ≡ table_of row_at no_new_privs entries
is_table row_at no_new_privs entries put begun found p b m =
    ap (λ (some : List MountEntry). steps_among row_at no_new_privs entries some begun found) p
    ∙ ap (λ (some : List MountEntry). steps_among row_at no_new_privs entries (putting row_at entries) some found) b
    ∙ ap (λ (some : List MountEntry). steps_among row_at no_new_privs entries (putting row_at entries) (beginning row_at entries) some) m

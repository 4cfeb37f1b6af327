-- The ids that are listed row by row are those that some row gives.
use Rattle.std.proofs.Common.{◌≡◌, ℕ, Bool, true, false, List, [], ◌∷◌, Option, Some, None, refl, cond, ap, ◌∙◌, map, eqb}
use Rattle.std.specs.Prelude.{not, ◌&&◌, ◌||◌}
use Rattle.std.specs.List.{list_any}
use Rattle.std.proofs.lemmas.Cmp.{nat_eq_equiv}
use Rattle.std.proofs.lemmas.List.Folds.{list_any-append}
use Rattle.kernel_ways.specs.site_table.declared.row.Row.{Row}
use Rattle.kernel_ways.specs.kernel_laws.Bound.{is_owner, can_run, owned_by, grouped_by, power_of}
use Rattle.kernel_ways.specs.kernel_laws.Launched.{Launch}
use Rattle.kernel_ways.specs.kernel_laws.Questions.{some_ids}
use Rattle.kernel_ways.specs.kernel_laws.declared.question_types.power.Power.{Power}
use Rattle.ceilings.specs.declared.ids.IdKind.{IdKind}
use Rattle.ceilings.specs.declared.ids.IdKind.TheVariants.{User, Group}
use Rattle.ceilings.specs.Owners.{set_id, given_at, given_ids, uids_at, gids_at}
use Rattle.kernel_ways.specs.Spared.{power_using, uids_of, gids_of}

abbrev pub has_id : ℕ → List ℕ → Bool
has_id id ids = list_any (λ own. eqb id own) ids

-- what one row gives before the others
given_first : (id : ℕ) (b : Bool) (owner : Option ℕ) (others : List (Option ℕ))
    → has_id id (some_ids (cond b owner None ∷ others)) ≡ ((b && is_owner id owner) || has_id id (some_ids others))
given_first id true None others = refl
given_first id true (Some owner) others = ap (λ b. b || has_id id (some_ids others)) (nat_eq_equiv.symm id owner)
given_first id false owner others = refl

module _ (launch : Launch) (power : Power) (id : ℕ) where
  rows_given : (kind : IdKind) (rows : List Row) → has_id id (given_ids kind launch power rows)
      ≡ list_any (λ row. can_run launch power row && is_owner id (set_id kind row)) rows
  rows_given kind [] = refl
  rows_given kind (row ∷ rows) =
      given_first id (can_run launch power row) (set_id kind row) (map (given_at kind launch power) rows)
      ∙ ap (λ b. (can_run launch power row && is_owner id (set_id kind row)) || b) (rows_given kind rows)

unless : (id : ℕ) (b : Bool) (ids : List ℕ) → has_id id (cond b [] ids) ≡ (not b && has_id id ids)
unless id true ids = refl
unless id false ids = refl

-- the lists of a ceiling are the ids that are had without a use of a capability
pub uids_given : (launch : Launch) (power : Power) (id : ℕ) → power ≡ power_using launch false
    → has_id id (uids_at launch power) ≡ uids_of launch id
uids_given launch power id e =
    ap (λ b. eqb id launch.creds.uids.effective || b)
    (unless id launch.creds.no_new_privs (given_ids User launch power launch.site.rows)
    ∙ ap (λ b. not launch.creds.no_new_privs && b) (rows_given launch power id User launch.site.rows))
    ∙ ap (λ (p : Power). eqb id launch.creds.uids.effective ||
    (not launch.creds.no_new_privs && list_any (owned_by launch p id) launch.site.rows)) e

pub gids_given : (launch : Launch) (power : Power) (id : ℕ) → power ≡ power_of launch → has_id id (gids_at launch power) ≡ gids_of launch id
gids_given launch power id e =
    list_any-append (λ own. eqb id own) (launch.creds.gids.effective ∷ launch.creds.groups)
    (cond launch.creds.no_new_privs [] (given_ids Group launch power launch.site.rows))
    ∙ ap (λ b. has_id id (launch.creds.gids.effective ∷ launch.creds.groups) || b)
    (unless id launch.creds.no_new_privs (given_ids Group launch power launch.site.rows)
    ∙ ap (λ b. not launch.creds.no_new_privs && b) (rows_given launch power id Group launch.site.rows))
    ∙ ap (λ (p : Power). has_id id (launch.creds.gids.effective ∷ launch.creds.groups) ||
    (not launch.creds.no_new_privs && list_any (grouped_by launch p id) launch.site.rows)) e

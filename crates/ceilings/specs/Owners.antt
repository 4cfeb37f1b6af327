-- The ids that the programs of a site give to who runs them, execve(2), row by row.
use Rattle.std.specs.Prelude.{ℕ, List, [], ◌∷◌, ◌++◌, map, Option, None, if◌then◌else◌}
use Rattle.kernel_ways.specs.site_table.declared.row.Row.{Row}
use Rattle.kernel_ways.specs.kernel_laws.Bound.{can_run}
use Rattle.kernel_ways.specs.kernel_laws.Launched.{Launch}
use Rattle.kernel_ways.specs.kernel_laws.Questions.{some_ids}
use Rattle.kernel_ways.specs.kernel_laws.declared.question_types.power.Power.{Power}
use Rattle.ceilings.specs.declared.ids.IdKind.{IdKind}
use Rattle.ceilings.specs.declared.ids.IdKind.TheVariants.{User, Group}

-- the owner of the set-user-id bit, or the group of the set-group-id bit
abbrev pub set_id : IdKind → Row → Option ℕ
set_id User row = row.setuid
set_id Group row = row.setgid

-- it is given if the row can be run
abbrev pub given_at : IdKind → Launch → Power → Row → Option ℕ
given_at kind launch power row = if can_run launch power row then set_id kind row else None

abbrev pub given_ids : IdKind → Launch → Power → List Row → List ℕ
given_ids kind launch power rows = some_ids (map (given_at kind launch power) rows)

-- the uid of the launch, and the owners; with no_new_privs set-id bits give nothing, prctl(2)
abbrev pub uids_at : Launch → Power → List ℕ
uids_at launch power = launch.creds.uids.effective ∷
    (if launch.creds.no_new_privs then [] else given_ids User launch power launch.site.rows)

-- the gid of the launch, its groups, and the groups of programs
abbrev pub gids_at : Launch → Power → List ℕ
gids_at launch power = launch.creds.gids.effective ∷ launch.creds.groups ++
    (if launch.creds.no_new_privs then [] else given_ids Group launch power launch.site.rows)

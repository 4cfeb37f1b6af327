-- systemd.exec(5), Group=: the group that a service runs as.
use Rattle.std.specs.Prelude.{ℕ, ◌==◌, cond, codes, find, List, [], ◌∷◌, Option, None, option_and_then, option_map, unwrap_or}
use Rattle.std.specs.Option.{option_or}
use Rattle.dropin_merge.specs.declared.resolved.Resolved.{Resolved}
use Rattle.dropin_merge.specs.declared.unit_values.value.FileNote.{FileNote}
use Rattle.dropin_merge.specs.unit_values.Values.{notes_of}
use Rattle.dropin_merge.specs.unit_values.Lasting.{unit_last_text}
use Rattle.dropin_merge.specs.unit_names.Versions.{is_known}
use Rattle.dropin_merge.specs.unit_names.declared.version.Version.{Version}
use Rattle.site_table.specs.declared.accounts.Group.{Group}
use Rattle.site_table.specs.Table.{Site, group_named}
use Rattle.cred_settings.specs.declared.accounts.Account.{Account}
use Rattle.cred_settings.specs.declared.accounts.Account.TheVariants.{Dynamic, Fixed}
use Rattle.cred_settings.specs.Ids.{id_number}

-- the first group with this gid
abbrev pub group_with : List Group → ℕ → Option Group
group_with groups gid = find (λ group. group.gid == gid) groups

-- a number is a group by itself; in a version of systemd a group of the site must have the number
abbrev pub gid_numbered : Option Version → Site → Option ℕ → Option ℕ
gid_numbered systemd site number =
    cond (is_known systemd) (option_map (λ group. group.gid) (option_and_then (group_with site.groups) number)) number

-- the group that a word names: a group of the site by its name, else a number
abbrev pub gid_meant : Option Version → Site → List ℕ → Option ℕ
gid_meant systemd site word =
    option_or (option_map (λ group. group.gid) (group_named site.groups word)) (gid_numbered systemd site (id_number word))

-- an empty word names no group
abbrev pub chosen_gid : Option Version → Site → List ℕ → Option ℕ
chosen_gid systemd site [] = None
chosen_gid systemd site (byte ∷ word) = gid_meant systemd site (byte ∷ word)

-- the chosen group replaces the user's group, but has no effect beside the dynamic uid
abbrev pub gid_of : Site → Option ℕ → Account → ℕ
gid_of site chosen Dynamic = site.dynamic_uid
gid_of site chosen (Fixed identity) = unwrap_or chosen identity.gid

-- the word of Group=, if there is one
abbrev pub filled : List ℕ → List (List ℕ)
filled [] = []
filled (byte ∷ word) = (byte ∷ word) ∷ []

-- the word that the files of a unit give, and the notes on values that cannot be expanded
abbrev pub group_word : Resolved → List ℕ
group_word unit = unit_last_text unit (codes "Group")

abbrev pub group_notes : Resolved → List FileNote
group_notes unit = notes_of unit (codes "Group")

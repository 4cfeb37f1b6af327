use Rattle.std.proofs.Common.{◌≡◌, ◌++◌, None, take}
use Rattle.std.specs.Prelude.{find}
use Rattle.std.specs.List.{filter_map}
use Rattle.cred_settings.specs.Groups.{gid_meant}
use Rattle.cred_settings.specs.Identities.{names_no_group}
use Rattle.cred_settings.proofs.identities.add_groups.Given as goal

abbrev pub invariant-loop-word : goal.invariant-loop-word
invariant-loop-word l = record {
  added : l.groups ≡ l.fn.groups ++ filter_map (gid_meant l.systemd l.site) (take l.word-index l.words);
  none_is_bad : find (names_no_group l.systemd l.site) (take l.word-index l.words) ≡ None;
}

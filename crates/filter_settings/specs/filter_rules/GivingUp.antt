-- systemd.exec(5), SystemCallFilter=: whether a service that systemd has already filtered may still give up capabilities (capabilities(7)).
use Rattle.std.specs.Prelude.{ℕ, ◌&&◌, ◌||◌, not, is_some, codes, Bool, true, if◌then◌else◌, Option, List}
use Rattle.std.specs.Option.{option_map_or}
use Rattle.call_table.specs.Table.{Table}
use Rattle.filter_settings.specs.declared.filter_rules.mentions.CallList.{CallList}
use Rattle.filter_settings.specs.filter_rules.Calls.{is_allowing, listed_by}

-- the name is on the list, with whatever action
abbrev pub is_on_list : Table → CallList → List ℕ → Bool
is_on_list table list name = is_some (listed_by table list.mentions name)

-- capget(2), capset(2) and prctl(2) are the calls that do it. An allow list has to name all three, and a deny list none of them. What a
-- word adds to a name, such as an error number, does not count (seccomp_allows_drop_privileges)
abbrev pub lets_give_up : Table → CallList → Bool
lets_give_up table list =
    if is_allowing list.mode
    then is_on_list table list (codes "capget") && (is_on_list table list (codes "capset") && is_on_list table list (codes "prctl"))
    else not (is_on_list table list (codes "capget")
    || (is_on_list table list (codes "capset") || is_on_list table list (codes "prctl")))

-- without a list it may
abbrev pub may_give_up : Table → Option CallList → Bool
may_give_up table calls = option_map_or (lets_give_up table) calls true

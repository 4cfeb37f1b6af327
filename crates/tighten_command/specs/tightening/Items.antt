-- The items of hardening, each a line that a unit can have (systemd.exec(5)), and a unit with some of them.
use Rattle.std.specs.Prelude.{◌==◌, ◌-◌, ℕ, Bool, List, [], ◌∷◌, ◌++◌, codes, filter, flat_map}
use Rattle.std.specs.List.{list_any, range_with_len, slice_index_or}
use Rattle.asked_service.specs.dropin_merge.declared.resolved.Resolved.{Resolved}
use Rattle.asked_service.specs.launching.Longer.{with_file}

-- their lines in order
abbrev pub lines : List (List ℕ)
lines =
    codes "NoNewPrivileges=yes" ∷ codes "PrivateTmp=yes" ∷ codes "PrivateDevices=yes" ∷ codes "ProtectSystem=strict" ∷ codes
    "ProtectHome=yes"
    ∷ codes "ProtectKernelTunables=yes" ∷ codes "ProtectKernelModules=yes" ∷ codes "ProtectKernelLogs=yes" ∷ codes "ProtectClock=yes"
    ∷ codes "ProtectControlGroups=yes" ∷ codes "ProtectHostname=yes" ∷ codes "RestrictNamespaces=yes" ∷ codes "LockPersonality=yes"
    ∷ codes "MemoryDenyWriteExecute=yes" ∷ codes "RestrictRealtime=yes" ∷ codes "RestrictSUIDSGID=yes" ∷ codes "CapabilityBoundingSet=" ∷ []

-- by its number, from 1
abbrev pub line_of : ℕ → List ℕ
line_of item = slice_index_or lines (item - 1) []

-- the item is in the set
abbrev pub has : List ℕ → ℕ → Bool
has set item = list_any (λ other. other == item) set

-- the numbers of a set in the order of the lines
abbrev pub in_order : List ℕ → List ℕ
in_order set = filter (has set) (range_with_len 1 17)

-- a file with the lines of some items
abbrev pub drop_in_text : List ℕ → List ℕ
drop_in_text items = codes "[Service]\n" ++ flat_map (λ item. line_of item ++ 10 ∷ []) items

-- the unit with the lines of some items added last; with none it is the unit itself
abbrev pub with_items : Resolved → List ℕ → Resolved
with_items unit [] = unit
with_items unit (item ∷ items) = with_file unit (drop_in_text (item ∷ items))

-- the unit with the lines of a set added last, in their order
abbrev pub tightened : Resolved → List ℕ → Resolved
tightened unit set = with_items unit (in_order set)

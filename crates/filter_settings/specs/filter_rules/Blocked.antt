-- systemd.exec(5), ProtectKernelTunables=, ProtectHostname=, ProtectKernelModules=, ProtectKernelLogs=, ProtectClock= and PrivateDevices=:
-- calls that are refused whatever their arguments are.
use Rattle.std.specs.Prelude.{ℕ, Bool, List, [], ◌∷◌, codes}
use Rattle.std.specs.List.{list_any}
use Rattle.call_table.specs.Table.{Table}
use Rattle.filter_settings.specs.filter_rules.Covers.{covers}

-- ProtectKernelTunables=: sysctl(2)
abbrev pub tunables_words : List (List ℕ)
tunables_words = codes "_sysctl" ∷ []

-- ProtectHostname=: sethostname(2) and setdomainname(2)
abbrev pub hostname_words : List (List ℕ)
hostname_words = codes "sethostname" ∷ codes "setdomainname" ∷ []

-- ProtectKernelModules=: the group of the calls that load and unload modules, such as init_module(2)
abbrev pub modules_words : List (List ℕ)
modules_words = codes "@module" ∷ []

-- ProtectKernelLogs=: syslog(2)
abbrev pub logs_words : List (List ℕ)
logs_words = codes "syslog" ∷ []

-- ProtectClock=: the group of the calls that set a clock, such as clock_settime(2)
abbrev pub clock_words : List (List ℕ)
clock_words = codes "@clock" ∷ []

-- PrivateDevices=: the group of the calls for raw input and output, such as iopl(2)
abbrev pub devices_words : List (List ℕ)
devices_words = codes "@raw-io" ∷ []

-- one of the words covers the call
abbrev pub is_blocked : Table → List (List ℕ) → List ℕ → Bool
is_blocked table words name = list_any (λ word. covers table word name) words

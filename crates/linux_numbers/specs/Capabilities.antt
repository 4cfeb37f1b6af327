-- Capabilities by their numbers (capabilities(7), <linux/capability.h>).
use Rattle.std.specs.Prelude.{ℕ}

-- allows taking any group ids and groups
abbrev pub cap_setgid : ℕ
cap_setgid = 6

-- allows taking any user ids
abbrev pub cap_setuid : ℕ
cap_setuid = 7

-- allows dropping capabilities from the bounding set, and making any of its capabilities inheritable
abbrev pub cap_setpcap : ℕ
cap_setpcap = 8

-- allows loading and unloading kernel modules
abbrev pub cap_sys_module : ℕ
cap_sys_module = 16

-- allows raw input and output
abbrev pub cap_sys_rawio : ℕ
cap_sys_rawio = 17

-- allows mounting, installing filters, making namespaces, and more
abbrev pub cap_sys_admin : ℕ
cap_sys_admin = 21

-- allows taking a realtime policy, and more
abbrev pub cap_sys_nice : ℕ
cap_sys_nice = 23

-- allows setting the clock
abbrev pub cap_sys_time : ℕ
cap_sys_time = 25

-- allows making device files
abbrev pub cap_mknod : ℕ
cap_mknod = 27

-- allows using syslog(2)
abbrev pub cap_syslog : ℕ
cap_syslog = 34

-- allows waking the system by a timer
abbrev pub cap_wake_alarm : ℕ
cap_wake_alarm = 35

-- the greatest capability
abbrev pub cap_last_cap : ℕ
cap_last_cap = 40

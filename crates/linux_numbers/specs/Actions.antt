-- Actions of filters as 32-bit words (seccomp(2), <linux/seccomp.h>).
use Rattle.std.specs.Prelude.{ℕ}

-- SECCOMP_RET_KILL_PROCESS: the kernel ends the process
abbrev pub kill_process : ℕ
kill_process = 2147483648

-- SECCOMP_RET_KILL_THREAD: the kernel ends the thread
abbrev pub kill_thread : ℕ
kill_thread = 0

-- SECCOMP_RET_TRAP: the thread gets SIGSYS
abbrev pub trap : ℕ
trap = 196608

-- SECCOMP_RET_ERRNO: the call fails with the data as its error number
abbrev pub errno : ℕ
errno = 327680

-- SECCOMP_RET_USER_NOTIF: the kernel asks a supervisor
abbrev pub user_notif : ℕ
user_notif = 2143289344

-- SECCOMP_RET_TRACE: the kernel asks a tracer
abbrev pub trace : ℕ
trace = 2146435072

-- SECCOMP_RET_LOG: the kernel logs the call and makes it
abbrev pub log : ℕ
log = 2147221504

-- SECCOMP_RET_ALLOW: the kernel makes the call
abbrev pub allow : ℕ
allow = 2147418112

-- SECCOMP_RET_ACTION_FULL: the bits of an answer that are its action
abbrev pub action_full : ℕ
action_full = 4294901760

-- SECCOMP_RET_DATA: the bits of an answer that are its data
abbrev pub data_bits : ℕ
data_bits = 65535

-- The calls.txt of the sample: a small table of x86-64, with each call that a launch makes, and of the other calls some of each kind.
use Rattle.std.specs.Prelude.{ℕ, List, [], ◌∷◌, ◌++◌, codes, flat_map}

-- lines, each ended by a line feed
abbrev pub text_of_lines : List (List ℕ) → List ℕ
text_of_lines lines = flat_map (λ line. line ++ 10 ∷ []) lines

unfoldable pub calls_lines : List (List ℕ)
calls_lines =
    codes "abi x86-64 c000003e" ∷
    codes "call read 0" ∷
    codes "call write 1" ∷
    codes "call open 2" ∷
    codes "call close 3" ∷
    codes "call stat 4" ∷
    codes "call mmap 9" ∷
    codes "call mprotect 10" ∷
    codes "call shmat 30" ∷
    codes "call getpid 39" ∷
    codes "call socket 41" ∷
    codes "call clone 56" ∷
    codes "call fork 57" ∷
    codes "call execve 59" ∷
    codes "call exit 60" ∷
    codes "call truncate 76" ∷
    codes "call chmod 90" ∷
    codes "call syslog 103 CAP_SYSLOG" ∷
    codes "call setuid 105" ∷
    codes "call setgroups 116" ∷
    codes "call setresuid 117" ∷
    codes "call setresgid 119" ∷
    codes "call capset 126" ∷
    codes "call personality 135" ∷
    codes "call sched_setscheduler 144" ∷
    codes "call prctl 157" ∷
    codes "call settimeofday 164 CAP_SYS_TIME" ∷
    codes "call mount 165" ∷
    codes "call umount2 166" ∷
    codes "call sethostname 170 CAP_SYS_ADMIN" ∷
    codes "call iopl 172 CAP_SYS_RAWIO" ∷
    codes "call init_module 175 CAP_SYS_MODULE" ∷
    codes "call exit_group 231" ∷
    codes "call openat 257" ∷
    codes "call unshare 272" ∷
    codes "call setns 308" ∷
    codes "call seccomp 317" ∷
    codes "group @default execve exit exit_group getpid" ∷
    codes "group @clock settimeofday" ∷
    codes "group @module init_module" ∷
    codes "group @raw-io iopl" ∷
    codes "group @mount mount umount2" ∷
    codes "group @system-service @default read write open close stat mmap mprotect socket clone fork openat setresuid" ∷
    codes "family AF_UNIX 1" ∷
    codes "family AF_INET 2" ∷
    codes "family AF_INET6 10" ∷
    codes "family AF_NETLINK 16" ∷
    codes "family AF_PACKET 17 CAP_NET_RAW" ∷ []

unfoldable pub calls_text : List ℕ
calls_text = text_of_lines calls_lines

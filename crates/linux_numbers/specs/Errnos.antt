-- Error numbers on x86-64 (errno(3), <asm-generic/errno-base.h>, <asm-generic/errno.h>).
use Rattle.std.specs.Prelude.{ℕ, List, [], ◌∷◌, codes}

-- operation not permitted
abbrev pub eperm : ℕ
eperm = 1

-- no such file or directory
abbrev pub enoent : ℕ
enoent = 2

-- no such process
abbrev pub esrch : ℕ
esrch = 3

-- interrupted call
abbrev pub eintr : ℕ
eintr = 4

-- input/output error
abbrev pub eio : ℕ
eio = 5

-- no such device or address
abbrev pub enxio : ℕ
enxio = 6

-- argument list too long
abbrev pub e2big : ℕ
e2big = 7

-- exec format error
abbrev pub enoexec : ℕ
enoexec = 8

-- bad file descriptor
abbrev pub ebadf : ℕ
ebadf = 9

-- resource temporarily unavailable
abbrev pub eagain : ℕ
eagain = 11

-- not enough space
abbrev pub enomem : ℕ
enomem = 12

-- permission denied
abbrev pub eacces : ℕ
eacces = 13

-- bad address
abbrev pub efault : ℕ
efault = 14

-- device or resource busy
abbrev pub ebusy : ℕ
ebusy = 16

-- file exists
abbrev pub eexist : ℕ
eexist = 17

-- invalid cross-device link
abbrev pub exdev : ℕ
exdev = 18

-- no such device
abbrev pub enodev : ℕ
enodev = 19

-- not a directory
abbrev pub enotdir : ℕ
enotdir = 20

-- is a directory
abbrev pub eisdir : ℕ
eisdir = 21

-- invalid argument
abbrev pub einval : ℕ
einval = 22

-- too many open files in the system
abbrev pub enfile : ℕ
enfile = 23

-- too many open files
abbrev pub emfile : ℕ
emfile = 24

-- inappropriate I/O control operation
abbrev pub enotty : ℕ
enotty = 25

-- file too large
abbrev pub efbig : ℕ
efbig = 27

-- no space left on device
abbrev pub enospc : ℕ
enospc = 28

-- read-only file system
abbrev pub erofs : ℕ
erofs = 30

-- broken pipe
abbrev pub epipe : ℕ
epipe = 32

-- result too large
abbrev pub erange : ℕ
erange = 34

-- file name too long
abbrev pub enametoolong : ℕ
enametoolong = 36

-- function not implemented
abbrev pub enosys : ℕ
enosys = 38

-- operation not supported on socket
abbrev pub eopnotsupp : ℕ
eopnotsupp = 95

-- address family not supported
abbrev pub eafnosupport : ℕ
eafnosupport = 97

-- connection timed out
abbrev pub etimedout : ℕ
etimedout = 110

-- connection refused
abbrev pub econnrefused : ℕ
econnrefused = 111

-- each name with its number, ascending by number
abbrev pub errnos : List (List ℕ × ℕ)
errnos =
    (codes "EPERM", eperm) ∷ (codes "ENOENT", enoent) ∷ (codes "ESRCH", esrch) ∷ (codes "EINTR", eintr) ∷
    (codes "EIO", eio) ∷ (codes "ENXIO", enxio) ∷ (codes "E2BIG", e2big) ∷ (codes "ENOEXEC", enoexec) ∷
    (codes "EBADF", ebadf) ∷ (codes "EAGAIN", eagain) ∷ (codes "ENOMEM", enomem) ∷ (codes "EACCES", eacces) ∷
    (codes "EFAULT", efault) ∷ (codes "EBUSY", ebusy) ∷ (codes "EEXIST", eexist) ∷ (codes "EXDEV", exdev) ∷
    (codes "ENODEV", enodev) ∷ (codes "ENOTDIR", enotdir) ∷ (codes "EISDIR", eisdir) ∷ (codes "EINVAL", einval) ∷
    (codes "ENFILE", enfile) ∷ (codes "EMFILE", emfile) ∷ (codes "ENOTTY", enotty) ∷ (codes "EFBIG", efbig) ∷
    (codes "ENOSPC", enospc) ∷ (codes "EROFS", erofs) ∷ (codes "EPIPE", epipe) ∷ (codes "ERANGE", erange) ∷
    (codes "ENAMETOOLONG", enametoolong) ∷ (codes "ENOSYS", enosys) ∷ (codes "EOPNOTSUPP", eopnotsupp) ∷
    (codes "EAFNOSUPPORT", eafnosupport) ∷
    (codes "ETIMEDOUT", etimedout) ∷ (codes "ECONNREFUSED", econnrefused) ∷ []

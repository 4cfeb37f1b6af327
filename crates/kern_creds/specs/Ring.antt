-- A process sets up a ring, io_uring_setup(2). It keeps the ring until it executes another program, which closes the ring's descriptor:
-- the descriptor has O_CLOEXEC.
use Rattle.std.specs.Prelude.{true}
use Rattle.kern_creds.specs.declared.creds.Creds.{Creds}

abbrev pub after_set_up_ring : Creds → Creds
after_set_up_ring creds = record creds { ring = true }

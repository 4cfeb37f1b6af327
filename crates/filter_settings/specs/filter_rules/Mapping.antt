-- systemd.exec(5), MemoryDenyWriteExecute=: attempts to create memory mappings that are writable and executable at the same time, or to
-- change existing memory mappings to become executable, are prohibited.
use Rattle.std.specs.Prelude.{ℕ, if◌then◌else◌, Bool, false, List, [], ◌∷◌, codes}
use Rattle.std.specs.Str.{bytes_eq}
use Rattle.call_rules.specs.bpf_code.declared.machine.CallData.{CallData}
use Rattle.filter_settings.specs.filter_rules.Actions.{low, has_bits, is_one_of}

-- PROT_WRITE and PROT_EXEC of mmap(2)
abbrev pub prot_write_exec : ℕ
prot_write_exec = 6

-- PROT_EXEC of mprotect(2)
abbrev pub prot_exec : ℕ
prot_exec = 4

-- SHM_EXEC of shmop(2)
abbrev pub shm_exec : ℕ
shm_exec = 0x8000

-- mmap(2) of memory with both, mprotect(2) and pkey_mprotect(2) with PROT_EXEC, shmat(2) with SHM_EXEC
abbrev pub refuses_mapping : List ℕ → CallData → Bool
refuses_mapping name input =
    if bytes_eq name (codes "mmap") then has_bits (low input 2) prot_write_exec
    else if is_one_of name (codes "mprotect" ∷ codes "pkey_mprotect" ∷ []) then has_bits (low input 2) prot_exec
    else if bytes_eq name (codes "shmat") then has_bits (low input 2) shm_exec
    else false

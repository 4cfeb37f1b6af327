-- Real, effective and saved ids: credentials(7), and which ids setresuid(2) and setresgid(2) accept.
use Rattle.std.specs.Prelude.{ℕ, Bool, if◌then◌else◌, ◌==◌, ◌&&◌, ◌||◌}
use Rattle.kern_creds.specs.declared.ids.Ids.{Ids}
use Rattle.cap_sets.specs.linux_numbers.Limits.{no_id}

-- the id is one of the three
abbrev pub is_one_of : Ids → ℕ → Bool
is_one_of ids id = (id == ids.real || id == ids.effective) || id == ids.saved

-- without a capability, a new id is -1 (the old id stays) or one of the three
abbrev pub may_take : Ids → ℕ → Bool
may_take ids id = id == no_id || is_one_of ids id

abbrev pub may_take_all : Ids → ℕ → ℕ → ℕ → Bool
may_take_all ids real effective saved = (may_take ids real && may_take ids effective) && may_take ids saved

-- -1 leaves the id as it was
abbrev pub kept_id : ℕ → ℕ → ℕ
kept_id old id = if id == no_id then old else id

abbrev pub kept_ids : Ids → ℕ → ℕ → ℕ → Ids
kept_ids old real effective saved =
    record { real = kept_id old.real real; effective = kept_id old.effective effective; saved = kept_id old.saved saved }

-- all three are one id
abbrev pub all_of : ℕ → Ids
all_of id = record { real = id; effective = id; saved = id }

-- The search for the longest mention, as the code does it.
use Rattle.std.specs.Prelude.{ℕ, Bool, true, false, cond, nat_lt, nat_le, Option, Some, None}
use Rattle.path_settings.specs.declared.mentions.Kind.{Kind}
use Rattle.path_settings.specs.declared.mentions.Mention.{Mention}
use Rattle.path_settings.specs.Mentions.{is_origin}
use Rattle.path_settings.specs.declared.view_map.says.Says.{Says}
use Rattle.path_settings.specs.declared.view_map.says.Says.TheVariants.{Origin, ReadOnly, ReadWrite, NoExec, Exec}
use Rattle.path_settings.specs.view_map.View.{says_read_only, says_read_write, says_no_exec, says_exec, length_of}
use denote.Ref.{Bor}

-- the mention of a reference, with its position
abbrev pub shown : ℕ × Bor Mention → ℕ × Mention
shown one = (one.0, one.1.now)

abbrev pub is_said : Says → Kind → Bool
is_said Origin = is_origin
is_said ReadOnly = says_read_only
is_said ReadWrite = says_read_write
is_said NoExec = says_no_exec
is_said Exec = says_exec

-- the longer of two mentions, or the first on a tie
abbrev pub longer : Option (ℕ × Mention) → ℕ × Mention → Option (ℕ × Mention)
longer None one = Some one
longer (Some best) one = Some (cond (nat_lt (length_of best) (length_of one)) one best)

-- the first mention exists, and it is as long as the second
abbrev pub reaches_as_far : Option (ℕ × Mention) → Option (ℕ × Mention) → Bool
reaches_as_far None other = false
reaches_as_far (Some one) None = true
reaches_as_far (Some one) (Some other) = nat_le (length_of other) (length_of one)

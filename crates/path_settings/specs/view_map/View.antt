-- The view of a service at a path by the kept mentions (systemd.exec(5), Sandboxing): for each of three choices the longest mention that
-- leads to the path decides.
use Rattle.std.specs.Prelude.{ℕ, Bool, true, false, not, nat_le, List, length, filter, find, Option, option_map}
use Rattle.std.specs.List.{list_any, list_all, enumerate_from}
use Rattle.abs_path.specs.Paths.{Path, tail_of}
use Rattle.abs_path.specs.Prefix.{is_prefix, is_below}
use Rattle.path_settings.specs.declared.mentions.Kind.{Kind}
use Rattle.path_settings.specs.declared.mentions.Kind.TheVariants.{Ro, Rw, Exec, NoExec, Tmp, Bind}
use Rattle.path_settings.specs.declared.mentions.Mention.{Mention}
use Rattle.path_settings.specs.Mentions.{is_origin}
use Rattle.path_settings.specs.declared.view_map.seen.Seen.{Seen}

-- an empty file system and a bind say whether their own path is read-only
abbrev pub says_read_only : Kind → Bool
says_read_only Ro = true
says_read_only (Tmp read_only no_exec no_suid) = read_only
says_read_only (Bind source read_only recursive) = read_only
says_read_only _ = false

abbrev pub says_read_write : Kind → Bool
says_read_write Rw = true
says_read_write (Tmp read_only no_exec no_suid) = not read_only
says_read_write (Bind source read_only recursive) = not read_only
says_read_write _ = false

abbrev pub says_no_exec : Kind → Bool
says_no_exec NoExec = true
says_no_exec _ = false

abbrev pub says_exec : Kind → Bool
says_exec Exec = true
says_exec _ = false

-- kept mentions, each with its position
abbrev pub Found : Type 0
Found = List (ℕ × Mention)

-- the mentions at the path and at the paths that lead to it, by whole parts
abbrev pub leading_to : Path → List Mention → Found
leading_to path kept = filter (λ one. is_prefix one.1.path path) (enumerate_from 0 kept)

-- the mentions at the paths that lead to it, without the mentions at the path itself
abbrev pub above : Path → List Mention → Found
above path kept = filter (λ one. is_below path one.1.path) (enumerate_from 0 kept)

-- the mentions that say this
abbrev pub saying : (Kind → Bool) → Found → Found
saying says found = filter (λ one. says one.1.kind) found

-- the number of bytes of a mention's path, where the root has none
abbrev pub length_of : ℕ × Mention → ℕ
length_of one = length (tail_of one.1.path)

abbrev pub is_as_long_as_each : Found → ℕ × Mention → Bool
is_as_long_as_each others one = list_all (λ other. nat_le (length_of other) (length_of one)) others

-- the longest of the mentions that say this, or the first on a tie
abbrev pub longest : (Kind → Bool) → Found → Option (ℕ × Mention)
longest says found = find (is_as_long_as_each (saying says found)) (saying says found)

-- some mention that says this is as long as each mention that denies it: on a tie it prevails
abbrev pub prevails : (Kind → Bool) → (Kind → Bool) → Found → Bool
prevails says denies found = list_any (is_as_long_as_each (saying denies found)) (saying says found)

abbrev pub origin_of : List Mention → Path → Option (ℕ × Mention)
origin_of kept path = longest is_origin (leading_to path kept)

abbrev pub is_read_only : List Mention → Path → Bool
is_read_only kept path = prevails says_read_only says_read_write (leading_to path kept)

abbrev pub is_no_exec : List Mention → Path → Bool
is_no_exec kept path = prevails says_no_exec says_exec (leading_to path kept)

-- the view at a path: the kept mention that says which object is there, and how the object may be used
abbrev pub seen_at : List Mention → Path → Seen
seen_at kept path = record {
  origin = option_map (λ one. one.0) (origin_of kept path);
  read_only = is_read_only kept path;
  no_exec = is_no_exec kept path;
}

-- Examples of mentions, which compute.
use Rattle.std.proofs.Common.{◌≡◌, ℕ, Bool, true, false, [], ◌∷◌, Option, Some, None, Ok, Err, refl, cond}
use Rattle.std.specs.Prelude.{codes}
use Rattle.abs_path.specs.Paths.{Path}
use Rattle.abs_path.specs.Prefix.{is_same}
use Rattle.path_settings.specs.declared.mentions.Kind.{Kind}
use Rattle.path_settings.specs.declared.mentions.Kind.TheVariants.{Ro, Rw, Exec, NoExec, Hide, Tmp, Bind}
use Rattle.path_settings.specs.declared.mentions.Mention.{Mention}
use Rattle.path_settings.specs.declared.view_map.seen.Seen.{Seen}
use Rattle.path_settings.specs.view_map.View.{seen_at}
use Rattle.path_settings.specs.view_map.Object.{on_host, object_at}
use Rattle.path_settings.specs.view_map.Kept.{Host, missing, wrong_kind, kept_of}

abbrev a : Path
a = codes "a" ∷ []

abbrev a_b : Path
a_b = codes "a" ∷ codes "b" ∷ []

abbrev a_b_c : Path
a_b_c = codes "a" ∷ codes "b" ∷ codes "c" ∷ []

-- the folder `/a-b`, which does not lie below `/a`
abbrev beside : Path
beside = codes "a-b" ∷ []

-- a file
abbrev file : Path
file = codes "f" ∷ []

abbrev none : Path
none = codes "none" ∷ []

abbrev says : Path → Kind → Mention
says path kind = record { path = path; kind = kind; optional = false }

abbrev may_say : Path → Kind → Mention
may_say path kind = record { path = path; kind = kind; optional = true }

abbrev seen : Option ℕ → Bool → Bool → Seen
seen origin read_only no_exec = record { origin = origin; read_only = read_only; no_exec = no_exec }

-- a host with the folders above and the file
abbrev row_at : Host
row_at path = cond (is_same path file) (Some false) (cond (is_same path none) None (Some true))

-- ---- views

no_mention : seen_at [] a_b ≡ seen None false false
no_mention = refl

-- the longest that leads there decides
read_only_above : seen_at (says a Ro ∷ says a_b Rw ∷ says a_b_c Ro ∷ []) a ≡ seen None true false
read_only_above = refl

read_write_between : seen_at (says a Ro ∷ says a_b Rw ∷ says a_b_c Ro ∷ []) a_b ≡ seen None false false
read_write_between = refl

read_only_below : seen_at (says a Ro ∷ says a_b Rw ∷ says a_b_c Ro ∷ []) a_b_c ≡ seen None true false
read_only_below = refl

-- on a tie the path is read-only and not executable, in any order
on_a_tie : seen_at (says a Rw ∷ says a Ro ∷ says a Exec ∷ says a NoExec ∷ []) a_b ≡ seen None true true
on_a_tie = refl

on_a_tie_back : seen_at (says a Ro ∷ says a Rw ∷ says a NoExec ∷ says a Exec ∷ []) a_b ≡ seen None true true
on_a_tie_back = refl

-- the three choices do not influence one another
apart : seen_at (says a Rw ∷ says a_b NoExec ∷ says [] Ro ∷ []) a_b_c ≡ seen None false true
apart = refl

-- a path that begins with the same bytes is not a path below
not_below : seen_at (says a Ro ∷ says a Hide ∷ []) beside ≡ seen None false false
not_below = refl

-- an empty file system and a bind say whether they are read-only, and on a tie the first origin counts
two_empty : seen_at (says a (Tmp false false false) ∷ says a (Tmp true false false) ∷ []) a_b ≡ seen (Some 0) true false
two_empty = refl

bound : seen_at (says a (Bind beside true true) ∷ says a_b Rw ∷ []) a_b ≡ seen (Some 0) false false
bound = refl

-- a bind gives its source, followed by the rest
bound_object : object_at (says a (Bind beside true true) ∷ []) a_b_c ≡ on_host (codes "a-b" ∷ codes "b" ∷ codes "c" ∷ [])
bound_object = refl

-- ---- kept mentions

-- a hidden mention beats the others at its path, and nothing is kept below it
hidden_above : kept_of row_at (says a_b Rw ∷ says a (Tmp false false false) ∷ says a (Bind beside false true) ∷ says a Hide ∷ []) ≡ Ok (says a Hide ∷ [])
hidden_above = refl

-- an empty file system beats a bind, and the last bind the earlier ones
empty_beats : kept_of row_at (says a (Bind beside false true) ∷ says a (Tmp true false false) ∷ []) ≡ Ok (says a (Tmp true false false) ∷ [])
empty_beats = refl

last_bind : kept_of row_at (says a (Bind beside false true) ∷ says a (Bind a_b true true) ∷ []) ≡ Ok (says a (Bind a_b true true) ∷ [])
last_bind = refl

-- paths are in byte order: `-` is less than `/`
in_order : kept_of row_at (says a_b_c Ro ∷ says beside Ro ∷ says a Ro ∷ says a NoExec ∷ [])
    ≡ Ok (says a Ro ∷ says a NoExec ∷ says beside Ro ∷ says a_b_c Ro ∷ [])
in_order = refl

-- the source of a bind must exist, and be of the same kind as the object that it covers
no_source : kept_of row_at (says a (Bind none false true) ∷ says none Ro ∷ []) ≡ Err (missing none)
no_source = refl

no_source_before_no_row : kept_of (λ path. cond (is_same path a) (Some true) None) (says none Ro ∷ says none (Bind file false true) ∷ [])
    ≡ Err (missing file)
no_source_before_no_row = refl

optional_source : kept_of row_at (may_say a (Bind none false true) ∷ says a Ro ∷ []) ≡ Ok (says a Ro ∷ [])
optional_source = refl

other_kind : kept_of row_at (may_say a (Bind file false true) ∷ []) ≡ Err (wrong_kind a)
other_kind = refl

empty_over_a_file : kept_of row_at (says file (Tmp false false false) ∷ []) ≡ Err (wrong_kind file)
empty_over_a_file = refl

-- a mention that covers nothing may put an object of any kind
put_at_no_row : kept_of row_at (says none (Bind file false true) ∷ says none NoExec ∷ [])
    ≡ Ok (says none (Bind file false true) ∷ says none NoExec ∷ [])
put_at_no_row = refl

-- below an empty file system flags are dropped, unless something is put at their path; a hidden mention there is kept
below_empty : kept_of row_at (says a (Tmp true false false) ∷ says a_b Rw ∷ says a_b_c (Bind file false true) ∷ says a_b_c Ro ∷ [])
    ≡ Ok (says a (Tmp true false false) ∷ says a_b_c (Bind file false true) ∷ says a_b_c Ro ∷ [])
below_empty = refl

hidden_below_empty : kept_of row_at (says a (Tmp true false false) ∷ says a_b Hide ∷ []) ≡ Ok (says a (Tmp true false false) ∷ says a_b Hide ∷ [])
hidden_below_empty = refl

-- a path that does not exist is refused, and skipped if it is optional
no_row : kept_of row_at (says none Ro ∷ []) ≡ Err (missing none)
no_row = refl

nothing_to_hide : kept_of row_at (says none Hide ∷ []) ≡ Err (missing none)
nothing_to_hide = refl

optional_row : kept_of row_at (may_say none Ro ∷ may_say none Hide ∷ []) ≡ Ok []
optional_row = refl

-- below a bind the row of the source counts
behind_a_bind : kept_of (λ path. cond (is_same path a_b) None (Some true))
    (says beside (Bind a false true) ∷ says (codes "a-b" ∷ codes "b" ∷ []) Ro ∷ []) ≡ Err (missing (codes "a-b" ∷ codes "b" ∷ []))
behind_a_bind = refl

-- the refusal names the first path in byte order
first_path : kept_of (λ path. None) (says a_b Ro ∷ says beside Ro ∷ []) ≡ Err (missing beside)
first_path = refl

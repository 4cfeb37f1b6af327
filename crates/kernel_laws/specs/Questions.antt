-- The questions about a launched service, and the list of all questions.
use Rattle.std.specs.Prelude.{◌≡◌, slice_get, ℕ, zero, suc, ◌+◌, ◌==◌, ◌&&◌, nat_lt, not, Bool, true, false, List, [], ◌∷◌, ◌++◌, map}
use Rattle.std.specs.Prelude.{Option, Some, None, if◌then◌else◌}
use Rattle.filter_settings.specs.call_table.declared.listed.CallLine.{CallLine}
use Rattle.filter_settings.specs.call_table.Table as calls
use Rattle.filter_settings.specs.call_table.Members.{is_first}
use Rattle.kernel_model.specs.site_table.declared.row.Row.{Row}
use Rattle.kernel_model.specs.site_table.Kinds.{is_dir, is_exe}
use Rattle.kernel_model.specs.site_table.Table.{Site}
use Rattle.filter_settings.specs.linux_numbers.declared.namespaces.NamespaceType.TheVariants.{Cgroup, Ipc, Net, Mnt, Pid, User, Uts}
use Rattle.kernel_laws.specs.declared.question_types.question.Question.{Question}
use Rattle.kernel_laws.specs.declared.question_types.question.Question.TheVariants.{Path as ByPath, Call, Socket, Namespace as Ns, MapWx}
use Rattle.kernel_laws.specs.declared.question_types.question.Question.TheVariants.{ProtectX, ShmX, Realtime, Personality, SuidBit, Cap}
use Rattle.kernel_laws.specs.declared.question_types.question.Question.TheVariants.{Uid, Gid}
use Rattle.kernel_laws.specs.declared.question_types.wish.Wish.TheVariants.{See as ToSee, Read as ToRead, Write as ToWrite, Exec as ToExec}
use Rattle.kernel_model.specs.declared.kernel_calls.rule.Rule.{Rule}
use Rattle.kernel_model.specs.declared.kernel_calls.rule.Rule.TheVariants.{Plain}
use Rattle.kernel_model.specs.kernel_calls.Rules.{rule_of}

-- a call whose name the kernel does not know: all that can be asked of it is whether it is done
abbrev pub is_plain : Option Rule → Bool
is_plain (Some (Plain cap)) = true
is_plain _ = false

-- a question about a call may be asked of plain calls only
abbrev pub IsAsked : calls.Table → Question → Type 0
IsAsked table (Call place) = (line : CallLine) → slice_get (calls.every_call table) place ≡ Some line → is_plain (rule_of line) ≡ true
IsAsked table _ = Unit {0}

-- the thing or nothing
abbrev pub if_so : {X : Type 0} → Bool → X → List X
if_so true x = x ∷ []
if_so false x = []

-- of a row: to see and to read it, to write what is no directory, to execute what is a program
abbrev pub of_row : ℕ → Row → List Question
of_row at row = ByPath ToSee at ∷ ByPath ToRead at ∷ if_so (not (is_dir row.kind)) (ByPath ToWrite at) ++ if_so (is_exe row.kind)
    (ByPath ToExec at)

-- of each row, counted from a number
abbrev pub of_rows : ℕ → List Row → List Question
of_rows at [] = []
of_rows at (row ∷ rows) = of_row at row ++ of_rows (at + 1) rows

-- of each plain call, counted from a number, at the first of all lines of its name
abbrev pub of_calls : List CallLine → ℕ → List CallLine → List Question
of_calls every at [] = []
of_calls every at (line ∷ lines) = if_so (is_plain (rule_of line) && is_first every line.name at) (Call at) ++ of_calls every (at + 1) lines

-- of each family, counted from a number
abbrev pub of_families : ℕ → List CallLine → List Question
of_families at [] = []
of_families at (line ∷ lines) = Socket at ∷ of_families (at + 1) lines

-- from a number on, so many
abbrev pub count_from : ℕ → ℕ → List ℕ
count_from at zero = []
count_from at (suc count) = at ∷ count_from (at + 1) count

-- a number put among ascending ones, each of which occurs once
abbrev pub placed : ℕ → List ℕ → List ℕ
placed id [] = id ∷ []
placed id (other ∷ ids) = if nat_lt id other then id ∷ other ∷ ids else if id == other then other ∷ ids else other ∷ placed id ids

-- the numbers in order, each once
abbrev pub ascending : List ℕ → List ℕ
ascending [] = []
ascending (id ∷ ids) = placed id (ascending ids)

-- those that are there
abbrev pub some_ids : List (Option ℕ) → List ℕ
some_ids [] = []
some_ids (None ∷ ids) = some_ids ids
some_ids (Some id ∷ ids) = id ∷ some_ids ids

-- one list of all
abbrev pub joined : List (List ℕ) → List ℕ
joined [] = []
joined (ids ∷ lists) = ids ++ joined lists

-- root, the dynamic user, the users of the host and the owners of its set-user-id programs
abbrev pub uids_of : Site → List ℕ
uids_of site = ascending (0 ∷ site.dynamic_uid ∷ map (λ user. user.uid) site.users ++ some_ids (map (λ row. row.setuid) site.rows))

-- the group root, the dynamic group, the groups of the host, its users' groups, and the groups of its set-group-id programs
abbrev pub gids_of : Site → List ℕ
gids_of site = ascending (0 ∷ site.dynamic_uid ∷ map (λ group. group.gid) site.groups ++ map (λ user. user.gid) site.users ++ joined
    (map (λ user. user.groups) site.users) ++ some_ids (map (λ row. row.setgid) site.rows))

-- the questions of no table
abbrev pub other_questions : List Question
other_questions = Ns Cgroup ∷ Ns Ipc ∷ Ns Net ∷ Ns Mnt ∷ Ns Pid ∷ Ns User ∷ Ns Uts ∷ MapWx ∷ ProtectX ∷ ShmX ∷ Realtime ∷ Personality ∷
    SuidBit ∷ []

-- all questions: of the rows, the plain calls, the families, of no table, of the 41 capabilities, the uids and the gids
abbrev pub questions : calls.Table → Site → List Question
questions table site =
    of_rows 0 site.rows ++ of_calls (calls.every_call table) 0
    (calls.every_call table) ++ of_families 0 table.families ++ other_questions ++
    map Cap (count_from 0 41) ++ map Uid (uids_of site) ++ map Gid (gids_of site)

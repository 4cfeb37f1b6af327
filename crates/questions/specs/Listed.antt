-- The list of questions, in other words: which questions are in it, and in which order.
use Rattle.std.specs.Prelude.{◌≡◌, ◌↔◌, ◌⊎◌, ◌<◌, ◌≤◌, ◌*◌, ◌+◌, ℕ, Bool, true, not, List, length, slice_get, Some, Any, AllPairs, Contains}
use Rattle.std.specs.List.Sorted.{IsStrictlyIncreasing}
use Rattle.kernel_laws.specs.linux_numbers.Capabilities.{cap_last_cap}
use Rattle.kernel_laws.specs.call_table.declared.listed.CallLine.{CallLine}
use Rattle.kernel_laws.specs.call_table.Lookups.{place_named}
use Rattle.kernel_laws.specs.call_table.Table as calls
use Rattle.kernel_laws.specs.site_table.declared.kinds.RowKind.{RowKind}
use Rattle.kernel_laws.specs.site_table.declared.row.Row.{Row}
use Rattle.kernel_laws.specs.site_table.declared.accounts.User.{User}
use Rattle.kernel_laws.specs.site_table.declared.accounts.Group.{Group}
use Rattle.kernel_laws.specs.site_table.Kinds.{is_dir, is_exe}
use Rattle.kernel_laws.specs.site_table.Table.{Site}
use Rattle.kernel_laws.specs.linux_numbers.declared.namespaces.NamespaceType.{NamespaceType}
use Rattle.kernel_laws.specs.kernel_model.kernel_calls.Rules.{rule_of}
use Rattle.kernel_laws.specs.Questions.{is_plain, ascending, questions}
use Rattle.kernel_laws.specs.declared.question_types.wish.Wish.{Wish}
use Rattle.kernel_laws.specs.declared.question_types.wish.Wish.TheVariants.{See as ToSee, Read as ToRead, Write as ToWrite, Exec as ToExec}
use Rattle.kernel_laws.specs.linux_numbers.declared.namespaces.NamespaceType.TheVariants.{Cgroup, Ipc, Net, Mnt, Pid}
use Rattle.kernel_laws.specs.linux_numbers.declared.namespaces.NamespaceType.TheVariants.{User as UserSpace, Uts}
use Rattle.kernel_laws.specs.declared.question_types.question.Question.{Question}
use Rattle.kernel_laws.specs.declared.question_types.question.Question.TheVariants.{Path as ByPath, Call, Socket, Namespace as Ns, MapWx}
use Rattle.kernel_laws.specs.declared.question_types.question.Question.TheVariants.{ProtectX, ShmX, Realtime, Personality, SuidBit, Cap}
use Rattle.kernel_laws.specs.declared.question_types.question.Question.TheVariants.{Uid, Gid}

-- the questions about a row of this kind: anything may be seen and read, anything but a directory written, an executable
-- executed
abbrev pub is_asked_of : Wish → RowKind → Bool
is_asked_of ToSee kind = true
is_asked_of ToRead kind = true
is_asked_of ToWrite kind = not (is_dir kind)
is_asked_of ToExec kind = is_exe kind

-- a uid that the site knows: root's, the dynamic user's, a user's, or the owner's of a set-user-id row
pub data IsUidOf (site : Site) (id : ℕ) : Type 0 where
  of_root : id ≡ 0 → IsUidOf site id
  of_dynamic_user : id ≡ site.dynamic_uid → IsUidOf site id
  of_user : Any (λ (user : User). user.uid ≡ id) site.users → IsUidOf site id
  of_owner : Any (λ (row : Row). row.setuid ≡ Some id) site.rows → IsUidOf site id

-- a gid that the site has: root's, the dynamic user's, a group's, a user's, one of a user's further groups, or a set-group-id
-- row's
pub data IsGidOf (site : Site) (id : ℕ) : Type 0 where
  of_root_group : id ≡ 0 → IsGidOf site id
  of_dynamic_group : id ≡ site.dynamic_uid → IsGidOf site id
  of_group : Any (λ (group : Group). group.gid ≡ id) site.groups → IsGidOf site id
  of_group_of_user : Any (λ (user : User). user.gid ≡ id) site.users → IsGidOf site id
  of_further_group : Any (λ (user : User). Contains user.groups id) site.users → IsGidOf site id
  of_group_of_row : Any (λ (row : Row). row.setgid ≡ Some id) site.rows → IsGidOf site id

-- the question has a thing to be asked of; a call is asked of at the first of all lines of its name, in whatever ABI
abbrev pub IsAskedOf : calls.Table → Site → Question → Type 0
IsAskedOf table site (ByPath wish at) = (row : Row) × (slice_get site.rows at ≡ Some row) × (is_asked_of wish row.kind ≡ true)
IsAskedOf table site (Call at) =
    (line : CallLine) × (slice_get (calls.every_call table) at ≡ Some line) × (is_plain (rule_of line) ≡ true) ×
    (place_named line.name (calls.every_call table) ≡ Some at)
IsAskedOf table site (Socket at) = at < length table.families
IsAskedOf table site (Cap number) = number ≤ cap_last_cap
IsAskedOf table site (Uid id) = IsUidOf site id
IsAskedOf table site (Gid id) = IsGidOf site id
IsAskedOf table site _ = Unit {0}

-- the list has exactly these questions
abbrev pub ListsWhatIsAsked : Type 0
ListsWhatIsAsked = (table : calls.Table) (site : Site) (question : Question)
    → Contains (questions table site) question ↔ IsAskedOf table site question

-- the kinds in their order
abbrev pub kind_of : Question → ℕ
kind_of (ByPath wish at) = 0
kind_of (Call at) = 1
kind_of (Socket at) = 2
kind_of (Ns space) = 3
kind_of MapWx = 4
kind_of ProtectX = 5
kind_of ShmX = 6
kind_of Realtime = 7
kind_of Personality = 8
kind_of SuidBit = 9
kind_of (Cap number) = 10
kind_of (Uid id) = 11
kind_of (Gid id) = 12

-- of one row: to see, to read, to write, to execute it
abbrev pub wish_order : Wish → ℕ
wish_order ToSee = 0
wish_order ToRead = 1
wish_order ToWrite = 2
wish_order ToExec = 3

-- the types of namespaces in the order of their names, systemd.exec(5), RestrictNamespaces=
abbrev pub space_order : NamespaceType → ℕ
space_order Cgroup = 0
space_order Ipc = 1
space_order Net = 2
space_order Mnt = 3
space_order Pid = 4
space_order UserSpace = 5
space_order Uts = 6

-- within a kind: row by row, by the place in a table, by number
abbrev pub place_of : Question → ℕ
place_of (ByPath wish at) = 4 * at + wish_order wish
place_of (Call at) = at
place_of (Socket at) = at
place_of (Ns space) = space_order space
place_of (Cap number) = number
place_of (Uid id) = id
place_of (Gid id) = id
place_of _ = 0

-- one question is before another
abbrev pub IsBefore : Question → Question → Type 0
IsBefore one other = (kind_of one < kind_of other) ⊎ ((kind_of one ≡ kind_of other) × (place_of one < place_of other))

-- each question of the list is before the later ones
abbrev pub StandInOrder : Type 0
StandInOrder = (table : calls.Table) (site : Site) → AllPairs IsBefore (questions table site)

-- ids in order are the same ids, each below the next
pub record IsInOrder (ids given : List ℕ) : Type 0 where
  pub same : (id : ℕ) → Contains ids id ↔ Contains given id
  pub rises : IsStrictlyIncreasing ids

abbrev pub IdsAscendOnce : Type 0
IdsAscendOnce = (given : List ℕ) → IsInOrder (ascending given) given

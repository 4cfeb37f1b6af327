-- Questions, as they are written.
use Rattle.std.specs.Prelude.{ℕ, List, [], ◌++◌, codes, slice_get}
use Rattle.std.specs.Fmt.{decimal}
use Rattle.std.specs.Option.{option_map_or}
use Rattle.exposure_score.specs.abs_path.Paths.{text_of}
use Rattle.exposure_score.specs.cap_sets.Names.{name_of}
use Rattle.exposure_score.specs.call_table.declared.listed.CallLine.{CallLine}
use Rattle.exposure_score.specs.call_table.Table as calls
use Rattle.exposure_score.specs.site_table.declared.row.Row.{Row}
use Rattle.exposure_score.specs.site_table.Table.{Site}
use Rattle.exposure_score.specs.text_forms.Escaped.{escaped_word}
use Rattle.questions.specs.kernel_laws.declared.question_types.wish.Wish.{Wish}
use Rattle.questions.specs.kernel_laws.declared.question_types.wish.Wish.TheVariants.{See as ToSee, Read as ToRead, Write as ToWrite}
use Rattle.questions.specs.kernel_laws.declared.question_types.wish.Wish.TheVariants.{Exec as ToExec}
use Rattle.questions.specs.linux_numbers.declared.namespaces.NamespaceType.{NamespaceType}
use Rattle.questions.specs.linux_numbers.declared.namespaces.NamespaceType.TheVariants.{Cgroup, Ipc, Net, Mnt, Pid}
use Rattle.questions.specs.linux_numbers.declared.namespaces.NamespaceType.TheVariants.{User, Uts}
use Rattle.questions.specs.kernel_laws.declared.question_types.question.Question.{Question}
use Rattle.questions.specs.kernel_laws.declared.question_types.question.Question.TheVariants.{Path as ByPath, Call, Socket, Namespace as Ns}
use Rattle.questions.specs.kernel_laws.declared.question_types.question.Question.TheVariants.{MapWx, ProtectX, ShmX, Realtime, Personality}
use Rattle.questions.specs.kernel_laws.declared.question_types.question.Question.TheVariants.{SuidBit, Cap, Uid, Gid}

abbrev pub wish_word : Wish → List ℕ
wish_word ToSee = codes "see"
wish_word ToRead = codes "read"
wish_word ToWrite = codes "write"
wish_word ToExec = codes "exec"

-- the types of namespaces, systemd.exec(5), RestrictNamespaces=
abbrev pub space_word : NamespaceType → List ℕ
space_word Cgroup = codes "cgroup"
space_word Ipc = codes "ipc"
space_word Net = codes "net"
space_word Mnt = codes "mnt"
space_word Pid = codes "pid"
space_word User = codes "user"
space_word Uts = codes "uts"

-- the path of the row at a place of the site, from 0
abbrev pub path_at : List Row → ℕ → List ℕ
path_at rows at = option_map_or (λ row. text_of row.path) (slice_get rows at) []

-- the name of the call or family at a place of the table, from 0: calls of the native ABI come first
abbrev pub name_at : List CallLine → ℕ → List ℕ
name_at lines at = option_map_or (λ line. line.name) (slice_get lines at) []

-- a question in words: rows by their paths, calls and families by their names, ids by their numbers, and capabilities by the names of
-- capabilities(7)
abbrev pub question_words : calls.Table → Site → Question → List ℕ
question_words table site (ByPath wish at) = wish_word wish ++ (codes " " ++ escaped_word (path_at site.rows at))
question_words table site (Call at) = codes "call " ++ escaped_word (name_at (calls.every_call table) at)
question_words table site (Socket at) = codes "socket " ++ escaped_word (name_at table.families at)
question_words table site (Ns space) = codes "ns " ++ space_word space
question_words table site MapWx = codes "map-wx"
question_words table site ProtectX = codes "protect-x"
question_words table site ShmX = codes "shm-x"
question_words table site Realtime = codes "realtime"
question_words table site Personality = codes "personality"
question_words table site SuidBit = codes "suid-bit"
question_words table site (Cap number) = codes "cap " ++ name_of number
question_words table site (Uid id) = codes "uid " ++ decimal id
question_words table site (Gid id) = codes "gid " ++ decimal id

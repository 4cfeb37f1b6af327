-- The rules that ask for each kind of call, with the words that ask first.
use Rattle.std.proofs.Common.{◌≡◌, ℕ, ◌+◌, ◌^◌, Bool, true, false, cond, eqb, List, Option, Some, None, refl, ◌∙◌, subst}
use Rattle.std.specs.Option.{option_or}
use Rattle.launcher.specs.call_table.call_names.Known.{place_of}
use Rattle.launcher.specs.call_table.declared.call_names.rule.Argument.{Argument}
use Rattle.launcher.specs.call_table.declared.call_names.rule.CallRule.TheVariants as known
use Rattle.launcher.specs.kernel_model.declared.kernel_calls.rule.Rule.{Rule}
use Rattle.launcher.specs.kernel_model.declared.kernel_calls.rule.Rule.TheVariants as rule
use Rattle.launcher.specs.linux_numbers.declared.namespaces.NamespaceType.{NamespaceType}
use Rattle.launcher.specs.kernel_laws.declared.question_types.kind.CallKind.{CallKind}
use Rattle.launcher.specs.kernel_laws.declared.question_types.wish.Wish.TheVariants as wish_to
use Rattle.launcher.specs.kernel_laws.declared.question_types.kind.CallKind.TheVariants as k
use Rattle.launcher.specs.linux_numbers.Namespaces.{flag_of}
use Rattle.launcher.specs.kernel_laws.Kinds.{words, wide_words, made_words, no_words, one_word}
use Rattle.launcher.specs.kernel_laws.Launched.{Launch, chosen_words, lets_words}

pub data Choice : CallKind → Rule → List ℕ → Type 0 where
  sees : Choice (k.ForPath wish_to.See) (rule.Known known.See) no_words
  reads : (at : Argument) → Choice (k.ForPath wish_to.Read) (rule.Known (known.Open at)) no_words
  opens : (at : Argument) → Choice (k.ForPath wish_to.Write) (rule.Known (known.Open at)) (one_word (place_of at) 1)
  reads_with : (at : Argument) → Choice (k.ForPath wish_to.Read) (rule.Known (known.OpenWith at)) no_words
  opens_with : (at : Argument) → Choice (k.ForPath wish_to.Write) (rule.Known (known.OpenWith at)) (one_word (place_of at) 1)
  reads_how : Choice (k.ForPath wish_to.Read) (rule.Known known.Openat2) no_words
  opens_how : Choice (k.ForPath wish_to.Write) (rule.Known known.Openat2) no_words
  creates : Choice (k.ForPath wish_to.Write) (rule.Known known.Create) no_words
  creates_with : Choice (k.ForPath wish_to.Write) (rule.Known known.CreateWith) no_words
  truncates : Choice (k.ForPath wish_to.Write) (rule.Known known.Truncate) no_words
  execs : Choice (k.ForPath wish_to.Exec) (rule.Known known.Execve) no_words
  plain : (number : Option ℕ) → Choice k.PlainCall (rule.Plain number) no_words
  socket : (family : ℕ) → Choice (k.ForFamily family) (rule.Known known.Socket) (one_word 0 family)
  wide_socket : (family : ℕ) → Choice (k.ForFamily family) (rule.Known known.Socket) (one_word 0 (2 ^ 32 + family))
  socketcall : (family : ℕ) → Choice (k.ForFamily family) (rule.Known known.Socketcall) (one_word 0 1)
  socketpair : (family : ℕ) → eqb family 1 ≡ true → Choice (k.ForFamily family) (rule.Known known.Socketpair) (one_word 0 1)
  unshare : (space : NamespaceType) → Choice (k.ForNamespace space) (rule.Known known.Unshare) (one_word 0 (flag_of space))
  clone : (space : NamespaceType) → Choice (k.ForNamespace space) (rule.Known known.Clone) (one_word 0 (flag_of space))
  clone3 : (space : NamespaceType) → Choice (k.ForNamespace space) (rule.Known known.Clone3) no_words
  maps : Choice k.MapsWx (rule.Known known.Map) (one_word 2 6)
  protects : Choice k.ProtectsX (rule.Known known.Protect) (one_word 2 4)
  attaches : Choice k.AttachesX (rule.Known known.Attach) (one_word 2 0x8000)
  attaches_to_read : Choice k.AttachesReadOnlyX (rule.Known known.Attach) (one_word 2 0x9000)
  schedules : Choice k.SchedulesRealtime (rule.Known known.Schedule) (one_word 1 1)
  sets_attributes : Choice k.SetsRealtime (rule.Known known.SetAttributes) no_words
  personality : Choice k.TakesPersonality (rule.Known known.Personality) (one_word 0 8)
  mode : (at : Argument) → Choice k.SetsMode (rule.Known (known.SetMode at)) (one_word (place_of at) 0x800)
  opens_mode : (at : Argument) → Choice k.OpensMode (rule.Known (known.OpenWith at)) (made_words at)
  creates_mode : Choice k.CreatesMode (rule.Known known.CreateWith) (one_word 1 0x800)
  mounts : Choice k.ChangesMounts (rule.Known known.Mount) no_words
  unmounts : Choice k.RemovesMounts (rule.Known known.Umount) no_words
  capset : Choice k.SetsCaps (rule.Known known.Capset) no_words
  setuid : Choice k.TakesUid (rule.Known known.Setuid) no_words
  setresuid : Choice k.TakesUid (rule.Known known.Setresuid) no_words
  setreuid : Choice k.TakesUid (rule.Known known.Setreuid) no_words
  setgid : Choice k.TakesGid (rule.Known known.Setgid) no_words
  setresgid : Choice k.TakesGid (rule.Known known.Setresgid) no_words
  setregid : Choice k.TakesGid (rule.Known known.Setregid) no_words
  setgroups : Choice k.TakesGid (rule.Known known.Setgroups) no_words
  sets_up_ring : Choice k.SetsUpRing (rule.Known known.SetUpRing) no_words
  submits : Choice k.Submits (rule.Known known.Submit) no_words

as_asked : {kind : CallKind} {own : Rule} {are args : List ℕ} → Choice kind own are → Some are ≡ Some args → Choice kind own args
as_asked {kind} {own} choice e = subst (Choice kind own) (cc) choice

of_pair : (family : ℕ) (args : List ℕ) (b : Bool) → eqb family 1 ≡ b → cond {A = Option (List ℕ)} b (Some (one_word 0 1)) None ≡ Some args
    → Choice (k.ForFamily family) (rule.Known known.Socketpair) args
of_pair family args true is = as_asked (socketpair family is)
of_pair family args false is = λ e. cc

pub of_words : (kind : CallKind) (own : Rule) (args : List ℕ) → words kind own ≡ Some args → Choice kind own args
of_words (k.ForPath wish_to.See) (rule.Known known.See) args = as_asked sees
of_words (k.ForPath wish_to.Read) (rule.Known (known.Open at)) args = as_asked (reads at)
of_words (k.ForPath wish_to.Write) (rule.Known (known.Open at)) args = as_asked (opens at)
of_words (k.ForPath wish_to.Read) (rule.Known (known.OpenWith at)) args = as_asked (reads_with at)
of_words (k.ForPath wish_to.Write) (rule.Known (known.OpenWith at)) args = as_asked (opens_with at)
of_words (k.ForPath wish_to.Read) (rule.Known known.Openat2) args = as_asked reads_how
of_words (k.ForPath wish_to.Write) (rule.Known known.Openat2) args = as_asked opens_how
of_words (k.ForPath wish_to.Write) (rule.Known known.Create) args = as_asked creates
of_words (k.ForPath wish_to.Write) (rule.Known known.CreateWith) args = as_asked creates_with
of_words (k.ForPath wish_to.Write) (rule.Known known.Truncate) args = as_asked truncates
of_words (k.ForPath wish_to.Exec) (rule.Known known.Execve) args = as_asked execs
of_words k.PlainCall (rule.Plain number) args = as_asked (plain number)
of_words (k.ForFamily family) (rule.Known known.Socket) args = as_asked (socket family)
of_words (k.ForFamily family) (rule.Known known.Socketcall) args = as_asked (socketcall family)
of_words (k.ForFamily family) (rule.Known known.Socketpair) args = of_pair family args (eqb family 1) refl
of_words (k.ForNamespace space) (rule.Known known.Unshare) args = as_asked (unshare space)
of_words (k.ForNamespace space) (rule.Known known.Clone) args = as_asked (clone space)
of_words (k.ForNamespace space) (rule.Known known.Clone3) args = as_asked (clone3 space)
of_words k.MapsWx (rule.Known known.Map) args = as_asked maps
of_words k.ProtectsX (rule.Known known.Protect) args = as_asked protects
of_words k.AttachesX (rule.Known known.Attach) args = as_asked attaches
of_words k.AttachesReadOnlyX (rule.Known known.Attach) args = as_asked attaches_to_read
of_words k.SchedulesRealtime (rule.Known known.Schedule) args = as_asked schedules
of_words k.SetsRealtime (rule.Known known.SetAttributes) args = as_asked sets_attributes
of_words k.TakesPersonality (rule.Known known.Personality) args = as_asked personality
of_words k.SetsMode (rule.Known (known.SetMode at)) args = as_asked (mode at)
of_words k.OpensMode (rule.Known (known.OpenWith at)) args = as_asked (opens_mode at)
of_words k.CreatesMode (rule.Known known.CreateWith) args = as_asked creates_mode
of_words k.ChangesMounts (rule.Known known.Mount) args = as_asked mounts
of_words k.RemovesMounts (rule.Known known.Umount) args = as_asked unmounts
of_words k.SetsCaps (rule.Known known.Capset) args = as_asked capset
of_words k.TakesUid (rule.Known known.Setuid) args = as_asked setuid
of_words k.TakesUid (rule.Known known.Setresuid) args = as_asked setresuid
of_words k.TakesUid (rule.Known known.Setreuid) args = as_asked setreuid
of_words k.TakesGid (rule.Known known.Setgid) args = as_asked setgid
of_words k.TakesGid (rule.Known known.Setresgid) args = as_asked setresgid
of_words k.TakesGid (rule.Known known.Setregid) args = as_asked setregid
of_words k.TakesGid (rule.Known known.Setgroups) args = as_asked setgroups
of_words k.SetsUpRing (rule.Known known.SetUpRing) args = as_asked sets_up_ring
of_words k.Submits (rule.Known known.Submit) args = as_asked submits
of_words kind own args = λ e. cc

of_wide : (kind : CallKind) (own : Rule) (args : List ℕ) → wide_words kind own ≡ Some args → Choice kind own args
of_wide (k.ForFamily family) (rule.Known known.Socket) args = as_asked (wide_socket family)
of_wide kind own args = λ e. cc

-- the words with which a call is made
pub of_chosen : (launch : Launch) (kind : CallKind) (abi nr : ℕ) (own : Rule) (args : List ℕ)
    → chosen_words launch kind abi nr own ≡ Some args → Choice kind own args
of_chosen launch kind abi nr own args = by (lets_words launch abi nr (words kind own)) (wide_words kind own) refl
  where
    by : (b : Bool) (wide : Option (List ℕ)) → wide_words kind own ≡ wide → cond b (words kind own) (option_or wide (words kind own)) ≡ Some args
        → Choice kind own args
    by true wide is e = of_words kind own args e
    by false None is e = of_words kind own args e
    by false (Some wide) is e = of_wide kind own args (is ∙ e)

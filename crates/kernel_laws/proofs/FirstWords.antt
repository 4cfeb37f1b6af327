-- Each call that asks for a kind of thing has words that ask for it first; so filters that go by the number alone let the
-- first choice through where they let any through.
use Rattle.std.proofs.Common.{◌≡◌, ℕ, Bool, true, false, cond, eqb, List, Option, Some, None, refl, sym, ap, ◌∙◌, subst}
use Rattle.std.specs.Prelude.{◌||◌, is_some}
use Rattle.std.proofs.lemmas.Bool.{or_left, or_right, and_parts, eqb-true}
use Rattle.kernel_model.specs.abs_path.Paths.{Path}
use Rattle.kernel_model.specs.kernel_calls.Words.{low_word}
use Rattle.kernel_model.specs.declared.kernel_calls.payload.Payload.TheVariants as pay
use Rattle.kernel_model.specs.declared.kernel_calls.payload.Payload.{Payload}
use Rattle.filter_settings.specs.linux_numbers.Limits.{no_id}
use Rattle.filter_settings.specs.call_table.call_names.Known.{mode_place_of, place_of}
use Rattle.filter_settings.specs.call_table.declared.call_names.rule.Argument.{Argument}
use Rattle.kernel_model.specs.declared.kernel_calls.request.Request.{Request}
use Rattle.kernel_model.specs.declared.kernel_calls.rule.Rule.TheVariants as rule
use Rattle.filter_settings.specs.call_table.declared.call_names.rule.CallRule.TheVariants as known
use Rattle.kernel_model.specs.declared.kernel_calls.rule.Rule.{Rule}
use Rattle.kernel_model.specs.kernel_calls.Operation as d
use Rattle.kernel_model.specs.kernel_calls.Operation.{Operation, operation_by}
use Rattle.kernel_laws.specs.Denied.{called_path}
use Rattle.kernel_laws.specs.declared.question_types.wish.Wish.{Wish}
use Rattle.kernel_laws.specs.declared.question_types.kind.CallKind.{CallKind}
use Rattle.kernel_laws.specs.declared.question_types.wish.Wish.TheVariants as wish_to
use Rattle.kernel_laws.specs.declared.question_types.kind.CallKind.TheVariants as k
use Rattle.kernel_laws.specs.Kinds.{asks, words, one_word}

pub record Has (kind : CallKind) (rule' : Rule) : Type 0 where
  pub args : List ℕ
  pub are : words kind rule' ≡ Some args

abbrev Given : Operation → Rule → Type 0
Given operation rule' = (kind : CallKind) → asks kind operation ≡ true → Has kind rule'

-- what names no path asks for nothing by path
abbrev names : Wish → Operation → Bool
names wish own = is_some (called_path wish own)

abbrev names_path : Operation → Bool
names_path own = names wish_to.See own || (names wish_to.Read own || (names wish_to.Write own || names wish_to.Exec own))

pub no_wish : {X : Type 0} (own : Operation) → names_path own ≡ false → (wish : Wish) → asks (k.ForPath wish) own ≡ true → X
no_wish own off wish_to.See h = let on : names_path own ≡ true = or_left _ _ h in cc
no_wish own off wish_to.Read h = let on : names_path own ≡ true = or_right (names wish_to.See own) _ (or_left _ _ h) in cc
no_wish own off wish_to.Write h = let on : names_path own ≡ true = or_right (names wish_to.See own) _ (or_right (names wish_to.Read own) _ (or_left _ _ h)) in cc
no_wish own off wish_to.Exec h = let on : names_path own ≡ true = or_right (names wish_to.See own) _ (or_right (names wish_to.Read own) _ (or_right (names wish_to.Write own) _ h)) in cc

given-See : (path : Path) → Given (d.See path) (rule.Known known.See)
given-See path (k.ForPath wish_to.See) h = record { args = _; are = refl }
given-See path (k.ForPath wish_to.Read) h = cc
given-See path (k.ForPath wish_to.Write) h = cc
given-See path (k.ForPath wish_to.Exec) h = cc
given-See path kind h = cc

given-Open : (args : List ℕ) (at : Argument) (path : Path) → Given (d.Open (low_word args (place_of at)) 0 path) (rule.Known (known.Open at))
given-Open args at path (k.ForPath wish_to.Read) h = record { args = _; are = refl }
given-Open args at path (k.ForPath wish_to.Write) h = record { args = _; are = refl }
given-Open args at path (k.ForPath wish_to.See) h = cc
given-Open args at path (k.ForPath wish_to.Exec) h = cc
given-Open args at path kind h = cc

given-OpenWith : (args : List ℕ) (at : Argument) (path : Path)
    → Given (d.Open (low_word args (place_of at)) (low_word args (mode_place_of at)) path) (rule.Known (known.OpenWith at))
given-OpenWith args at path (k.ForPath wish_to.Read) h = record { args = _; are = refl }
given-OpenWith args at path (k.ForPath wish_to.Write) h = record { args = _; are = refl }
given-OpenWith args at path (k.ForPath wish_to.See) h = cc
given-OpenWith args at path (k.ForPath wish_to.Exec) h = cc
given-OpenWith args at path k.OpensMode h = record { args = _; are = refl }
given-OpenWith args at path kind h = cc

given-Openat2 : (flags : ℕ) (path : Path) → Given (d.Open flags 0 path) (rule.Known known.Openat2)
given-Openat2 flags path (k.ForPath wish_to.Read) h = record { args = _; are = refl }
given-Openat2 flags path (k.ForPath wish_to.Write) h = record { args = _; are = refl }
given-Openat2 flags path (k.ForPath wish_to.See) h = cc
given-Openat2 flags path (k.ForPath wish_to.Exec) h = cc
given-Openat2 flags path kind h = cc

given-Create : (path : Path) → Given (d.Create 0 path) (rule.Known known.Create)
given-Create path (k.ForPath wish_to.Write) h = record { args = _; are = refl }
given-Create path (k.ForPath wish_to.See) h = cc
given-Create path (k.ForPath wish_to.Read) h = cc
given-Create path (k.ForPath wish_to.Exec) h = cc
given-Create path kind h = cc

given-CreateWith : (args : List ℕ) (path : Path) → Given (d.Create (low_word args 1) path) (rule.Known known.CreateWith)
given-CreateWith args path (k.ForPath wish_to.Write) h = record { args = _; are = refl }
given-CreateWith args path (k.ForPath wish_to.See) h = cc
given-CreateWith args path (k.ForPath wish_to.Read) h = cc
given-CreateWith args path (k.ForPath wish_to.Exec) h = cc
given-CreateWith args path k.CreatesMode h = record { args = _; are = refl }
given-CreateWith args path kind h = cc

given-Truncate : (path : Path) → Given (d.Truncate path) (rule.Known known.Truncate)
given-Truncate path (k.ForPath wish_to.Write) h = record { args = _; are = refl }
given-Truncate path (k.ForPath wish_to.See) h = cc
given-Truncate path (k.ForPath wish_to.Read) h = cc
given-Truncate path (k.ForPath wish_to.Exec) h = cc
given-Truncate path kind h = cc

given-Execve : (path : Path) → Given (d.Execve path) (rule.Known known.Execve)
given-Execve path (k.ForPath wish_to.Exec) h = record { args = _; are = refl }
given-Execve path (k.ForPath wish_to.See) h = cc
given-Execve path (k.ForPath wish_to.Read) h = cc
given-Execve path (k.ForPath wish_to.Write) h = cc
given-Execve path kind h = cc

given-SetMode : (args : List ℕ) (at : Argument) → Given (d.SetMode (low_word args (place_of at))) (rule.Known (known.SetMode at))
given-SetMode args at k.SetsMode h = record { args = _; are = refl }
given-SetMode args at (k.ForPath wish) h = no_wish (d.SetMode (low_word args (place_of at))) refl wish h
given-SetMode args at kind h = cc

given-Map : (args : List ℕ) → Given (d.Map (low_word args 2)) (rule.Known known.Map)
given-Map args k.MapsWx h = record { args = _; are = refl }
given-Map args (k.ForPath wish) h = no_wish (d.Map (low_word args 2)) refl wish h
given-Map args kind h = cc

given-Protect : (args : List ℕ) → Given (d.Protect (low_word args 2)) (rule.Known known.Protect)
given-Protect args k.ProtectsX h = record { args = _; are = refl }
given-Protect args (k.ForPath wish) h = no_wish (d.Protect (low_word args 2)) refl wish h
given-Protect args kind h = cc

given-Attach : (args : List ℕ) → Given (d.Attach (low_word args 2)) (rule.Known known.Attach)
given-Attach args k.AttachesX h = record { args = _; are = refl }
given-Attach args k.AttachesReadOnlyX h = record { args = _; are = refl }
given-Attach args (k.ForPath wish) h = no_wish (d.Attach (low_word args 2)) refl wish h
given-Attach args kind h = cc

given-Schedule : (args : List ℕ) → Given (d.Schedule (low_word args 1)) (rule.Known known.Schedule)
given-Schedule args k.SchedulesRealtime h = record { args = _; are = refl }
given-Schedule args (k.ForPath wish) h = no_wish (d.Schedule (low_word args 1)) refl wish h
given-Schedule args kind h = cc

given-Personality : (args : List ℕ) → Given (d.Personality (low_word args 0)) (rule.Known known.Personality)
given-Personality args k.TakesPersonality h = record { args = _; are = refl }
given-Personality args (k.ForPath wish) h = no_wish (d.Personality (low_word args 0)) refl wish h
given-Personality args kind h = cc

given-Socket : (args : List ℕ) → Given (d.Socket (low_word args 0)) (rule.Known known.Socket)
given-Socket args (k.ForFamily family) h = record { args = _; are = refl }
given-Socket args (k.ForPath wish) h = no_wish (d.Socket (low_word args 0)) refl wish h
given-Socket args kind h = cc

given-SetAttributes : (policy : ℕ) → Given (d.SetAttributes policy) (rule.Known known.SetAttributes)
given-SetAttributes policy k.SetsRealtime h = record { args = _; are = refl }
given-SetAttributes policy (k.ForPath wish) h = no_wish (d.SetAttributes policy) refl wish h
given-SetAttributes policy kind h = cc

given-Socketcall : (args : List ℕ) (family : ℕ) → Given (d.Socketcall (low_word args 0) family) (rule.Known known.Socketcall)
given-Socketcall args family (k.ForFamily own) h = record { args = _; are = refl }
given-Socketcall args family (k.ForPath wish) h = no_wish (d.Socketcall (low_word args 0) family) refl wish h
given-Socketcall args family kind h = cc

given-Socketpair : (args : List ℕ) → Given (d.Socketpair (low_word args 0)) (rule.Known known.Socketpair)
given-Socketpair args (k.ForFamily family) h =
    let both = and_parts (eqb (low_word args 0) 1) (eqb (low_word args 0) family) h in
    let is : eqb family 1 ≡ true = ap (λ n. eqb n 1) (sym (eqb-true (low_word args 0) family both.1)) ∙ both.0 in
    record { args = one_word 0 1; are = ap (λ b. cond {A = Option (List ℕ)} b (Some (one_word 0 1)) None) is }
given-Socketpair args (k.ForPath wish) h = no_wish (d.Socketpair (low_word args 0)) refl wish h
given-Socketpair args kind h = cc

given-Enter : Given (d.Enter) (rule.Known known.Enter)
given-Enter (k.ForPath wish) h = no_wish d.Enter refl wish h
given-Enter kind h = cc

given-Fork : Given (d.Fork) (rule.Known known.Fork)
given-Fork (k.ForPath wish) h = no_wish d.Fork refl wish h
given-Fork kind h = cc

given-Clone : (args : List ℕ) → Given (d.Clone (low_word args 0)) (rule.Known known.Clone)
given-Clone args (k.ForNamespace space) h = record { args = _; are = refl }
given-Clone args (k.ForPath wish) h = no_wish (d.Clone (low_word args 0)) refl wish h
given-Clone args kind h = cc

given-Clone3 : (flags : ℕ) → Given (d.Clone flags) (rule.Known known.Clone3)
given-Clone3 flags (k.ForNamespace space) h = record { args = _; are = refl }
given-Clone3 flags (k.ForPath wish) h = no_wish (d.Clone flags) refl wish h
given-Clone3 flags kind h = cc

given-Unshare : (args : List ℕ) → Given (d.Unshare (low_word args 0)) (rule.Known known.Unshare)
given-Unshare args (k.ForNamespace space) h = record { args = _; are = refl }
given-Unshare args (k.ForPath wish) h = no_wish (d.Unshare (low_word args 0)) refl wish h
given-Unshare args kind h = cc

given-Exit : Given (d.Exit) (rule.Known known.Exit)
given-Exit (k.ForPath wish) h = no_wish d.Exit refl wish h
given-Exit kind h = cc

given-Mount : (args : List ℕ) (source target : Path) → Given (d.Mount source target (low_word args 3)) (rule.Known known.Mount)
given-Mount args source target k.ChangesMounts h = record { args = _; are = refl }
given-Mount args source target (k.ForPath wish) h = no_wish (d.Mount source target (low_word args 3)) refl wish h
given-Mount args source target kind h = cc

given-Umount : (args : List ℕ) (path : Path) → Given (d.Umount path (low_word args 1)) (rule.Known known.Umount)
given-Umount args path k.RemovesMounts h = record { args = _; are = refl }
given-Umount args path (k.ForPath wish) h = no_wish (d.Umount path (low_word args 1)) refl wish h
given-Umount args path kind h = cc

given-Setuid : (args : List ℕ) → Given (d.Setuid (low_word args 0)) (rule.Known known.Setuid)
given-Setuid args k.TakesUid h = record { args = _; are = refl }
given-Setuid args (k.ForPath wish) h = no_wish (d.Setuid (low_word args 0)) refl wish h
given-Setuid args kind h = cc

given-Setgid : (args : List ℕ) → Given (d.Setgid (low_word args 0)) (rule.Known known.Setgid)
given-Setgid args k.TakesGid h = record { args = _; are = refl }
given-Setgid args (k.ForPath wish) h = no_wish (d.Setgid (low_word args 0)) refl wish h
given-Setgid args kind h = cc

given-Setresuid : (args : List ℕ) → Given (d.Setresuid (low_word args 0) (low_word args 1) (low_word args 2)) (rule.Known known.Setresuid)
given-Setresuid args k.TakesUid h = record { args = _; are = refl }
given-Setresuid args (k.ForPath wish) h = no_wish (d.Setresuid (low_word args 0) (low_word args 1) (low_word args 2)) refl wish h
given-Setresuid args kind h = cc

given-Setresgid : (args : List ℕ) → Given (d.Setresgid (low_word args 0) (low_word args 1) (low_word args 2)) (rule.Known known.Setresgid)
given-Setresgid args k.TakesGid h = record { args = _; are = refl }
given-Setresgid args (k.ForPath wish) h = no_wish (d.Setresgid (low_word args 0) (low_word args 1) (low_word args 2)) refl wish h
given-Setresgid args kind h = cc

given-Setreuid : (args : List ℕ) → Given (d.Setresuid (low_word args 0) (low_word args 1) no_id) (rule.Known known.Setreuid)
given-Setreuid args k.TakesUid h = record { args = _; are = refl }
given-Setreuid args (k.ForPath wish) h = no_wish (d.Setresuid (low_word args 0) (low_word args 1) no_id) refl wish h
given-Setreuid args kind h = cc

given-Setregid : (args : List ℕ) → Given (d.Setresgid (low_word args 0) (low_word args 1) no_id) (rule.Known known.Setregid)
given-Setregid args k.TakesGid h = record { args = _; are = refl }
given-Setregid args (k.ForPath wish) h = no_wish (d.Setresgid (low_word args 0) (low_word args 1) no_id) refl wish h
given-Setregid args kind h = cc

given-Setgroups : (ids : List ℕ) → Given (d.Setgroups ids) (rule.Known known.Setgroups)
given-Setgroups ids k.TakesGid h = record { args = _; are = refl }
given-Setgroups ids (k.ForPath wish) h = no_wish (d.Setgroups ids) refl wish h
given-Setgroups ids kind h = cc

given-Capset : (p e i : ℕ) → Given (d.Capset p e i) (rule.Known known.Capset)
given-Capset p e i k.SetsCaps h = record { args = _; are = refl }
given-Capset p e i (k.ForPath wish) h = no_wish (d.Capset p e i) refl wish h
given-Capset p e i kind h = cc

abbrev prctl_of : List ℕ → Operation
prctl_of args = d.Prctl (low_word args 0) (low_word args 1) (low_word args 2) (low_word args 3) (low_word args 4)

given-Prctl : (args : List ℕ) → Given (prctl_of args) (rule.Known known.Prctl)
given-Prctl args (k.ForPath wish) h = no_wish (prctl_of args) refl wish h
given-Prctl args kind h = cc

given-Seccomp : (args : List ℕ) (bytes : List ℕ) → Given (d.Seccomp (low_word args 0) (low_word args 1) bytes) (rule.Known known.Seccomp)
given-Seccomp args bytes (k.ForPath wish) h = no_wish (d.Seccomp (low_word args 0) (low_word args 1) bytes) refl wish h
given-Seccomp args bytes kind h = cc

given-SetUpRing : Given d.SetUpRing (rule.Known known.SetUpRing)
given-SetUpRing k.SetsUpRing h = record { args = _; are = refl }
given-SetUpRing (k.ForPath wish) h = no_wish d.SetUpRing refl wish h
given-SetUpRing kind h = cc

given-Submit : (request : Request) → Given (d.Submit request) (rule.Known known.Submit)
given-Submit request k.Submits h = record { args = _; are = refl }
given-Submit request (k.ForPath wish) h = no_wish (d.Submit request) refl wish h
given-Submit request kind h = cc

given-Plain : (number : Option ℕ) → Given (d.Plain number) (rule.Plain number)
given-Plain number k.PlainCall h = record { args = _; are = refl }
given-Plain number (k.ForPath wish) h = no_wish (d.Plain number) refl wish h
given-Plain number kind h = cc

by_same : (own operation : Operation) (rule' : Rule) → Given own rule' → own ≡ operation → Given operation rule'
by_same own operation rule' g e = let P : Operation → Type 0 = λ x. Given x rule' in subst P e g

pub has_words : (rule' : Rule) (args : List ℕ) (payload : Payload) (operation : Operation) → operation_by rule' args payload ≡ Some operation
    → Given operation rule'
has_words (rule.Known known.See) args (pay.OnePath path) operation f = by_same (d.See path) operation (rule.Known known.See) (given-See path) (cc)
has_words (rule.Known known.See) args payload operation f = cc
has_words (rule.Known (known.Open at)) args (pay.OnePath path) operation f =
    by_same (d.Open (low_word args (place_of at)) 0 path) operation (rule.Known (known.Open at)) (given-Open args at path) (cc)
has_words (rule.Known (known.Open at)) args payload operation f = cc
has_words (rule.Known (known.OpenWith at)) args (pay.OnePath path) operation f =
    by_same (d.Open (low_word args (place_of at)) (low_word args (mode_place_of at)) path) operation (rule.Known (known.OpenWith at))
    (given-OpenWith args at path) (cc)
has_words (rule.Known (known.OpenWith at)) args payload operation f = cc
has_words (rule.Known known.Openat2) args (pay.PathFlags path flags) operation f =
    by_same (d.Open flags 0 path) operation (rule.Known known.Openat2) (given-Openat2 flags path) (cc)
has_words (rule.Known known.Openat2) args payload operation f = cc
has_words (rule.Known known.Create) args (pay.OnePath path) operation f =
    by_same (d.Create 0 path) operation (rule.Known known.Create) (given-Create path) (cc)
has_words (rule.Known known.Create) args payload operation f = cc
has_words (rule.Known known.CreateWith) args (pay.OnePath path) operation f =
    by_same (d.Create (low_word args 1) path) operation (rule.Known known.CreateWith) (given-CreateWith args path) (cc)
has_words (rule.Known known.CreateWith) args payload operation f = cc
has_words (rule.Known known.Truncate) args (pay.OnePath path) operation f =
    by_same (d.Truncate path) operation (rule.Known known.Truncate) (given-Truncate path) (cc)
has_words (rule.Known known.Truncate) args payload operation f = cc
has_words (rule.Known known.Execve) args (pay.OnePath path) operation f =
    by_same (d.Execve path) operation (rule.Known known.Execve) (given-Execve path) (cc)
has_words (rule.Known known.Execve) args payload operation f = cc
has_words (rule.Known (known.SetMode at)) args pay.Nothing operation f =
    by_same (d.SetMode (low_word args (place_of at))) operation (rule.Known (known.SetMode at)) (given-SetMode args at) (cc)
has_words (rule.Known (known.SetMode at)) args payload operation f = cc
has_words (rule.Known known.Map) args pay.Nothing operation f = by_same (d.Map (low_word args 2)) operation (rule.Known known.Map)
    (given-Map args) (cc)
has_words (rule.Known known.Map) args payload operation f = cc
has_words (rule.Known known.Protect) args pay.Nothing operation f =
    by_same (d.Protect (low_word args 2)) operation (rule.Known known.Protect) (given-Protect args) (cc)
has_words (rule.Known known.Protect) args payload operation f = cc
has_words (rule.Known known.Attach) args pay.Nothing operation f =
    by_same (d.Attach (low_word args 2)) operation (rule.Known known.Attach) (given-Attach args) (cc)
has_words (rule.Known known.Attach) args payload operation f = cc
has_words (rule.Known known.Schedule) args pay.Nothing operation f =
    by_same (d.Schedule (low_word args 1)) operation (rule.Known known.Schedule) (given-Schedule args) (cc)
has_words (rule.Known known.Schedule) args payload operation f = cc
has_words (rule.Known known.SetAttributes) args (pay.Number policy) operation f =
    by_same (d.SetAttributes policy) operation (rule.Known known.SetAttributes) (given-SetAttributes policy) (cc)
has_words (rule.Known known.SetAttributes) args payload operation f = cc
has_words (rule.Known known.Personality) args pay.Nothing operation f =
    by_same (d.Personality (low_word args 0)) operation (rule.Known known.Personality) (given-Personality args) (cc)
has_words (rule.Known known.Personality) args payload operation f = cc
has_words (rule.Known known.Socket) args pay.Nothing operation f =
    by_same (d.Socket (low_word args 0)) operation (rule.Known known.Socket) (given-Socket args) (cc)
has_words (rule.Known known.Socket) args payload operation f = cc
has_words (rule.Known known.Socketcall) args (pay.Number family) operation f =
    by_same (d.Socketcall (low_word args 0) family) operation (rule.Known known.Socketcall) (given-Socketcall args family) (cc)
has_words (rule.Known known.Socketcall) args payload operation f = cc
has_words (rule.Known known.Socketpair) args pay.Nothing operation f =
    by_same (d.Socketpair (low_word args 0)) operation (rule.Known known.Socketpair) (given-Socketpair args) (cc)
has_words (rule.Known known.Socketpair) args payload operation f = cc
has_words (rule.Known known.Enter) args pay.Nothing operation f = by_same (d.Enter) operation (rule.Known known.Enter) given-Enter (cc)
has_words (rule.Known known.Enter) args payload operation f = cc
has_words (rule.Known known.Fork) args pay.Nothing operation f = by_same (d.Fork) operation (rule.Known known.Fork) given-Fork (cc)
has_words (rule.Known known.Fork) args payload operation f = cc
has_words (rule.Known known.Clone) args pay.Nothing operation f =
    by_same (d.Clone (low_word args 0)) operation (rule.Known known.Clone) (given-Clone args) (cc)
has_words (rule.Known known.Clone) args payload operation f = cc
has_words (rule.Known known.Clone3) args (pay.Number flags) operation f =
    by_same (d.Clone flags) operation (rule.Known known.Clone3) (given-Clone3 flags) (cc)
has_words (rule.Known known.Clone3) args payload operation f = cc
has_words (rule.Known known.Unshare) args pay.Nothing operation f =
    by_same (d.Unshare (low_word args 0)) operation (rule.Known known.Unshare) (given-Unshare args) (cc)
has_words (rule.Known known.Unshare) args payload operation f = cc
has_words (rule.Known known.Exit) args pay.Nothing operation f = by_same (d.Exit) operation (rule.Known known.Exit) given-Exit (cc)
has_words (rule.Known known.Exit) args payload operation f = cc
has_words (rule.Known known.Mount) args (pay.TwoPaths source target) operation f =
    by_same (d.Mount source target (low_word args 3)) operation (rule.Known known.Mount) (given-Mount args source target) (cc)
has_words (rule.Known known.Mount) args payload operation f = cc
has_words (rule.Known known.Umount) args (pay.OnePath path) operation f =
    by_same (d.Umount path (low_word args 1)) operation (rule.Known known.Umount) (given-Umount args path) (cc)
has_words (rule.Known known.Umount) args payload operation f = cc
has_words (rule.Known known.Setuid) args pay.Nothing operation f =
    by_same (d.Setuid (low_word args 0)) operation (rule.Known known.Setuid) (given-Setuid args) (cc)
has_words (rule.Known known.Setuid) args payload operation f = cc
has_words (rule.Known known.Setgid) args pay.Nothing operation f =
    by_same (d.Setgid (low_word args 0)) operation (rule.Known known.Setgid) (given-Setgid args) (cc)
has_words (rule.Known known.Setgid) args payload operation f = cc
has_words (rule.Known known.Setresuid) args pay.Nothing operation f =
    by_same (d.Setresuid (low_word args 0) (low_word args 1) (low_word args 2)) operation (rule.Known known.Setresuid) (given-Setresuid args)
    (cc)
has_words (rule.Known known.Setresuid) args payload operation f = cc
has_words (rule.Known known.Setresgid) args pay.Nothing operation f =
    by_same (d.Setresgid (low_word args 0) (low_word args 1) (low_word args 2)) operation (rule.Known known.Setresgid) (given-Setresgid args)
    (cc)
has_words (rule.Known known.Setresgid) args payload operation f = cc
has_words (rule.Known known.Setreuid) args pay.Nothing operation f =
    by_same (d.Setresuid (low_word args 0) (low_word args 1) no_id) operation (rule.Known known.Setreuid) (given-Setreuid args) (cc)
has_words (rule.Known known.Setreuid) args payload operation f = cc
has_words (rule.Known known.Setregid) args pay.Nothing operation f =
    by_same (d.Setresgid (low_word args 0) (low_word args 1) no_id) operation (rule.Known known.Setregid) (given-Setregid args) (cc)
has_words (rule.Known known.Setregid) args payload operation f = cc
has_words (rule.Known known.Setgroups) args (pay.Ids ids) operation f =
    by_same (d.Setgroups ids) operation (rule.Known known.Setgroups) (given-Setgroups ids) (cc)
has_words (rule.Known known.Setgroups) args payload operation f = cc
has_words (rule.Known known.Capset) args (pay.Sets p e i) operation f =
    by_same (d.Capset p e i) operation (rule.Known known.Capset) (given-Capset p e i) (cc)
has_words (rule.Known known.Capset) args payload operation f = cc
has_words (rule.Known known.Prctl) args pay.Nothing operation f =
    by_same (prctl_of args) operation (rule.Known known.Prctl) (given-Prctl args) (cc)
has_words (rule.Known known.Prctl) args payload operation f = cc
has_words (rule.Known known.Seccomp) args (pay.Code bytes) operation f =
    by_same (d.Seccomp (low_word args 0) (low_word args 1) bytes) operation (rule.Known known.Seccomp) (given-Seccomp args bytes) (cc)
has_words (rule.Known known.Seccomp) args payload operation f = cc
has_words (rule.Known known.SetUpRing) args pay.Nothing operation f =
    by_same d.SetUpRing operation (rule.Known known.SetUpRing) given-SetUpRing (cc)
has_words (rule.Known known.SetUpRing) args payload operation f = cc
has_words (rule.Known known.Submit) args (pay.Ring request) operation f =
    by_same (d.Submit request) operation (rule.Known known.Submit) (given-Submit request) (cc)
has_words (rule.Known known.Submit) args payload operation f = cc
has_words (rule.Plain number) args pay.Nothing operation f = by_same (d.Plain number) operation (rule.Plain number) (given-Plain number) (cc)
has_words (rule.Plain number) args payload operation f = cc

-- A launched service: what it begins with, what its filters let through, and the facts that a launch ensures.
use Rattle.std.specs.Prelude.{◌≡◌, ℕ, ◌<◌, ◌^◌, ◌&&◌, nat_lt, Bool, true, false, if◌then◌else◌, List, [], ◌∷◌, All, slice_get}
use Rattle.std.specs.Prelude.{Option, Some, None}
use Rattle.std.specs.Option.{option_or}
use Rattle.std.specs.List.{list_any}
use Rattle.filter_settings.specs.bpf_code.declared.machine.Insn.{Insn}
use Rattle.filter_settings.specs.bpf_code.declared.machine.CallData.{CallData}
use Rattle.filter_settings.specs.bpf_code.declared.decision.Decision.{Decision}
use Rattle.filter_settings.specs.bpf_code.declared.decision.Decision.TheVariants as decision
use Rattle.filter_settings.specs.bpf_code.Meaning.{IsCallData}
use Rattle.filter_settings.specs.bpf_code.Stack.{answers_of, decision_on}
use Rattle.filter_settings.specs.bpf_code.Refusing.{ArePlain}
use Rattle.kernel_model.specs.cap_sets.Sets.{IsWithin}
use Rattle.filter_settings.specs.call_table.declared.listed.CallLine.{CallLine}
use Rattle.filter_settings.specs.call_table.Table as calls
use Rattle.filter_settings.specs.call_table.Lookups.{IsInRange, place_numbered}
use Rattle.filter_settings.specs.call_table.Facts.{AreOf}
use Rattle.filter_settings.specs.call_table.Kernels.{AreBy}
use Rattle.filter_settings.specs.call_table.declared.call_names.kernel.Kernel.{Kernel}
use Rattle.kernel_model.specs.site_table.Table.{Site}
use Rattle.kernel_model.specs.kern_creds.declared.creds.Creds.{Creds}
use Rattle.kernel_model.specs.kern_creds.Start as creds
use Rattle.kernel_model.specs.kern_mounts.Mounts.{ArePlain as ArePlainMounts}
use Rattle.kernel_model.specs.kern_mounts.Split.{Table}
use Rattle.kernel_model.specs.kern_mounts.Table.{StartsAtRoot}
use Rattle.kernel_model.specs.kern_mounts.Unmounts.{IsOrdered}
use Rattle.kernel_model.specs.declared.kernel_calls.payload.Payload.{Payload}
use Rattle.kernel_model.specs.declared.kernel_calls.rule.Rule.{Rule}
use Rattle.kernel_model.specs.kernel_calls.Rules.{rule_of, rule_at}
use Rattle.kernel_model.specs.kernel_calls.Operation.{Operation, operation_by}
use Rattle.kernel_model.specs.declared.process.Process.{Process}
use Rattle.kernel_model.specs.World.{World, of_number, process_of, namespace_of, mounts_of, table_of, owner_of}
use Rattle.kernel_laws.specs.Kinds.{asks, words, wide_words, AreWords}
use Rattle.kernel_laws.specs.declared.question_types.kind.CallKind.{CallKind}
use Rattle.kernel_laws.specs.declared.question_types.kind.CallKind.TheVariants.{ForNamespace, SetsCaps, SetsUpRing, Submits}
use Rattle.filter_settings.specs.linux_numbers.declared.namespaces.NamespaceType.TheVariants.{User}

-- the table of calls and the site that the kernel is given, and process 1: its credentials(7), its filters (seccomp(2)), the oldest
-- first, and its mount table (mount_namespaces(7))
pub record Launch : Type 0 where
  pub calls : calls.Table
  pub site : Site
  pub creds : Creds
  pub stack : List (List Insn)
  pub table : Table

-- the data of a call by this ABI, with this number and these words
abbrev pub data_at : Launch → ℕ → ℕ → List ℕ → CallData
data_at launch abi nr args = record { nr = nr; arch = calls.arch_of launch.calls abi; ip = 0; args = args }

-- the filters let such a call through
abbrev pub passes : Launch → ℕ → ℕ → List ℕ → Type 0
passes launch abi nr args = decision_on launch.stack (data_at launch abi nr args) ≡ decision.Pass

-- the call is let through
abbrev pub is_pass : Decision → Bool
is_pass decision.Pass = true
is_pass (decision.Errno errno) = false
is_pass decision.Kill = false

-- they let a call with these words through, if there are any
abbrev pub lets_words : Launch → ℕ → ℕ → Option (List ℕ) → Bool
lets_words launch abi nr None = false
lets_words launch abi nr (Some args) = is_pass (decision_on launch.stack (data_at launch abi nr args))

-- the words with which a call of the rule is made: those that ask for the kind first, and the wide ones only where the filters stop these
abbrev pub chosen_words : Launch → CallKind → ℕ → ℕ → Rule → Option (List ℕ)
chosen_words launch kind abi nr rule =
    if lets_words launch abi nr (words kind rule) then words kind rule else option_or (wide_words kind rule) (words kind rule)

-- they let a call of the rule through, if there is one, with these words
abbrev pub lets_rule : Launch → CallKind → ℕ → ℕ → Option Rule → Bool
lets_rule launch kind abi nr None = false
lets_rule launch kind abi nr (Some rule) = lets_words launch abi nr (chosen_words launch kind abi nr rule)

-- the call of this line, by its ABI, can ask for the kind, and the filters let it through with these words
abbrev pub lets_line : Launch → CallKind → CallLine → Bool
lets_line launch kind line = lets_rule launch kind line.abi line.number (rule_of line)

-- some call of the table does, in whatever ABI
unfoldable pub lets : Launch → CallKind → Bool
lets launch kind = list_any (lets_line launch kind) (calls.every_call launch.calls)

-- a user namespace can be made, user_namespaces(7): the host allows one, and some call passes that asks for one
abbrev pub can_make_user : Launch → Bool
can_make_user launch = nat_lt 0 launch.site.user_namespaces && lets launch (ForNamespace User)

-- processes can set up rings, io_uring_setup(2): the host allows it, and some call for it passes
abbrev pub makes_ring : Launch → Bool
makes_ring launch = launch.site.io_uring && lets launch SetsUpRing

-- and submit requests to them, io_uring_enter(2)
abbrev pub can_submit : Launch → Bool
can_submit launch = makes_ring launch && lets launch Submits

-- of calls that the filters let through and that ask for one kind, the one with the chosen words passes too
pub record Chosen (launch : Launch) (kind : CallKind) (rule : Rule) (abi nr : ℕ) : Type 0 where
  pub args : List ℕ
  pub are : chosen_words launch kind abi nr rule ≡ Some args
  pub passes : passes launch abi nr args

-- what a launch leaves
pub record IsLaunched (launch : Launch) : Type 0 where
  -- each ABI gives a number once: the line of a place is what its number finds; a line says its ABI; a name has one capability;
  -- one kernel reads the names; and calls have numbers of 32 bits
  pub calls_once : (abi at : ℕ) (line : CallLine) → slice_get (calls.calls_in launch.calls abi) at ≡ Some line
      → place_numbered line.number (calls.calls_in launch.calls abi) ≡ Some at
  pub calls_of_abi : (abi : ℕ) → AreOf abi (calls.calls_in launch.calls abi)
  pub one_cap : All (λ line. All (λ other. line.name ≡ other.name → line.cap ≡ other.cap) (calls.every_call launch.calls))
      (calls.every_call launch.calls)
  pub one_kernel : (kernel : Kernel) × AreBy kernel (calls.every_call launch.calls)
  pub families_once : (at : ℕ) (line : CallLine) → slice_get launch.calls.families at ≡ Some line
      → place_numbered line.number launch.calls.families ≡ Some at
  pub calls_in_range : (abi : ℕ) → All IsInRange (calls.calls_in launch.calls abi)
  pub arch : (abi : ℕ) → calls.arch_of launch.calls abi < 2 ^ 32
  -- the three uids are one, and the three gids
  pub real : launch.creds.uids.real ≡ launch.creds.uids.effective
  pub saved : launch.creds.uids.saved ≡ launch.creds.uids.effective
  pub real_gid : launch.creds.gids.real ≡ launch.creds.gids.effective
  pub saved_gid : launch.creds.gids.saved ≡ launch.creds.gids.effective
  -- the execve(2) of the launch closed a ring
  pub no_ring : launch.creds.ring ≡ false
  -- the program is not privileged, so all that is permitted is effective
  pub full : launch.creds.effective ≡ launch.creds.permitted
  pub ambient_inheritable : IsWithin launch.creds.ambient launch.creds.inheritable
  pub ambient_permitted : IsWithin launch.creds.ambient launch.creds.permitted
  pub inheritable_bounding : IsWithin launch.creds.inheritable launch.creds.bounding
  -- what is inheritable is effective, unless some call of capset(2) passes
  pub inheritable_effective : lets launch SetsCaps ≡ false → IsWithin launch.creds.inheritable launch.creds.effective
  pub root : launch.creds.uids.effective ≡ 0 → IsWithin launch.creds.bounding launch.creds.effective
  -- the table starts at `/`, and no later place leads to an earlier one
  pub rooted : StartsAtRoot launch.table
  pub ordered : IsOrdered launch.table
  -- the programs refuse for good or let through, and look at no more words than the chosen ones need
  pub plain : (input : CallData) → IsCallData input → ArePlain (answers_of launch.stack input)
  pub chosen : (kind : CallKind) (abi nr : ℕ) (args : List ℕ) (rule : Rule) (payload : Payload) (operation : Operation) → nr < 2 ^ 32
      → AreWords args
      → rule_at (calls.calls_in launch.calls abi) nr ≡ Some rule → operation_by rule args payload ≡ Some operation → asks kind operation ≡ true
      → passes launch abi nr args → Chosen launch kind rule abi nr

-- process 1 of a world
abbrev pub process_or : Option Process → Process
process_or None = record { creds = creds.start; stack = []; namespace = 0; user = 0; alive = false }
process_or (Some process) = process

abbrev pub first_of : World → Process
first_of world = process_or (process_of world 1)

-- the launch that it shows
abbrev pub launch_of : World → Launch
launch_of world = record {
  calls = world.calls;
  site = world.site;
  creds = (first_of world).creds;
  stack = (first_of world).stack;
  table = table_of world (first_of world).namespace;
}

-- the world that a launch leaves: process 1 alone, living, in the first user namespace, and in a mount namespace of it
pub record IsLaunchedWorld (world : World) : Type 0 where
  pub alone : world.processes ≡ first_of world ∷ []
  pub lives : (first_of world).alive ≡ true
  pub user : (first_of world).user ≡ 1
  pub home : owner_of world (first_of world).namespace ≡ 1
  -- no other user namespace was made
  pub no_users : world.users ≡ 0
  pub own : of_number world.namespaces (first_of world).namespace ≡ Some (namespace_of world (first_of world).namespace)
  -- no mount of it is locked, and none keeps a flag
  pub plain : ArePlainMounts (mounts_of world (first_of world).namespace)
  pub launched : IsLaunched (launch_of world)

-- systemd.exec(5), RestrictRealtime=: no scheduling policy but the ordinary ones (sched(7)).
use Rattle.std.specs.Prelude.{ℕ, ◌==◌, ◌&&◌, ◌||◌, not, Bool, Option, List, codes}
use Rattle.std.specs.Str.{bytes_eq}
use Rattle.call_rules.specs.bpf_code.declared.machine.CallData.{CallData}
use Rattle.dropin_merge.specs.unit_names.declared.version.Version.{Version}
use Rattle.filter_settings.specs.filter_rules.Actions.{meets}

abbrev pub sched_other : ℕ
sched_other = 0

abbrev pub sched_batch : ℕ
sched_batch = 3

abbrev pub sched_idle : ℕ
sched_idle = 5

abbrev pub is_ordinary : ℕ → Bool
is_ordinary policy = policy == sched_other || (policy == sched_batch || policy == sched_idle)

-- sched_setscheduler(2) with another policy, which is argument 1
abbrev pub refuses_policy : Option Version → List ℕ → CallData → Bool
refuses_policy systemd name input = bytes_eq name (codes "sched_setscheduler") && not (meets systemd input 1 is_ordinary)

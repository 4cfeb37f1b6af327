-- The kinds of calls that the filters of a launch let through, exactly.
use Rattle.std.specs.Prelude.{◌≡◌, ◌&&◌, ◌||◌, not, Bool}
use Rattle.kernel_ways.specs.kernel_laws.declared.question_types.kind.CallKind.TheVariants.{ForPath, ChangesMounts, RemovesMounts, SetsCaps}
use Rattle.kernel_ways.specs.kernel_laws.declared.question_types.kind.CallKind.TheVariants.{TakesUid, TakesGid}
use Rattle.kernel_ways.specs.kernel_laws.declared.question_types.wish.Wish.{Wish}
use Rattle.kernel_ways.specs.kernel_laws.declared.question_types.wish.Wish.TheVariants.{See as ToSee, Read as ToRead, Write as ToWrite}
use Rattle.kernel_ways.specs.kernel_laws.declared.question_types.wish.Wish.TheVariants.{Exec as ToExec}
use Rattle.kernel_ways.specs.kernel_laws.Launched.{Launch, can_submit, lets}
use Rattle.kernel_ways.specs.kernel_laws.Bound.{is_to_exec}
use Rattle.ceilings.specs.declared.passing.PathCalls.{PathCalls}
use Rattle.ceilings.specs.declared.passing.Passing as made

-- whether the call for this wish passes
abbrev pub passes : PathCalls → Wish → Bool
passes calls ToSee = calls.see
passes calls ToRead = calls.read
passes calls ToWrite = calls.write
passes calls ToExec = calls.exec

-- whether it passes, or a request for the wish can be submitted to a ring: none executes a file
abbrev pub asks_for : PathCalls → Wish → Bool
asks_for calls wish = passes calls wish || (not (is_to_exec wish) && calls.submit)

-- stat(2) and similar calls; open(2); open(2), creat(2) and truncate(2); execve(2); requests to a ring
pub record ArePathCalls (launch : Launch) (calls : PathCalls) : Type 0 where
  pub see : calls.see ≡ lets launch (ForPath ToSee)
  pub read : calls.read ≡ lets launch (ForPath ToRead)
  pub write : calls.write ≡ lets launch (ForPath ToWrite)
  pub exec : calls.exec ≡ lets launch (ForPath ToExec)
  pub submit : calls.submit ≡ can_submit launch

-- mount(2); umount2(2); capset(2); setuid(2) and setresuid(2); setgid(2), setresgid(2) and setgroups(2)
pub record ArePassing (launch : Launch) (passing : made.Passing) : Type 0 where
  pub mounts : passing.mounts ≡ lets launch ChangesMounts
  pub unmounts : passing.unmounts ≡ lets launch RemovesMounts
  pub sets_caps : passing.sets_caps ≡ lets launch SetsCaps
  pub takes_uid : passing.takes_uid ≡ lets launch TakesUid
  pub takes_gid : passing.takes_gid ≡ lets launch TakesGid

-- Who makes the calls of a list: process 1, which runs the service's program, and in one case its child.
use Rattle.std.specs.Prelude.{◌≡◌, ℕ, true, List, [], ◌∷◌}
use Rattle.ceilings.specs.call_table.Table.{Table}
use Rattle.ceilings.specs.kernel_model.kern_files.Bits.{has_all}
use Rattle.ceilings.specs.kernel_model.kernel_calls.Operation.{Clone, Does, asked_of}
use Rattle.ceilings.specs.kernel_model.declared.kernel_calls.call.Call.{Call}
use Rattle.questions.specs.linux_numbers.declared.namespaces.NamespaceType.TheVariants.{User}
use Rattle.ceilings.specs.linux_numbers.Namespaces.{flag_of}

-- the call asks for a child in a user namespace of its own: clone(2) with CLONE_NEWUSER, user_namespaces(7)
pub record MakesUserChild (table : Table) (call : Call) : Type 0 where
  pub flags : ℕ
  pub asks : asked_of table call ≡ Does (Clone flags)
  pub newer : has_all (flag_of User) flags ≡ true

-- process 1 makes each call; but for one last call after such a clone, which the child makes: process 2
pub data AreMadeByService (table : Table) : List Call → Type 0 where
  no_more : AreMadeByService table []
  by_first : (call : Call) (calls : List Call) → call.pid ≡ 1 → AreMadeByService table calls → AreMadeByService table (call ∷ calls)
  by_child : (maker last : Call) → maker.pid ≡ 1 → MakesUserChild table maker → last.pid ≡ 2 → AreMadeByService table (maker ∷ last ∷ [])

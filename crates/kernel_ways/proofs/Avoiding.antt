-- Lists in which no call asks for a kind of thing.
use Rattle.std.proofs.Common.{◌≡◌, false, List, [], ◌∷◌, ◌++◌, ap, ◌∙◌}
use Rattle.std.specs.List.{AllByRecursion}
use Rattle.launcher.specs.kern_creds.declared.creds.Creds.{Creds}
use Rattle.launcher.specs.kernel_model.declared.kernel_calls.call.Call.{Call}
use Rattle.launcher.specs.kernel_model.kernel_calls.Operation.{Operation, Does, asked_of}
use Rattle.launcher.specs.kernel_model.Effects.{Effect}
use Rattle.launcher.specs.kernel_laws.declared.question_types.kind.CallKind.{CallKind}
use Rattle.launcher.specs.kernel_laws.Kinds.{asks}
use Rattle.launcher.specs.kernel_laws.Launched.{Launch}
use Rattle.launcher.specs.kern_mounts.Split.{Table}
use Rattle.kernel_ways.specs.Ways.{Makes}

abbrev pub AvoidsOne : Launch → CallKind → Call → Type 0
AvoidsOne launch kind call = (operation : Operation) → asked_of launch.calls call ≡ Does operation → asks kind operation ≡ false

abbrev pub Avoids : Launch → CallKind → List Call → Type 0
Avoids launch kind calls = AllByRecursion (AvoidsOne launch kind) calls

same_operation : (launch : Launch) (call : Call) (one other : Operation) → asked_of launch.calls call ≡ Does one
    → asked_of launch.calls call ≡ Does other → one ≡ other
same_operation launch call one other e g = cc

pub avoid_one : (launch : Launch) (creds : Creds) (table : Table) (operation : Operation) (call : Call) (effect : Effect)
    → Makes launch creds table operation call effect → (kind : CallKind) → asks kind operation ≡ false → AvoidsOne launch kind call
avoid_one launch creds table operation call effect m kind off other e = ap (asks kind) (same_operation launch call other operation e m.asks) ∙ off

pub avoid_join : (launch : Launch) (kind : CallKind) (xs ys : List Call) → Avoids launch kind xs → Avoids launch kind ys
    → Avoids launch kind (xs ++ ys)
avoid_join launch kind [] ys h g = g
avoid_join launch kind (x ∷ xs) ys h g = (h.0, avoid_join launch kind xs ys h.1 g)

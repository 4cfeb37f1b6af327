-- A way shows what its last call answers, or what its credentials have.
use Rattle.std.proofs.Common.{◌≡◌, ℕ, true, refl, ap, sym, subst}
use Rattle.launcher.specs.cap_sets.Sets.{has}
use Rattle.launcher.specs.call_table.Table as calls
use Rattle.launcher.specs.kern_creds.declared.creds.Creds.{Creds}
use Rattle.launcher.specs.kern_mounts.Split.{Table}
use Rattle.launcher.specs.kernel_model.declared.kernel_calls.call.Call.{Call}
use Rattle.launcher.specs.kernel_model.kernel_calls.Operation.{Operation}
use Rattle.launcher.specs.kernel_model.Effects.{Effect}
use Rattle.launcher.specs.kernel_model.Runs.{moment_at, IsDone}
use Rattle.launcher.specs.kernel_model.Step.{step}
use Rattle.launcher.specs.kernel_model.World.{World}
use Rattle.launcher.specs.kernel_laws.Denied.{Performs, Reaches, Holds, HasGid, asks_family, asks_space, asks_map, asks_protect}
use Rattle.launcher.specs.kernel_laws.Denied.{asks_attach, asks_realtime, asks_personality, asks_mode}
use Rattle.launcher.specs.kernel_laws.Launched.{Launch}
use Rattle.launcher.specs.kernel_laws.declared.question_types.question.Question.{Question}
use Rattle.launcher.specs.kernel_laws.declared.question_types.question.Question.TheVariants as asking
use Rattle.kernel_ways.specs.Showing.{Answers, HaveAsked, CallsShow, CredsShow, WaysAreDone, ServedIsSolo}
use Rattle.kernel_ways.specs.Ways.{IsSolo, Makes}
use Rattle.kernel_ways.proofs.Starts.{starts_solo, holds, reaches_row, performs, reaches_call}
use Rattle.kernel_ways.proofs.Solo.{way_runs, shows_last, shows_held}

module _ (launch : Launch) (creds : Creds) (table : Table) (world : World) (solo : IsSolo launch creds table world) where
  -- the families stay those of the launch
  family_reached : (place : ℕ) (operation : Operation) (call : Call) (effect : Effect) → Makes launch creds table operation call effect
      → asks_family launch.calls.families place operation ≡ true → IsDone (step world call).0
      → Reaches (asking.Socket place) (moment_at world call)
  family_reached place operation call effect m such done =
      let P : calls.Table → Type 0 = λ t. Performs (asks_family t.families place) (moment_at world call) in
      subst P (sym (ap (λ (w : World). w.calls) solo.is))
      (performs launch creds table world solo (asks_family launch.calls.families place) operation call effect m such done)

  pub reached : (question : Question) (operation : Operation) (call : Call) (effect : Effect) → Makes launch creds table operation call effect
      → Answers launch table question call operation → IsDone (step world call).0 → Reaches question (moment_at world call)
  reached (asking.Path wish place) operation call effect m a done =
      reaches_row launch creds table world solo wish place a.1 a.3 operation call effect m a.0 a.2 a.4 done
  reached (asking.Call place) operation call effect m a done = reaches_call launch creds table world solo place a.0 a.1 a.2 call a.3 a.4 done
  reached (asking.Socket place) operation call effect m a done = family_reached place operation call effect m a done
  reached (asking.Namespace space) operation call effect m a done =
      performs launch creds table world solo (asks_space space) operation call effect m a done
  reached asking.MapWx operation call effect m a done = performs launch creds table world solo asks_map operation call effect m a done
  reached asking.ProtectX operation call effect m a done = performs launch creds table world solo asks_protect operation call effect m a done
  reached asking.ShmX operation call effect m a done = performs launch creds table world solo asks_attach operation call effect m a done
  reached asking.Realtime operation call effect m a done = performs launch creds table world solo asks_realtime operation call effect m a done
  reached asking.Personality operation call effect m a done = performs launch creds table world solo asks_personality operation call effect m a done
  reached asking.SuidBit operation call effect m a done = performs launch creds table world solo asks_mode operation call effect m a done
  reached (asking.Cap number) operation call effect m a done = absurd a
  reached (asking.Uid id) operation call effect m a done = absurd a
  reached (asking.Gid id) operation call effect m a done = absurd a

  pub held : (question : Question) → HaveAsked question creds → Holds question world
  held (asking.Cap number) h = holds launch creds table world solo
      (λ process. (has process.creds.effective number ≡ true) × (process.user ≡ 1)) (h, refl)
  held (asking.Uid id) h = holds launch creds table world solo (λ process. process.creds.uids.effective ≡ id) h
  held (asking.Gid id) h = holds launch creds table world solo (λ process. HasGid id process.creds) h
  held question h = absurd h

pub calls_show : CallsShow
calls_show launch from to table now world calls question operation last effect solo way m doable a =
    shows_last way world solo question operation last effect m doable
    (λ after own done. reached launch to now after own question operation last effect m a done)

pub creds_show : CredsShow
creds_show launch from to table now world calls question solo way h =
    shows_held way world solo question (λ after own. held launch to now after own question h)

pub ways_are_done : WaysAreDone
ways_are_done launch from to table now world calls solo way = let w = way_runs way world solo in record { fit = w.fit; done = w.done; solo = w.solo }

pub served_is_solo : ServedIsSolo
served_is_solo world s = starts_solo world s.launched s.few

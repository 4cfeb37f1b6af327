-- The chosen calls that set up a ring and submit a request to it show what the request asks for.
use Rattle.std.proofs.Common.{◌≡◌, true, List, [], ◌∷◌, ◌++◌, ap, ◌∙◌, sym, subst, append_assoc}
use Rattle.std.proofs.lemmas.Bool.{and_parts}
use Rattle.ceilings.specs.kern_creds.declared.creds.Creds.{Creds}
use Rattle.ceilings.specs.kern_creds.Ring.{after_set_up_ring}
use Rattle.ceilings.specs.kern_mounts.Split.{Table}
use Rattle.ceilings.specs.kernel_model.kernel_calls.Operation.{Operation}
use Rattle.ceilings.specs.kernel_model.declared.kernel_calls.call.Call.{Call}
use Rattle.ceilings.specs.kernel_model.declared.kernel_calls.payload.Payload.TheVariants.{Nothing, Ring}
use Rattle.ceilings.specs.kernel_model.declared.kernel_calls.request.Request.{Request}
use Rattle.ceilings.specs.kernel_model.Effects.{Effect}
use Rattle.ceilings.specs.kernel_model.World.{World}
use Rattle.ceilings.specs.kernel_laws.Denied.{Shows}
use Rattle.ceilings.specs.kernel_laws.declared.question_types.kind.CallKind.TheVariants.{SetsUpRing, Submits}
use Rattle.ceilings.specs.kernel_laws.declared.question_types.question.Question.{Question}
use Rattle.ceilings.specs.kernel_laws.Launched.{Launch, IsLaunched, can_submit, lets, makes_ring}
use Rattle.ceilings.specs.kernel_ways.Showing.{Answers, IsDoable}
use Rattle.ceilings.specs.kernel_ways.Ways.{Way, IsSolo, Makes}
use Rattle.ceilings.proofs.OfKernelWays.ByRing.{Ringing, ring_by, ring_behind, submit_by}
use Rattle.ceilings.proofs.OfKernelWays.Showing.{calls_show}
use Rattle.open_calls.specs.chosen_calls.Chosen.{ring_call, submit_calls}
use Rattle.open_calls.specs.chosen_calls.First.{call_by}
use Rattle.open_calls.proofs.FirstLines.{chosen, call_is}

-- the lines of the chosen calls
pub record ChosenRing (launch : Launch) : Type 0 where
  pub ring : Ringing launch
  pub sets_up_is : ring_call launch ≡ ring_by ring.sets_up
  pub submits_is : (request : Request) → call_by launch Submits (Ring request) ≡ submit_by ring.submits request

pub chosen_ring : (launch : Launch) → IsLaunched launch → can_submit launch ≡ true → ChosenRing launch
chosen_ring launch l e =
    let both = and_parts (makes_ring launch) (lets launch Submits) e in
    let own = and_parts launch.site.io_uring (lets launch SetsUpRing) both.0 in
    let c = chosen launch l SetsUpRing own.1 in
    let d = chosen launch l Submits both.1 in
    record {
      ring = record { rings = own.0; sets_up = c.line; submits = d.line };
      sets_up_is = call_is c Nothing;
      submits_is = λ request. call_is d (Ring request);
    }

-- behind a way, by a request that is performed
pub ring_shown : (world : World) (launch : Launch) (s : IsSolo launch launch.creds launch.table world) (c : ChosenRing launch)
    (question : Question) (front : List Call) (creds : Creds) (now : Table) → Way launch launch.creds launch.table front creds now
    → (request : Request) (operation : Operation) (effect : Effect)
    → Makes launch (after_set_up_ring creds) now operation (submit_by c.ring.submits request) effect → IsDoable effect
    → Answers launch now question (submit_by c.ring.submits request) operation → Shows world question (front ++ submit_calls launch request)
ring_shown world launch s c question front creds now way request operation effect makes doable answers =
    let ring = ring_by c.ring.sets_up in
    let submit = submit_by c.ring.submits request in
    let shown = calls_show launch launch.creds (after_set_up_ring creds) launch.table now world (front ++ ring ∷ []) question operation submit effect s (ring_behind launch launch.creds creds launch.table now front way c.ring) makes doable answers in
    subst (Shows world question)
    (append_assoc front (ring ∷ []) (submit ∷ []) ∙ ap (λ call. front ++ call ∷ submit ∷ []) (sym c.sets_up_is)
    ∙ ap (λ call. front ++ ring_call launch ∷ call ∷ []) (sym (c.submits_is request))) shown

-- A process sets up a ring, and a request to it shows a question.
use Rattle.std.proofs.Common.{◌≡◌, ℕ, Bool, true, false, List, [], ◌∷◌, ◌++◌, Option, Some, None, refl, ap, ◌∙◌, arith, ◌<◌}
use Rattle.std.specs.Prelude.{◌^◌}
use Rattle.std.proofs.lemmas.Bool.{and_parts}
use Rattle.launcher.specs.abs_path.Paths.{Path}
use Rattle.launcher.specs.call_table.declared.call_names.rule.CallRule.TheVariants as known
use Rattle.launcher.specs.call_table.declared.listed.CallLine.{CallLine}
use Rattle.launcher.specs.call_table.Lookups.{numbered}
use Rattle.launcher.specs.site_table.declared.row.Row.{Row}
use Rattle.launcher.specs.site_table.Kinds.{is_dir}
use Rattle.launcher.specs.site_table.Table.{row_at}
use Rattle.launcher.specs.kern_creds.declared.creds.Creds.{Creds}
use Rattle.launcher.specs.kern_creds.Ring.{after_set_up_ring}
use Rattle.launcher.specs.kern_mounts.Finds.{row, finds}
use Rattle.launcher.specs.kern_mounts.Split.{Table}
use Rattle.launcher.specs.kernel_model.kern_files.Looking.{flags_at}
use Rattle.launcher.specs.kernel_model.kernel_calls.Calls.{FitsRequest, IsPath}
use Rattle.launcher.specs.kernel_model.kernel_calls.Operation as d
use Rattle.launcher.specs.kernel_model.kernel_calls.Operation.{Operation}
use Rattle.launcher.specs.kernel_model.declared.kernel_calls.call.Call.{Call}
use Rattle.launcher.specs.kernel_model.declared.kernel_calls.payload.Payload.TheVariants as pay
use Rattle.launcher.specs.kernel_model.declared.kernel_calls.request.Request.{Request}
use Rattle.launcher.specs.kernel_model.declared.kernel_calls.request.Request.TheVariants as ask
use Rattle.launcher.specs.kernel_model.declared.kernel_calls.rule.Rule.{Rule}
use Rattle.launcher.specs.kernel_model.declared.kernel_calls.rule.Rule.TheVariants as rule
use Rattle.launcher.specs.kernel_model.Effects as f
use Rattle.launcher.specs.kernel_model.Effects.{SetCreds, set_up_effect, socket_effect}
use Rattle.launcher.specs.kernel_laws.Denied.{asks_mode}
use Rattle.launcher.specs.kernel_laws.Kinds.{mode_request, no_words, wish_request}
use Rattle.launcher.specs.kernel_laws.Launched.{Launch, IsLaunched, can_submit, lets, makes_ring}
use Rattle.launcher.specs.kernel_laws.Reach.{fits, mount_wish}
use Rattle.launcher.specs.kernel_laws.declared.question_types.kind.CallKind.TheVariants as k
use Rattle.launcher.specs.kernel_laws.declared.question_types.wish.Wish.TheVariants.{See as ToSee, Read as ToRead, Write as ToWrite}
use Rattle.kernel_ways.specs.Ways.{Way, by_creds, here, request_on, Makes, host_at, caller_at, place_of, CallAt, IsCallAt, rule_there}
use Rattle.kernel_ways.specs.Ways.{passes_at}
use Rattle.kernel_ways.proofs.Choices as choices
use Rattle.kernel_ways.proofs.Lines.{Line, choice_of, first_by, make, some_line, zeros}
use Rattle.kernel_ways.proofs.Operations.{PathCall, Performed, seen, written}
use Rattle.kernel_ways.proofs.Performing.{CapAtHand, cap_lets}
use Rattle.kernel_ways.proofs.Solo.{way_join}

-- a ring gives no capability and takes none
pub as_capable : (creds : Creds) (o : Option ℕ) → CapAtHand creds o → CapAtHand (after_set_up_ring creds) o
as_capable creds None h = tt
as_capable creds (Some number) h = h

-- the call that sets a ring up, and the one that submits a request
abbrev pub ring_by : {launch : Launch} → Line launch k.SetsUpRing → Call
ring_by line = first_by (place_of line.line) line.args pay.Nothing

abbrev pub submit_by : {launch : Launch} → Line launch k.Submits → Request → Call
submit_by line request = first_by (place_of line.line) line.args (pay.Ring request)

-- both can be made
pub record Ringing (launch : Launch) : Type 0 where
  pub rings : launch.site.io_uring ≡ true
  pub sets_up : Line launch k.SetsUpRing
  pub submits : Line launch k.Submits

pub ringing : (launch : Launch) → IsLaunched launch → can_submit launch ≡ true → Ringing launch
ringing launch l e =
    let both = and_parts (makes_ring launch) (lets launch k.Submits) e in
    let own = and_parts launch.site.io_uring (lets launch k.SetsUpRing) both.0 in
    record { rings = own.0; sets_up = some_line launch l k.SetsUpRing own.1; submits = some_line launch l k.Submits both.1 }

module _ (launch : Launch) (creds : Creds) (table : Table) where
  abbrev with_ring : Creds
  with_ring = after_set_up_ring creds

  set_up : {own : Rule} {args : List ℕ} → (nr : CallAt) → IsCallAt nr → rule_there launch nr ≡ Some own → passes_at launch nr args
      → choices.Choice k.SetsUpRing own args → launch.site.io_uring ≡ true
      → Makes launch creds table d.SetUpRing (first_by nr args pay.Nothing) (SetCreds 3 with_ring)
  set_up nr n at t choices.sets_up_ring rings = make launch creds table nr (rule.Known known.SetUpRing) no_words pay.Nothing d.SetUpRing
      (SetCreds 3 with_ring) n zeros tt at refl t (ap (λ b. set_up_effect b creds) rings)

  -- a ring set up is a way by itself
  pub sets_up : (r : Ringing launch) → Way launch creds table (ring_by r.sets_up ∷ []) with_ring table
  sets_up r =
      let line = r.sets_up in
      by_creds (ring_by line) (set_up (place_of line.line) line.number line.at line.through (choice_of line) r.rings) here

  -- a request that is performed
  submitted : (request : Request) (value : ℕ) → FitsRequest request
      → request_on (host_at launch) (caller_at launch with_ring table) table request ≡ f.Answer value
      → {own : Rule} {args : List ℕ} → (nr : CallAt) → IsCallAt nr → rule_there launch nr ≡ Some own → passes_at launch nr args
      → choices.Choice k.Submits own args
      → Makes launch with_ring table (d.Submit request) (first_by nr args (pay.Ring request)) (f.Answer value)
  submitted request value fit e nr n at t choices.submits = make launch with_ring table nr (rule.Known known.Submit) no_words
      (pay.Ring request) (d.Submit request) (f.Answer value) n zeros fit at refl t e

  asked : (request : Request) (value : ℕ) → FitsRequest request
      → request_on (host_at launch) (caller_at launch with_ring table) table request ≡ f.Answer value → (r : Ringing launch)
      → Makes launch with_ring table (d.Submit request) (submit_by r.submits request) (f.Answer value)
  asked request value fit e r =
      let line = r.submits in submitted request value fit e (place_of line.line) line.number line.at line.through (choice_of line)

  -- for a path
  module _ (path : Path) (fit : IsPath path) (target : Row) (found : finds (row_at launch.site.rows) table path ≡ row target) where
    pub see_asked : (r : Ringing launch) → PathCall launch with_ring table ToSee path (submit_by r.submits (wish_request ToSee path))
    see_asked r = record {
      operation = d.Submit (ask.Stat path);
      effect = f.Answer 0;
      makes = asked (ask.Stat path) 0 fit (seen launch with_ring table path fit target found 0) r;
      doable = tt;
      wanted = refl;
    }

    pub read_asked : (r : Ringing launch) → PathCall launch with_ring table ToRead path (submit_by r.submits (wish_request ToRead path))
    read_asked r = record {
      operation = d.Submit (ask.Open path 0);
      effect = f.Answer 3;
      makes = asked (ask.Open path 0) 3 (fit, omega arith) (seen launch with_ring table path fit target found 3) r;
      doable = tt;
      wanted = refl;
    }

    pub write_asked : is_dir target.kind ≡ false → fits (mount_wish target.kind ToWrite) (flags_at table path) ≡ true → (r : Ringing launch)
        → PathCall launch with_ring table ToWrite path (submit_by r.submits (wish_request ToWrite path))
    write_asked file writes r = record {
      operation = d.Submit (ask.Open path 1);
      effect = f.Answer 3;
      makes = asked (ask.Open path 1) 3 (fit, omega arith) (written launch with_ring table path fit target found file writes 3) r;
      doable = tt;
      wanted = refl;
    }

  -- for a socket
  pub socket_asked : (family : CallLine) → family.number < 2 ^ 32 → numbered family.number launch.calls.families ≡ Some family
      → CapAtHand creds family.cap → (p : Operation → Bool) → p (d.Submit (ask.Socket family.number)) ≡ true → (r : Ringing launch)
      → Performed launch with_ring table p (submit_by r.submits (ask.Socket family.number))
  socket_asked family small found can p such r = record {
    operation = d.Submit (ask.Socket family.number);
    effect = f.Answer 3;
    makes = asked (ask.Socket family.number) 3 small
        (ap (socket_effect false with_ring) found ∙ cap_lets with_ring family.cap (f.Answer 3) (as_capable creds family.cap can)) r;
    doable = tt;
    such = such;
  }

  -- for a set-id bit
  pub mode_asked : (r : Ringing launch) → Performed launch with_ring table asks_mode (submit_by r.submits mode_request)
  mode_asked r = record {
    operation = d.Submit mode_request;
    effect = f.Answer 0;
    makes = asked mode_request 0 (omega arith) refl r;
    doable = tt;
    such = refl;
  }

-- a way, and a ring set up behind it
pub ring_behind : (launch : Launch) (from creds : Creds) (table now : Table) (calls : List Call) → Way launch from table calls creds now
    → (r : Ringing launch) → Way launch from table (calls ++ ring_by r.sets_up ∷ []) (after_set_up_ring creds) now
ring_behind launch from creds table now calls way r = way_join way (sets_up launch creds now r)

-- Services with which all are pleased, and sets that have one.
use Rattle.std.proofs.Common.{◌≡◌, ◌≢◌, ◌⊎◌, inl, inr, ℕ, suc, ◌+◌, ◌-◌, ◌≤◌, Bool, true, false, cond, List, [], ◌∷◌, filter, length}
use Rattle.std.proofs.Common.{Option, Some, None, Result, Ok, Err, refl, sym, ap, ◌∙◌, subst, arith}
use Rattle.std.specs.Prelude.{Contains, IfOk, map, not}
use Rattle.std.specs.List.{All}
use Rattle.std.specs.List.Sorted.{IsStrictlyIncreasing}
use Rattle.std.specs.Result.{IsErrAnd}
use Rattle.std.proofs.lemmas.List.{length-map}
use Rattle.std.specs.declared.alloc.AllocError.{AllocError}
use Rattle.asked_service.proofs.Exact.{rows_are}
use Rattle.asked_service.specs.Asked.{IsBounded, is_open_by}
use Rattle.asked_service.specs.Rows.{AreRows, count_denied, count_open, rows_of}
use Rattle.asked_service.specs.declared.bounding.Bounded.{Bounded}
use Rattle.asked_service.specs.declared.rows.VerdictRow.{VerdictRow}
use Rattle.asked_service.specs.call_table.Table as calls
use Rattle.asked_service.specs.dropin_merge.declared.resolved.Resolved.{Resolved}
use Rattle.asked_service.specs.kernel_laws.Launched.{Launch}
use Rattle.asked_service.specs.kernel_laws.Questions.{questions}
use Rattle.asked_service.specs.kernel_model.World.{World}
use Rattle.asked_service.specs.kernel_ways.Laws.{QuestionsAreExact}
use Rattle.asked_service.specs.launching.Launched.{IsLaunchedUnit, IsNotLaunched}
use Rattle.asked_service.specs.declared.launching.refusal.Refusal.{Refusal}
use Rattle.asked_service.specs.declared.launching.refusal.Refusal.TheVariants as refusal
use Rattle.asked_service.specs.launcher.declared.launched.Launched.{Launched as Service}
use Rattle.asked_service.specs.kernel_laws.declared.question_types.question.Question.{Question}
use Rattle.asked_service.specs.site_table.Table.{Site}
use Rattle.tighten_command.specs.tightening.Items.{has, in_order, tightened}
use Rattle.tighten_command.specs.tightening.Searching.{IsHeld, IsMost, IsOver, IsServing, Lacks, Pleasing, Tells}
use Rattle.tighten_command.specs.tightening.Tight.{AreCounts, Denies, IsTight, RefusesWish}
use Rattle.tighten_command.specs.tightening.Tried.{Displeases, IsFirst, IsGranted, IsKept, IsShut, Pleases, Refuses, Serves, Stops, Tried}
use Rattle.tighten_command.specs.tightening.Tried.{denies, displeases, not_launched, refuses}
use Rattle.tighten_command.specs.declared.tightening.searching.Held.{Held}
use Rattle.tighten_command.specs.declared.tightening.tight.Tight.{Tight}
use Rattle.tighten_command.specs.declared.tightening.tight.TightenError.{TightenError}
use Rattle.tighten_command.specs.declared.tightening.trial.Lack.{Lack}
use Rattle.tighten_command.specs.declared.tightening.trial.Lack.TheVariants.{Keep, Wish}
use Rattle.tighten_command.proofs.Found.{first_in}
use Rattle.tighten_command.proofs.Sets.{has_in_order, in_order_ascends, in_order_within, ordered_set, ordered_with}

-- a launched unit has the tables that it was launched over
pub same_calls : (unit : Resolved) (table : calls.Table) (site : Site) (service : Service) → IsLaunchedUnit unit table site service
    → service.world.calls ≡ table
same_calls unit table site service launched = ap (λ (made : Launch). made.calls) launched.launched.leaves_one_process.leaves.is

pub same_site : (unit : Resolved) (table : calls.Table) (site : Site) (service : Service) → IsLaunchedUnit unit table site service
    → service.world.site ≡ site
same_site unit table site service launched = ap (λ (made : Launch). made.site) launched.launched.leaves_one_process.leaves.is

module _ (tried : Tried) where
  -- it can be asked what the tables ask
  pub is_over : (unit : Resolved) (bounded : Bounded) → IsLaunchedUnit unit tried.table tried.site bounded.service → IsBounded bounded
      → IsOver tried bounded
  is_over unit bounded launched is = record {
    is_bounded = is;
    calls = same_calls unit tried.table tried.site bounded.service launched;
    site = same_site unit tried.table tried.site bounded.service launched;
  }

  pub all_asked : (bounded : Bounded) (list : List Question) → IsOver tried bounded → list ≡ questions tried.table tried.site
      → list ≡ questions bounded.service.world.calls bounded.service.world.site
  all_asked bounded list over all = all ∙ ap (λ (table : calls.Table). questions table tried.site) (sym over.calls)
      ∙ ap (questions bounded.service.world.calls) (sym over.site)

  pub all_listed : (bounded : Bounded) (keep : List Question) → IsOver tried bounded
      → All (λ question. Contains (questions tried.table tried.site) question) keep
      → All (λ question. Contains (questions bounded.service.world.calls bounded.service.world.site) question) keep
  all_listed bounded keep over listed =
      subst (λ (site : Site). All (λ question. Contains (questions bounded.service.world.calls site) question) keep) (sym over.site)
      (subst (λ (table : calls.Table). All (λ question. Contains (questions table tried.site) question) keep) (sym over.calls) listed)

  -- nobody has a wish
  pub pleases_wishless : QuestionsAreExact → (bounded : Bounded) (list : List Question) → IsOver tried bounded
      → list ≡ questions tried.table tried.site → All (IsKept bounded.service.world) tried.keep → length tried.wishes.wishes ≡ 0
      → Pleases tried bounded.service.world
  pleases_wishless exact bounded list over all kept none = record {
    kept = kept;
    rows = rows_of bounded.service.world list;
    are_rows = rows_are exact bounded.service.world over.is_bounded.served list (all_asked bounded list over all);
    granted = λ k d lt. absurd (omega (arith, lt, none));
  }

  module _ (world : World) (rows lent : List VerdictRow) where
    -- all wishes are granted
    pub pleases_all : All (IsKept world) tried.keep → AreRows world rows → lent ≡ rows
        → All (IsGranted tried.wishes lent) tried.wishes.wishes → Pleases tried world
    pleases_all kept are lends granted = record {
      kept = kept;
      rows = rows;
      are_rows = are;
      granted = subst (λ these. All (IsGranted tried.wishes these) tried.wishes.wishes) lends granted;
    }

    -- one is refused first
    pub refuses_at : (number : ℕ) → All (IsKept world) tried.keep → AreRows world rows → lent ≡ rows
        → IsFirst (IsGranted tried.wishes lent) (λ wish. tried.wishes.Answers lent wish false) tried.wishes.wishes number
        → Refuses tried world number
    refuses_at number kept are lends first = record {
      kept = kept;
      rows = rows;
      are_rows = are;
      first = subst (λ these. IsFirst (IsGranted tried.wishes these)
          (λ wish. tried.wishes.Answers these wish false) tried.wishes.wishes number) lends first;
    }

  -- what lacks something does not please
  pub displeases_for : (world : World) (lack : Lack) → Lacks tried world (Some lack) → Displeases tried world
  displeases_for world (Keep number) first = denies first.one (first_in (IsKept world) (IsShut world) tried.keep number first) first.is_bad
  displeases_for world (Wish number) lacks =
      refuses lacks.rows lacks.are_rows lacks.first.one
      (first_in (IsGranted tried.wishes lacks.rows) (λ wish. tried.wishes.Answers lacks.rows wish false) tried.wishes.wishes number
      lacks.first) lacks.first.is_bad

  module _ (set : List ℕ) (unit : Resolved) (is : unit ≡ tightened tried.unit set) where
    -- the set has a service
    pub tells_service : (bounded : Bounded) (result : Result (Option Bounded) AllocError)
        → IsLaunchedUnit unit tried.table tried.site bounded.service → IsBounded bounded
        → IfOk result (Pleasing tried bounded) → IfOk result (Tells tried set)
    tells_service bounded (Err error) launched bounds pleasing = tt
    tells_service bounded (Ok None) launched bounds pleasing =
        displeases bounded.service (subst (λ own. IsLaunchedUnit own tried.table tried.site bounded.service) is launched) pleasing
    tells_service bounded (Ok (Some own)) launched bounds pleasing =
        subst (IsServing tried set) (sym pleasing.0) (record {
          launched = subst (λ one. IsLaunchedUnit one tried.table tried.site bounded.service) is launched;
          is_bounded = bounds;
          pleases = pleasing.1;
        })

    -- it has none
    pub tells_refusal : (error : Refusal) (result : Result (Option Bounded) AllocError)
        → IsNotLaunched unit tried.table tried.site error
        → IfOk result (λ found. (found ≡ None) × (error ≢ refusal.Memory)) → IfOk result (Tells tried set)
    tells_refusal error (Err none) refused told = tt
    tells_refusal error (Ok found) refused told = subst (Tells tried set) (sym told.0)
        (not_launched error told.1 (subst (λ own. IsNotLaunched own tried.table tried.site error) is refused))

  -- a set in its order serves as well, and stops as well with one more item
  serves_ordered : (held : Held) → IsHeld tried held → Serves tried (in_order held.set.items)
  serves_ordered held holds = record {
    service = held.bounded.service;
    launched = subst (λ own. IsLaunchedUnit own tried.table tried.site held.bounded.service)
        (sym (ordered_set tried.unit held.set.items)) holds.launched;
    pleases = holds.pleases;
  }

  stops_ordered : (set : List ℕ) (item : ℕ) → Stops tried (item ∷ set) → Stops tried (item ∷ in_order set)
  stops_ordered set item (not_launched error other refused) =
      not_launched error other (subst (λ own. IsNotLaunched own tried.table tried.site error)
      (sym (ordered_with tried.unit set item)) refused)
  stops_ordered set item (displeases service launched lacks) =
      displeases service (subst (λ own. IsLaunchedUnit own tried.table tried.site service)
      (sym (ordered_with tried.unit set item)) launched) lacks

-- of some verdicts so many are open, and the others are denied
both : (rows : List VerdictRow) → count_denied rows + count_open rows ≡ length rows
both [] = refl
both (row ∷ rows) = by row.is_open (both rows) where
  by : (b : Bool) → count_denied rows + count_open rows ≡ length rows
      → length (cond (not b) (row ∷ filter (λ one. not one.is_open) rows) (filter (λ one. not one.is_open) rows)) + length
      (cond b (row ∷ filter (λ one. one.is_open) rows) (filter (λ one. one.is_open) rows)) ≡ suc (length rows)
  by true rest = omega (arith, rest)
  by false rest = omega (arith, rest)

module _ (tried : Tried) (exact : QuestionsAreExact) (list : List Question) (all : list ≡ questions tried.table tried.site) where
  -- the counts of a launched unit
  counts : (unit : Resolved) (bounded : Bounded) → IsLaunchedUnit unit tried.table tried.site bounded.service → IsBounded bounded
      → (denied open' : ℕ)
      → open' ≡ count_open (rows_of bounded.service.world list) → denied ≡ length list - open'
      → AreCounts unit tried.table tried.site denied open'
  counts unit bounded launched bounds denied open' is rest =
      let rows = rows_of bounded.service.world list in
      let whole : count_denied rows + count_open rows ≡ length rows = both rows in
      let long : length rows ≡ length list = length-map list (λ question. record { question = question; is_open = is_open_by bounded.service.world question }) in
      record {
        rows = rows;
        are_rows = record {
          service = bounded.service;
          launched = launched;
          are_rows = rows_are exact bounded.service.world bounds.served list
              (all_asked tried bounded list (is_over tried unit bounded launched bounds) all);
        };
        denied_are = omega (arith, rest, is, whole, long);
        open_are = is;
      }

  -- the most of items is the result
  pub tight_is : (own : Bounded) (held : Held) (tight : Tight) → IsServing tried [] own → IsMost tried held
      → tight.items ≡ in_order held.set.items
      → tight.open_before ≡ count_open (rows_of own.service.world list) → tight.denied_before ≡ length list - tight.open_before
      → tight.open_after ≡ count_open (rows_of held.bounded.service.world list) → tight.denied_after ≡ length list - tight.open_after
      → IsTight tried tight
  tight_is own held tight serving most items opened shut opened_after shut_after = record {
    itself = record { service = own.service; launched = serving.launched; pleases = serving.pleases };
    serves = subst (Serves tried) (sym items) (serves_ordered tried held most.holds);
    no_more = λ item lo hi new. subst (λ these. Stops tried (item ∷ these)) (sym items)
        (stops item lo hi (sym (has_in_order set item lo hi) ∙ ap (λ these. has these item) (sym items) ∙ new) (most.settled item lo hi));
    are_items = subst (All (λ item. (1 ≤ item) × (item ≤ 17))) (sym items) (in_order_within set);
    in_order = subst IsStrictlyIncreasing (sym items) (in_order_ascends set);
    before = counts tried.unit own serving.launched serving.is_bounded tight.denied_before tight.open_before opened shut;
    after = counts (tightened tried.unit tight.items) held.bounded
        (subst (λ unit. IsLaunchedUnit unit tried.table tried.site held.bounded.service)
        (sym (ap (tightened tried.unit) items ∙ ordered_set tried.unit set)) most.holds.launched)
        most.holds.is_bounded tight.denied_after tight.open_after opened_after shut_after;
  } where
    set : List ℕ
    set = held.set.items

    stops : (item : ℕ) → 1 ≤ item → item ≤ 17 → has set item ≡ false → (has set item ≡ true) ⊎ Stops tried (item ∷ set)
        → Stops tried (item ∷ in_order set)
    stops item lo hi new (inl old) = (let both : true ≡ false = sym old ∙ new in cc)
    stops item lo hi new (inr why) = stops_ordered tried set item why

module _ (tried : Tried) where
  pub own_service : (service own : Service) → own ≡ service → IsLaunchedUnit tried.unit tried.table tried.site service
      → IsLaunchedUnit tried.unit tried.table tried.site own
  own_service service own is launched = subst (IsLaunchedUnit tried.unit tried.table tried.site) (sym is) launched

  -- it denies a question to be kept
  pub denies_one : (service : Service) → IsLaunchedUnit tried.unit tried.table tried.site service → (number told : ℕ) → number ≡ told
      → Lacks tried service.world (Some (Keep number)) → Denies tried told
  denies_one service launched number told same first = subst (Denies tried) same
      (record { service = service; launched = launched; first = first })

  -- it keeps them, and refuses a wish
  pub refuses_one : (service : Service) → IsLaunchedUnit tried.unit tried.table tried.site service → (number told : ℕ) → number ≡ told
      → Lacks tried service.world (Some (Wish number)) → RefusesWish tried told
  refuses_one service launched number told same lacks = subst (RefusesWish tried) same
      (record { service = service; launched = launched; refuses = lacks })

-- what holds of an error holds of a result that passes it on
pub at_error : {R : Type 0} (P : Result R TightenError → Type 0) (result : Result R TightenError) (error : TightenError)
    → IsErrAnd result (λ own. own ≡ error) → P (Err error) → P result
at_error P (Ok made) error is holds = absurd is
at_error P (Err own) error is holds = subst (λ one. P (Err one)) (sym is) holds

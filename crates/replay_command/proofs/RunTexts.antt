-- Runs of lists that stand one behind the other, and their texts.
use Rattle.std.proofs.Common.{◌≡◌, ℕ, suc, ◌+◌, ◌<◌, List, [], ◌∷◌, ◌++◌, length, get_or, take, drop, Option, Result, Ok, Err, refl, sym}
use Rattle.std.proofs.Common.{ap, ◌∙◌, subst, arith, append_assoc, append-nil, inl, inr}
use Rattle.std.specs.Prelude.{flat_map, IsErr}
use Rattle.std.proofs.Math.Seq.{drop-cons}
use Rattle.std.proofs.lemmas.List.{take_more, take-append-drop}
use Rattle.std.proofs.lemmas.List.Concat.{flat_map-append}
use Rattle.asked_service.specs.call_table.Table.{Table}
use Rattle.asked_service.specs.host_io.Puts.{Put}
use Rattle.asked_service.specs.host_io.Writing.{Grew}
use Rattle.asked_service.specs.host_io.declared.writing.SinkError.{SinkError}
use Rattle.asked_service.specs.unit_inputs.command_answers.Printing.{PrintsAll, PrintsSome, TakesFront}
use Rattle.asked_service.proofs.OfUnitInputs.Texts.{grew_then, text_as, text_cut, text_then}
use Rattle.asked_service.specs.kernel_model.declared.kernel_calls.call.Call.{Call}
use Rattle.asked_service.specs.kernel_model.Runs.{moment_at, moments, run}
use Rattle.asked_service.specs.kernel_model.Step.{step}
use Rattle.asked_service.specs.kernel_model.World.{World}
use Rattle.replay_command.specs.Lines.{moment_line, run_text}
use Rattle.replay_command.specs.Performed.{IsCut, Makes, Performs}

pub run_behind : (world : World) (some others : List Call) → run world (some ++ others) ≡ run (run world some) others
run_behind world [] others = refl
run_behind world (call ∷ some) others = run_behind (step world call).1 some others

moments_behind : (world : World) (some others : List Call) → moments world (some ++ others)
    ≡ moments world some ++ moments (run world some) others
moments_behind world [] others = refl
moments_behind world (call ∷ some) others = ap (λ rest. moment_at world call ∷ rest) (moments_behind (step world call).1 some others)

module _ (table : Table) where
  pub text_behind : (world : World) (some others : List Call)
      → run_text table world (some ++ others) ≡ run_text table world some ++ run_text table (run world some) others
  text_behind world some others =
      ap (flat_map (moment_line table)) (moments_behind world some others)
      ∙ flat_map-append (moment_line table) (moments world some) (moments (run world some) others)

  text_of_one : (world : World) (call : Call) → moment_line table (moment_at world call) ≡ run_text table world (call ∷ [])
  text_of_one world call = sym (append-nil (moment_line table (moment_at world call)))

  -- the calls of a script up to one more
  module _ (world : World) (script : List Call) (i : ℕ) (d call : Call) where
    more : i < length script → call ≡ get_or script i d → take i script ++ call ∷ [] ≡ take (i + 1) script
    more lt is = ap (λ one. take i script ++ one ∷ []) is ∙ sym (take_more script i d lt)

    whole : i < length script → call ≡ get_or script i d → take i script ++ (call ∷ drop (suc i) script) ≡ script
    whole lt is = ap (λ one. take i script ++ (one ∷ drop (suc i) script)) is
        ∙ ap (λ l. take i script ++ l) (sym (drop-cons script i d lt)) ∙ take-append-drop i script

    pub one_more_run : i < length script → call ≡ get_or script i d
        → (step (run world (take i script)) call).1 ≡ run world (take (i + 1) script)
    one_more_run lt is = sym (run_behind world (take i script) (call ∷ [])) ∙ ap (run world) (more lt is)

    pub one_more_text : i < length script → call ≡ get_or script i d
        → run_text table world (take i script) ++ moment_line table (moment_at (run world (take i script)) call)
        ≡ run_text table world (take (i + 1) script)
    one_more_text lt is =
        ap (λ l. run_text table world (take i script) ++ l) (text_of_one (run world (take i script)) call)
        ∙ sym (text_behind world (take i script) (call ∷ []))
        ∙ ap (run_text table world) (more lt is)

    text_of_rest : i < length script → call ≡ get_or script i d
        → (run_text table world (take i script) ++ moment_line table (moment_at (run world (take i script)) call)) ++ run_text table
        (step (run world (take i script)) call).1 (drop (suc i) script) ≡ run_text table world script
    text_of_rest lt is =
        append_assoc (run_text table world (take i script)) (moment_line table (moment_at (run world (take i script)) call))
        (run_text table (step (run world (take i script)) call).1 (drop (suc i) script))
        ∙ sym (text_behind world (take i script) (call ∷ drop (suc i) script))
        ∙ ap (run_text table world) (whole lt is)

    module _ {S : Type 0} {taken : S → Option (List ℕ)} {puts : S → Put → S → Type 0} (a b c : S) where
      -- one line more was printed
      pub printed_more : i < length script → call ≡ get_or script i d → PrintsAll taken puts a b (run_text table world (take i script))
          → PrintsAll taken puts b c (moment_line table (moment_at (run world (take i script)) call))
          → PrintsAll taken puts a c (run_text table world (take (i + 1) script))
      printed_more lt is f g =
          subst (PrintsAll taken puts a c) (one_more_text lt is)
          (text_then a b c (run_text table world (take i script)) (moment_line table (moment_at (run world (take i script)) call))
          (Ok tt) f g)

      -- its line was cut
      pub text_cut_there : (error : SinkError) → i < length script → call ≡ get_or script i d
          → PrintsAll taken puts a b (run_text table world (take i script)) → PrintsSome taken puts b c
          (moment_line table (moment_at (run world (take i script)) call)) error
          → PrintsSome taken puts a c (run_text table world script) error
      text_cut_there error lt is f prints =
          text_as taken puts a c _ (run_text table world script) (Err error) (text_of_rest lt is)
          (text_cut a c (run_text table world (take i script) ++ moment_line table (moment_at (run world (take i script)) call))
          (run_text table (step (run world (take i script)) call).1 (drop (suc i) script)) error
          (text_then a b c (run_text table world (take i script)) (moment_line table (moment_at (run world (take i script)) call))
          (Err error) f prints))

    module _ (a b c : Option (List ℕ)) where
      -- the call was made
      cut_behind_it : (left : World) → i < length script → call ≡ get_or script i d
          → Grew a b (run_text table world (take i script)) → TakesFront b c
          (moment_line table (moment_at (run world (take i script)) call)) → left ≡ (step (run world (take i script)) call).1
          → IsCut table world script a c left
      cut_behind_it left lt is f (front, behind, line, grew) made = record {
        told = take i script;
        more = call ∷ [];
        rest = drop (suc i) script;
        in_order = whole lt is;
        at_most_one_more = omega arith;
        leaves = made ∙ sym (run_behind world (take i script) (call ∷ []));
        front = front;
        behind = behind;
        of_its_line = line ∙ text_of_one (run world (take i script)) call;
        taken = grew_then a b c (run_text table world (take i script)) front f grew;
      }

      -- or not
      cut_before_it : (left : World) → i < length script → call ≡ get_or script i d → Grew a b (run_text table world (take i script))
          → left ≡ run world (take i script) → c ≡ b → IsCut table world script a c left
      cut_before_it left lt is f same untouched = record {
        told = take i script;
        more = [];
        rest = call ∷ drop (suc i) script;
        in_order = whole lt is;
        at_most_one_more = omega arith;
        leaves = same ∙ ap (run world) (sym (append-nil (take i script)));
        front = [];
        behind = [];
        of_its_line = refl;
        taken = subst (λ end. Grew a end (run_text table world (take i script) ++ [])) (sym untouched)
            (subst (Grew a b) (sym (append-nil (run_text table world (take i script)))) f);
      }

      pub cut_there : (error : SinkError) (left : World) → i < length script → call ≡ get_or script i d
          → Grew a b (run_text table world (take i script)) → TakesFront b c
          (moment_line table (moment_at (run world (take i script)) call))
          → Makes (run world (take i script)) call b c (Err error) left → IsCut table world script a c left
      cut_there error left lt is f takes (inl made) = cut_behind_it left lt is f takes made
      cut_there error left lt is f takes (inr (same, untouched)) = cut_before_it left lt is f same untouched

  -- the same, said of the world that stands there
  module _ (world now : World) (script : List Call) (i : ℕ) (d call : Call) where
    module _ {S : Type 0} {taken : S → Option (List ℕ)} {puts : S → Put → S → Type 0} (a b c : S) where
      pub more_printed : i < length script → call ≡ get_or script i d → now ≡ run world (take i script)
          → PrintsAll taken puts a b (run_text table world (take i script)) → PrintsAll taken puts b c (moment_line table
          (moment_at now call))
          → PrintsAll taken puts a c (run_text table world (take (i + 1) script))
      more_printed lt is stands f g = printed_more world script i d call a b c lt is f
          (subst (λ w. PrintsAll taken puts b c (moment_line table (moment_at w call))) stands g)

      pub printed_till : (error : SinkError) → i < length script → call ≡ get_or script i d → now ≡ run world (take i script)
          → PrintsAll taken puts a b (run_text table world (take i script))
          → PrintsSome taken puts b c (moment_line table (moment_at now call)) error
          → PrintsSome taken puts a c (run_text table world script) error
      printed_till error lt is stands f prints = text_cut_there world script i d call a b c error lt is f
          (subst (λ w. PrintsSome taken puts b c (moment_line table (moment_at w call)) error) stands prints)

    module _ (a b c : Option (List ℕ)) where
      pub more_made : (left : World) → i < length script → call ≡ get_or script i d → now ≡ run world (take i script)
          → left ≡ (step now call).1 → left ≡ run world (take (i + 1) script)
      more_made left lt is stands made = made ∙ ap (λ w. (step w call).1) stands ∙ one_more_run world script i d call lt is

      cut_till : (error : SinkError) (left : World) → i < length script → call ≡ get_or script i d → now ≡ run world (take i script)
          → Grew a b (run_text table world (take i script)) → TakesFront b c (moment_line table (moment_at now call))
          → Makes now call b c (Err error) left → IsCut table world script a c left
      cut_till error left lt is stands f takes makes =
          cut_there world script i d call a b c error left lt is f
          (subst (λ w. TakesFront b c (moment_line table (moment_at w call))) stands takes)
          (subst (λ w. Makes w call b c (Err error) left) stands makes)

      pub performed_till : (error : SinkError) (put : Result (Unit {0}) SinkError) (left : World) → IsErr put → i < length script
          → call ≡ get_or script i d → now ≡ run world (take i script) → Grew a b (run_text table world (take i script))
          → TakesFront b c (moment_line table (moment_at now call)) → Makes now call b c (Err error) left
          → Performs table world script a c put left
      performed_till error (Ok u) left is_err lt is stands f takes makes = cc
      performed_till error (Err other) left is_err lt is stands f takes makes = cut_till error left lt is stands f takes makes

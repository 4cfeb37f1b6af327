use Rattle.std.proofs.Common.{◌≡◌, ◌∙◌, length, cond, Some, refl, sym, ap, arith, string_bytes}
use Rattle.std.specs.Str.{bytes_eq}
use Rattle.std.specs.Map.{lookup}
use Rattle.std.specs.BTreeMap.{get_by_text}
use Rattle.std.proofs.Math.ListN.{length-set}
use Rattle.std.proofs.lemmas.List.{length_push}
use Rattle.std.proofs.lemmas.Map.Text.{btree_map_updates_text}
use Rattle.abs_path.proofs.Prefixes.{part_itself}
use Rattle.abs_path.proofs.Nodes.{IsBare, Made, made_grows, made_way, unmade_grows}
use Rattle.abs_path.proofs.place_tree.arena.add_child.Goals as goal

pub returns-in_err-insert-clause-grows : goal.returns-in_err-insert-clause-grows
returns-in_err-insert-clause-grows c =
    let bare : IsBare c.new.result = record { no_way = c.new.ensures.no_way; no_place = c.new.ensures.no_place } in
    unmade_grows c.args.nodes.now.items c.push.new.self.items c.new.result c.index_mut.result.now _ c.args.at c.in_ok-push.ensures.items
    bare c.requires.arena c.requires.in_range c.index_mut.ensures.value refl
    (λ part. ap (lookup _) c.in_err-insert.ensures.err)

pub returns : goal.returns
returns c =
    let bare : IsBare c.new.result = record { no_way = c.new.ensures.no_way; no_place = c.new.ensures.no_place } in
    let size : c.len-number.result ≡ length c.args.nodes.now.items = omega (arith, c.args.nodes.now.ok.0) in
    let made : Made c.args.nodes.now.items c.push.new.self.items c.new.result c.index_mut.result.now (record c.index_mut.result.now { children = c.insert.new.self }) c.args.at c.args.part.now = record {
      pushed_is = c.in_ok-push.ensures.items;
      is_bare = bare;
      arena = c.requires.arena;
      in_range = c.requires.in_range;
      none = c.requires.no_way;
      node_is = c.index_mut.ensures.value;
      number = refl;
      ways = λ step.
          btree_map_updates_text (string_bytes c.in_ok-name.name) c.index_mut.result.now.children c.insert.new.self _
          c.in_ok-insert.ensures.updates step
          ∙ ap (λ text. cond (bytes_eq text step) (Some c.len-number.result) (get_by_text c.index_mut.result.now.children step))
          c.in_ok-name.ensures.ok
          ∙ ap (λ n. cond (bytes_eq c.args.part.now step) (Some n) (get_by_text c.index_mut.result.now.children step)) size;
    } in
    record {
      grows = made_grows _ _ _ _ _ _ _ made;
      in_range = simp length-set (let longer = ap length c.in_ok-push.ensures.items ∙ length_push c.args.nodes.now.items c.new.result in let below = size in omega arith);
      way = made_way _ _ _ _ _ _ _ made (part_itself c.args.part.now c.args.part.now refl) ∙ ap Some (sym size);
    }

-- The meaning of each part of a launched service's ceiling.
use Rattle.std.specs.Prelude.{◌≡◌, ℕ, ◌==◌}
use Rattle.std.specs.List.{list_any}
use Rattle.kernel_ways.specs.kernel_laws.Bound.{caps_at, power_of, any_uid, any_gid}
use Rattle.kernel_ways.specs.kernel_laws.Launched.{Launch}
use Rattle.ceilings.specs.declared.bounds.Ceiling.{Ceiling}
use Rattle.ceilings.specs.Leads.{AreLeads}
use Rattle.ceilings.specs.Passing.{ArePathCalls}
use Rattle.ceilings.specs.Ruled.{AreRules}
use Rattle.kernel_ways.specs.Spared.{uids_of, gids_of}

-- the parts, in their order:
-- - the capabilities that can become effective with the power that the service can gain, capabilities(7);
-- - that power;
-- - whether the service can take every uid, and every gid, with them;
-- - the other uids and gids that it can get, exactly these, credentials(7);
-- - the calls on paths that pass, the rule of each line of the table of calls, and the entries that lead to each row of the site
pub record IsCeilingOf (launch : Launch) (top : Ceiling) : Type 0 where
  pub effective : top.effective ≡ caps_at launch (power_of launch)
  pub power : top.power ≡ power_of launch
  pub any_uid : top.any_uid ≡ any_uid launch (caps_at launch (power_of launch))
  pub any_gid : top.any_gid ≡ any_gid launch (caps_at launch (power_of launch))
  pub uids : (id : ℕ) → list_any (λ own. id == own) top.uids ≡ uids_of launch id
  pub gids : (id : ℕ) → list_any (λ own. id == own) top.gids ≡ gids_of launch id
  pub paths : ArePathCalls launch top.paths
  pub rules : AreRules launch top.rules
  pub leads : AreLeads launch top.leads.items

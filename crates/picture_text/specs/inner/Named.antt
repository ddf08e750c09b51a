-- A plan that passes the checks, and arrays that say where its names stand in their text.
use Rattle.std.specs.Prelude.{◌≡◌, true, List, ℕ, ◌≤◌, length}
use Rattle.plan.specs.Plan.{PlanData, vertex_count}
use Rattle.plan.specs.Acceptable.{acceptable}
use Rattle.picture_names.specs.Names.{named, names_of}
use Rattle.picture_names.specs.inner.Indexed.{HoldsNames}

pub record NamedPlan (p : PlanData) (text starts ends : List ℕ) : Type 0 where
  pub plan : acceptable p ≡ true
  pub names : List (List ℕ)
  pub good : names_of p.vias text ≡ named names
  pub holds : HoldsNames text starts ends names
  pub starts_long : vertex_count p ≤ length starts
  pub ends_long : vertex_count p ≤ length ends

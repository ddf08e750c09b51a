-- What holds of the lists of a plan that passes the checks, its strands linked. Assumes nothing.
use mathlib.Core.Path.{◌≡◌, sym, ◌∙◌, ap}
use mathlib.Core.List.{List}
use Prim.Native.Nat.{ℕ, ◌<◌, ◌≤◌}
use native.Mathlib.Omega.{arith}
use lib.ListN.{length, get_or}
use Rattle.ints.specs.Lists.{sum}
use Rattle.plan.specs.Limits.{max_levels, max_gap, max_half_width, max_vertices, max_segments}
use Rattle.plan.specs.Plan.{PlanData, vertex_count}
use Rattle.plan.specs.Segments.{inner_segments}
use Rattle.plan.specs.Strands.{strand_in}
use Rattle.plan.specs.inner.Graph.{Below}
use Rattle.plan.proofs.Sound.{sound}
use Rattle.plan.proofs.HeldLaws.{held-bounds}
use Rattle.prelim_classes.specs.inner.Strands.{Strung, StrandsBy, StrandLists, StrungPlan, SomeStrung}
use Rattle.prelim_classes.proofs.LinkLaws.{lists-strung}
use Rattle.prelim_classes.proofs.StrandTie.{strands-by}

pub record Ready (gap : ℕ) (sizes halves next top uppers lowers : List ℕ) : Type 0 where
  pub strung : Strung next top
  pub gaps : gap ≤ max_gap
  pub levels : length sizes ≤ max_levels
  pub vertices : sum sizes ≡ length next
  pub few : length next ≤ max_vertices
  pub boxes : length halves ≡ length next
  pub within : (i : ℕ) → i < length halves → get_or halves i 0 ≤ max_half_width
  pub segments : length uppers ≤ max_segments
  pub ends : length uppers ≡ length lowers
  pub upper_ends : Below (length next) uppers
  pub lower_ends : Below (length next) lowers

module _ (p : PlanData) (gap : ℕ) (sizes halves next top uppers lowers : List ℕ) (s : StrungPlan p gap sizes halves next top uppers lowers) where
  links : StrandLists p.vias p.uppers p.lowers next top
  links = rw (s.held.vias_are, s.held.uppers_are, s.held.lowers_are) s.strands

  pub plan-strands : StrandsBy (strand_in (inner_segments p) p.levels) next top
  plan-strands = strands-by p (sound p s.held.ok) next top links

  pub plan-count : vertex_count p ≡ length next
  plan-count = ap length s.held.vias_are ∙ sym s.strands.down.long

  pub plan-ready : Ready gap sizes halves next top uppers lowers
  plan-ready =
      let b = held-bounds p gap sizes s.vias halves uppers lowers s.held in
      let n = s.strands.down.long in
      record {
        strung = lists-strung p (sound p s.held.ok) next top links;
        gaps = b.gaps;
        levels = b.levels;
        vertices = b.vertices ∙ sym n;
        few = omega (arith, b.few);
        boxes = b.boxes ∙ sym n;
        within = b.within;
        segments = b.segments;
        ends = b.ends;
        upper_ends = λ i h. omega (arith, b.upper_ends i h);
        lower_ends = λ i h. omega (arith, b.lower_ends i h);
      }

pub ready : (gap : ℕ) (sizes halves next top uppers lowers : List ℕ) → SomeStrung gap sizes halves next top uppers lowers → Ready gap sizes halves next top uppers lowers
ready gap sizes halves next top uppers lowers s = plan-ready s.plan gap sizes halves next top uppers lowers s.strung

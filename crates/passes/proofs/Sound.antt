-- What an acceptable plan's checks say, each as a fact to argue from. Assumes nothing.
use mathlib.Core.Path.{◌≡◌, sym, ◌∙◌}
use mathlib.Core.Bool.{true, false}
use Prim.Native.Nat.{ℕ, suc, ◌-◌, ◌≤◌, ◌<◌}
use native.Mathlib.Omega.{arith}
use lib.ListN.{length, get_or-eq_default}
use Rattle.ints.specs.Ratings.{all_ratings}
use Rattle.ints.proofs.Laws.{cases}
use Rattle.plan.specs.Plan.{PlanData, vertex_count, is_via, half_width, level_of}
use Rattle.plan.specs.Segments.{Segment, segments_of, above, below}
use Rattle.plan.specs.Checks.{rising}
use Rattle.ints.specs.Lists.{sum}
use Rattle.plan.specs.Acceptable.{acceptable}
use Rattle.plan.proofs.SegmentLaws.{segments-count}
use Rattle.plan.proofs.Sound.{sound as sound-plan}
use Rattle.plan.proofs.All.{All, member, all-of-mem, no_true}
use Rattle.plan.specs.inner.Levels.{size_on}

-- a segment joins two vertices, the lower one level below
pub record Down (p : PlanData) (s : Segment) : Type 0 where
  pub upper : s.upper < vertex_count p
  pub lower : s.lower < vertex_count p
  pub levels : level_of p s.lower ≡ suc (level_of p s.upper)

pub record Sound (p : PlanData) : Type 0 where
  pub sizes : length p.sizes ≡ p.levels
  pub total : sum p.sizes ≡ vertex_count p
  pub vertices : vertex_count p ≤ 1024
  pub levels : p.levels ≤ 64
  pub small : (l : ℕ) → size_on p l ≤ 64
  pub gap : p.gap ≤ 100
  pub halves : (v : ℕ) → half_width p v ≤ 200
  pub down : All (Down p) (segments_of p)
  pub rise : rising (segments_of p) ≡ true
  pub rated : length p.ratings ≡ length (segments_of p)
  pub ratings : all_ratings p.ratings ≡ true
  pub through : (v : ℕ) → is_via p v ≡ true → (length (above p v) ≡ 1) × (length (below p v) ≡ 1)

pub via-vertex : (p : PlanData) (v : ℕ) → is_via p v ≡ true → v < vertex_count p
via-vertex p v e = cases (vertex_count p) v (λ h. no_true (sym (get_or-eq_default p.vias false h) ∙ e)) (λ h. h)

pub sound : (p : PlanData) → acceptable p ≡ true → Sound p
unfolding size_on above below segments_of
sound p e = let S = sound-plan p e in let l = S.limits in record {
  sizes = l.sizes_long;
  total = l.sizes_sum;
  vertices = l.vertices;
  levels = l.levels_high;
  small = λ k. l.sizes_high (k - 1);
  gap = l.gap_high;
  halves = l.halves_high;
  down = all-of-mem (segments_of p) (λ s m. let d = S.down s (member m) in record { upper = d.upper_in; lower = d.lower_in; levels = omega (arith, d.one_down) });
  rise = S.sorted;
  rated = l.ratings_long ∙ sym (segments-count p.uppers p.lowers l.ends_long);
  ratings = l.ratings;
  through = λ v t. S.through v (via-vertex p v t) t;
}

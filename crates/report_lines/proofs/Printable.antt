-- What a drawing must have so that its report is short enough, and which drawings have it: those of an acceptable plan that are not
-- refused, also in remembered numbers. Assumes nothing.
use mathlib.Core.Path.{◌≡◌, ◌∙◌, ap}
use mathlib.Core.Bool.{Bool, true}
use mathlib.Core.List.{List, [], ◌∷◌, map}
use Prim.Native.Nat.{ℕ, ◌≤◌, ◌<◌}
use native.Mathlib.Omega.{arith}
use borrow.Author.Tests.{eqb-true}
use lib.Dec.{eqb, leb}
use lib.ListN.{length, take, length-map}
use lib.IntN.{ℤ}
use Rattle.ints.specs.Lists.{sum}
use Rattle.ints.proofs.Tests.{conj-at, test}
use Rattle.plan.specs.Limits.{max_levels, max_spacing, max_on_level, max_vertices}
use Rattle.plan.specs.Plan.{PlanData, vertex_count, numbers}
use Rattle.plan.specs.Checks.{every, any}
use Rattle.plan.specs.Acceptable.{acceptable}
use Rattle.plan.specs.inner.Graph.{Below}
use Rattle.plan.proofs.LimitLaws.{within-most}
use Rattle.plan.proofs.Sound.{sound as sound-plan}
use Rattle.plan.proofs.All.{All, all_nil, all_cons, all_map, all_append, all-get, every-all}
use Rattle.plan.proofs.Levels.{length-numbers, all-numbers}
use Rattle.text.proofs.Words.{never}
use Rattle.plan_renumber.specs.inner.Words.{Once}
use Rattle.passes.specs.Runs.{runs_of}
use Rattle.passes.specs.Drawing.{BoxAt, Placing, Drawing}
use Rattle.passes.specs.Words.{boxes_listed, drawing_within}
use Rattle.passes.proofs.Sound.{Sound, sound}
use Rattle.passes.proofs.RunsOn.{bounds}
use Rattle.passes.proofs.Due.{plan-runs}
use Rattle.report.specs.Numbers.{box_by, placing_by, in_numbers}
use Rattle.report.specs.Refusal13.{same_numbers, is_pass, is_of_run, is_run_of_plan, is_drawing}
use Rattle.report.proofs.Numbers.{numbers-within, numbers-same}
use Rattle.report.proofs.SameData.{numbers-equal}
use Rattle.report_lines.specs.inner.Stored.{drawing_from, Stored}
use Rattle.report_lines.proofs.Listed.{vertices-listed}

-- A placing of a plan with n vertices, and a drawing, within the limits. Its boxes need be no run.
pub record PrintablePlacing (n : ℕ) (q : Placing) : Type 0 where
  pub pass : q.pass ≤ 3
  pub level : q.level ≤ max_levels
  pub boxes : length q.boxes ≤ max_on_level
  pub vertices : All (λ (b : BoxAt). b.vertex < n) q.boxes

pub record Printable (p : PlanData) (d : Drawing) : Type 0 where
  pub vertices : vertex_count p ≤ max_vertices
  pub spacing : p.spacing ≤ max_spacing
  pub levels : length p.sizes ≤ max_levels
  pub within : drawing_within d ≡ true
  pub placings : All (PrintablePlacing (vertex_count p)) d.placings

-- ---- lists
pub all-mapped : {A B : Type 0} {Q : B → Type 0} (f : A → B) {xs : List A} → All (λ x. Q (f x)) xs → All Q (map f xs)
all-mapped f all_nil = all_nil
all-mapped f (all_cons q qs) = all_cons q (all-mapped f qs)

unmapped : {A B : Type 0} {Q : B → Type 0} (f : A → B) (xs : List A) → All Q (map f xs) → All (λ x. Q (f x)) xs
unmapped f [] all_nil = all_nil
unmapped f (x ∷ xs) (all_cons q qs) = all_cons q (unmapped f xs qs)

all_both : {A : Type 0} {Q R : A → Type 0} {xs : List A} → All Q xs → All R xs → All (λ x. Q x × R x) xs
all_both all_nil all_nil = all_nil
all_both (all_cons q qs) (all_cons r rs) = all_cons (q, r) (all_both qs rs)

-- one of which a test holds
some_holds : {A G : Type 0} {Q : A → Type 0} (t : A → Bool) (xs : List A) → All Q xs → any t xs ≡ true → ((x : A) → Q x → t x ≡ true → G) → G
unfolding any
some_holds t [] all_nil e f = never e
some_holds t (x ∷ xs) (all_cons q qs) e f = test (t x) (λ h. f x q h) (λ h. some_holds t xs qs (rw h at e) f)

-- ---- a drawing that is not refused
of-run : {p : PlanData} → Sound p → (q : Placing) → is_pass q ≡ true → is_run_of_plan p q ≡ true → PrintablePlacing (vertex_count p) q
unfolding is_run_of_plan
of-run {p} so q e f =
    let vs = map (λ (b : BoxAt). b.vertex) q.boxes in
    let is = conj-at (leb 1 (length q.boxes)) (any (is_of_run q) (runs_of p) ∷ []) f 1 in
    some_holds (is_of_run q) (runs_of p) (plan-runs p) is (λ r i t.
    let told = conj-at (eqb q.level r.level) (same_numbers vs r.boxes ∷ []) t in
    let same : vs ≡ numbers i.first i.count = numbers-equal vs r.boxes (told 1) ∙ i.boxes in
    let b = bounds i in
    record {
      pass = within-most 1 3 q.pass e;
      level = omega (arith, eqb-true q.level r.level (told 0), i.many, so.levels);
      boxes = omega (arith, length-map q.boxes (λ (b : BoxAt). b.vertex), ap length same ∙ length-numbers i.first i.count, b.from, b.left, b.right, b.to, so.small r.level);
      vertices = unmapped (λ (b : BoxAt). b.vertex) q.boxes
          (rw same (all-numbers i.first i.count (λ w h k. omega (arith, b.right, b.all, so.total))));
    })

pub printable : (p : PlanData) (d : Drawing) → acceptable p ≡ true → is_drawing p d ≡ true → Printable p d
unfolding is_drawing
printable p d a e =
    let so = sound p a in
    let part = conj-at (drawing_within d) (every is_pass d.placings ∷ every (is_run_of_plan p) d.placings ∷ []) e in
    record {
      vertices = so.vertices;
      spacing = (sound-plan p a).limits.spacing_high;
      levels = omega (arith, so.sizes, so.levels);
      within = part 0;
      placings = all_map (λ q h. of-run so q h.0 h.1) (all_both (every-all is_pass d.placings (part 1)) (every-all (is_run_of_plan p) d.placings (part 2)));
    }

-- ---- in remembered numbers
module _ {n : ℕ} {m : List ℕ} (o : Once n m) where
  placing-by : (q : Placing) → PrintablePlacing n q → PrintablePlacing n (placing_by m q)
  placing-by q h = record {
    pass = h.pass;
    level = h.level;
    boxes = omega (arith, length-map q.boxes (box_by m), h.boxes);
    vertices = all-mapped (box_by m) (all_map (λ b l. o.below b.vertex l) h.vertices);
  }

pub printable-by : {p : PlanData} {d : Drawing} {m : List ℕ} → Once (vertex_count p) m → Printable p d → Printable p (in_numbers m d)
printable-by {p} {d} {m} o h = record {
  vertices = h.vertices;
  spacing = h.spacing;
  levels = h.levels;
  within = numbers-within m d h.within;
  placings = all-mapped (placing_by m) (all_map (placing-by o) h.placings);
}

-- each vertex has its own number
pub stays_by : (p : PlanData) (d : Drawing) → Printable p d → length d.preliminary ≡ vertex_count p → length d.final ≡ vertex_count p
    → in_numbers (numbers 0 (vertex_count p)) d ≡ d
stays_by p d h e f = numbers-same (vertex_count p) d e f (all_map (λ q k. k.vertices) h.placings)

-- ---- the boxes of all placings
boxes-of : {n : ℕ} (qs : List Placing) → All (PrintablePlacing n) qs → All (λ (b : BoxAt). b.vertex < n) (boxes_listed qs)
unfolding boxes_listed
boxes-of [] all_nil = all_nil
boxes-of (q ∷ qs) (all_cons h hs) = all_append h.vertices (boxes-of qs hs)

pub boxes-below : {p : PlanData} {preliminary finals : List ℤ} {passes levels counts vertices : List ℕ} {positions : List ℤ}
    → Stored preliminary finals passes levels counts vertices positions → Printable p (drawing_from preliminary finals passes levels counts vertices positions)
    → Below (vertex_count p) (take (sum counts) vertices)
boxes-below {p} {preliminary} {finals} {passes} {levels} {counts} {vertices} {positions} s h =
    let d = drawing_from preliminary finals passes levels counts vertices positions in
    let e = vertices-listed passes levels counts vertices positions s.of_levels s.of_counts s.of_vertices s.of_positions in
    all-get (take (sum counts) vertices) 0 (rw e at (all-mapped (λ (b : BoxAt). b.vertex) (boxes-of d.placings h.placings)))

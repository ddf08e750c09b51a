-- One side: what each step needs of the steps before it, and that together they give the definition's positions. Assumes nothing.
use Prim.Native.Nat.{ℕ, suc, ◌+◌, ◌<◌, ◌≤◌}
use mathlib.Core.Path.{◌≡◌, refl, sym, ◌∙◌, ap}
use mathlib.Core.Bool.{Bool, true, false}
use mathlib.Core.List.{List, [], ◌∷◌, map, reverse}
use native.Mathlib.Omega.{arith}
use lib.Dec.{eqb}
use lib.ListN.{length, get_or, set, replicate, length-replicate, get_or-replicate, get_or-eq_default}
use lib.Seq.{get_or-set_same, get_or-set_other, set_out}
use lib.IntN.{ℤ, pos}
use Rattle.ints.specs.Lists.{sum}
use Rattle.ints.proofs.Laws.{cases, if-ind}
use Rattle.ints.specs.inner.Members.{Mem}
use Rattle.plan.specs.Plan.{PlanData, Siblings, vertex_count, siblings_of, numbers, levels_from, levels_of}
use Rattle.plan.specs.Segments.{inner_segments, segments_of, segments_from}
use Rattle.plan.specs.Strands.{strand_in}
use Rattle.plan.specs.Acceptable.{acceptable}
use Rattle.plan.proofs.CountLaws.{by-same}
use Rattle.preliminary.specs.Classes.{give, classes_on, classes_from, classes_of}
use Rattle.preliminary.specs.Place.{placed_strands}
use Rattle.preliminary.specs.Shift.{shift_each}
use Rattle.preliminary.specs.Positions.{positions_on}
use Rattle.preliminary.proofs.Positions.{left-any-order, right-any-order}
use Rattle.prelim_classes.specs.inner.Links.{chain, pairs_by}
use Rattle.prelim_classes.specs.inner.Strands.{StrandsBy, StrungPlan}
use Rattle.prelim_classes.proofs.StrungLaws.{Ready, plan-strands, plan-count}
use Rattle.prelim_classes.specs.inner.Walks.{cut, placed_by, Classed, Stand}
use Rattle.prelim_classes.specs.inner.Arranged.{joined, followers, levels_by}
use Rattle.prelim_classes.proofs.LevelLaws.{cut-joined, joined-below, joined-mem, joined_in, levels-plain, levels-reversed, pairs-joined}
use Rattle.prelim_shifts.specs.inner.Shifts.{AtMost, Shiftable, ShiftsBy, Shifted, Spread}
use Rattle.prelim_positions.specs.inner.Sides.{SideIs}

-- ---- class numbers are at most those of the levels
set-most : (m : ℕ) (xs : List ℕ) (v c : ℕ) → AtMost m xs → c ≤ m → AtMost m (set xs v c)
set-most m xs v c a h w = cases (length xs) v
    (λ k. rw (set_out xs v c k) (a w))
    (λ k. by-same w v (λ s. rw (s, get_or-set_same xs v c 0 k) h) (λ s. rw (get_or-set_other xs v w c 0 s) (a w)))

give-most : (m c : ℕ) (vs xs : List ℕ) → AtMost m xs → c ≤ m → AtMost m (give c vs xs)
unfolding give
give-most m c [] xs a h = a
give-most m c (v ∷ vs) xs a h = give-most m c vs (set xs v c) (set-most m xs v c a h) h

on-most : (m : ℕ) (strand : ℕ → List ℕ) (c : ℕ) (vs xs : List ℕ) → AtMost m xs → c ≤ m → AtMost m (classes_on strand c vs xs)
unfolding classes_on
on-most m strand c [] xs a h = a
on-most m strand c (v ∷ vs) xs a h = if-ind (eqb (get_or xs v 0) 0) (classes_on strand c vs (give c (strand v) xs)) (classes_on strand (get_or xs v 0) vs xs) (AtMost m)
    (λ t. on-most m strand c vs (give c (strand v) xs) (give-most m c (strand v) xs a h) h)
    (λ t. on-most m strand (get_or xs v 0) vs xs a (a v))

pub classes-most : (m : ℕ) (strand : ℕ → List ℕ) (l : ℕ) (levels : List (List ℕ)) (xs : List ℕ) → AtMost m xs → l + length levels ≤ m + 1 → AtMost m (classes_from strand l levels xs)
unfolding classes_from
classes-most m strand l [] xs a h = a
classes-most m strand l (vs ∷ levels) xs a h = classes-most m strand (l + 1) levels (classes_on strand l vs xs) (on-most m strand l vs xs a (omega arith)) (omega arith)

cut-long : (sizes vs : List ℕ) → length (cut sizes vs) ≡ length sizes
unfolding cut
cut-long [] vs = refl
cut-long (n ∷ ns) vs = ap suc (cut-long ns _)

zeros-most : (m n : ℕ) → AtMost m (replicate n 0)
zeros-most m n v = cases n v
    (λ h. omega (arith, get_or-eq_default {A = ℕ} (replicate n 0) 0 {n = v} (omega (arith, length-replicate {A = ℕ} n 0))))
    (λ h. omega (arith, get_or-replicate {A = ℕ} n v 0 0 h))

-- ---- strands placed in the order in hand stand as if placed by their numbers
in-hand : (reversed : Bool) (p : PlanData) → acceptable p ≡ true → (sizes cs : List ℕ) → p.sizes ≡ sizes → sum sizes ≡ vertex_count p
    → placed_by p (strand_in (inner_segments p) p.levels) (siblings_of (levels_by reversed 0 sizes)) cs (vertex_count p) (joined (levels_by reversed 0 sizes))
    ≡ placed_strands p (strand_in (inner_segments p) p.levels) (siblings_of (levels_by reversed 0 sizes)) cs
unfolding levels_of
in-hand reversed p ok sizes cs q t = by reversed
  where
    strand : ℕ → List ℕ
    strand = strand_in (inner_segments p) p.levels

    inside : (reversed : Bool) (v : ℕ) → Mem v (joined (levels_by reversed 0 sizes)) → v < vertex_count p
    inside reversed v m = omega (arith, joined_in reversed 0 sizes v m)

    all : (reversed : Bool) (v : ℕ) → v < vertex_count p → Mem v (joined (levels_by reversed 0 sizes))
    all reversed v h = joined-mem reversed 0 sizes v (omega arith) (omega arith)

    by : (reversed : Bool) → placed_by p strand (siblings_of (levels_by reversed 0 sizes)) cs (vertex_count p) (joined (levels_by reversed 0 sizes)) ≡ placed_strands p strand (siblings_of (levels_by reversed 0 sizes)) cs
    by false =
        let l = levels-plain 0 sizes ∙ ap (λ (s : List ℕ). levels_from 0 s) (sym q) in
        let o = joined (levels_by false 0 sizes) in
        ap (λ (ls : List (List ℕ)). placed_by p strand (siblings_of ls) cs (vertex_count p) o) l
        ∙ left-any-order p ok cs o (inside false) (all false) ∙ sym (ap (λ (ls : List (List ℕ)). placed_strands p strand (siblings_of ls) cs) l)
    by true =
        let l = levels-reversed 0 sizes ∙ ap (λ (s : List ℕ). map reverse (levels_from 0 s)) (sym q) in
        let o = joined (levels_by true 0 sizes) in
        ap (λ (ls : List (List ℕ)). placed_by p strand (siblings_of ls) cs (vertex_count p) o) l
        ∙ right-any-order p ok cs o (inside true) (all true) ∙ sym (ap (λ (ls : List (List ℕ)). placed_strands p strand (siblings_of ls) cs) l)

-- ---- the steps
module _ (gap : ℕ) (sizes halves next top uppers lowers : List ℕ) (r : Ready gap sizes halves next top uppers lowers) where
  pub classed : (order classes : List ℕ) → ((strand : ℕ → List ℕ) → StrandsBy strand next top → classes ≡ classes_from strand 1 (cut sizes order) (replicate (length next) 0)) → AtMost 64 classes
  classed order classes k =
      let strand : ℕ → List ℕ = λ v. chain next (get_or top v 0) in
      rw (k strand (record { each = λ v h. refl })) (classes-most 64 strand 1 (cut sizes order) (replicate (length next) 0) (zeros-most 64 (length next)) (omega (arith, cut-long sizes order, r.levels)))

  module _ (reversed : Bool) (order right : List ℕ) (o : order ≡ joined (levels_by reversed 0 sizes)) (lo : length order ≡ length next) where
    pub order_below : (i : ℕ) → i < length order → get_or order i 0 < length next
    order_below i h = rw o (joined-below reversed 0 sizes (length next) (omega (arith, r.vertices)) i (omega (arith, r.vertices)))

    module _ (classes : List ℕ) (lr : length right ≡ length next) (lc : length classes ≡ length next) where
      pub to-stand : Classed gap halves next top order right classes
      to-stand = record {
        narrow = record { gaps = r.gaps; within = r.within };
        strung = r.strung;
        few = r.few;
        boxes = r.boxes;
        rights = lr ∙ sym lo;
        vertices = order_below;
        numbers = lc;
      }

      pub to-shift : AtMost 64 classes → Shiftable gap halves order right uppers lowers classes
      to-shift most = record {
        gaps = r.gaps;
        within = r.within;
        boxes = r.boxes ∙ sym lc;
        orders = lo ∙ sym lc;
        rights = lr ∙ sym lc;
        few = omega (arith, r.few);
        segments = r.segments;
        ends = r.ends;
        vertices = λ i h. omega (arith, order_below i h);
        upper_ends = λ i h. omega (arith, r.upper_ends i h);
        lower_ends = λ i h. omega (arith, r.lower_ends i h);
        classed = most;
      }

      seg-is : (p : PlanData) → StrungPlan p gap sizes halves next top uppers lowers → segments_of p ≡ segments_from uppers lowers
      unfolding segments_of
      seg-is p b = rw (b.held.uppers_are, b.held.lowers_are)

      class-all : (strand : ℕ → List ℕ) (p : PlanData) → vertex_count p ≡ length next
          → classes_from strand 1 (cut sizes order) (replicate (length next) 0) ≡ classes_of strand (vertex_count p) (levels_by reversed 0 sizes)
      unfolding classes_of
      class-all strand p n = rw (classes_of, n) (ap (λ (x : List (List ℕ)). classes_from strand 1 x (replicate (length next) 0)) (ap (cut sizes) o ∙ cut-joined reversed 0 sizes))

      -- the whole side
      pub side-is : (placed xs : List ℤ) → right ≡ joined (map followers (levels_by reversed 0 sizes))
          → ((strand : ℕ → List ℕ) → StrandsBy strand next top → classes ≡ classes_from strand 1 (cut sizes order) (replicate (length next) 0))
          → Stand gap halves next top order right classes placed
          → Shifted (length sizes) gap halves order right uppers lowers classes placed xs
          → SideIs reversed gap sizes halves next top uppers lowers xs
      unfolding positions_on
      side-is placed xs ri classes-are stands shifts-are = record { small = shifts-are.small; each = go }
        where
          go : (p : PlanData) → StrungPlan p gap sizes halves next top uppers lowers → xs ≡ positions_on p (levels_by reversed 0 sizes)
          go p b =
              let levels = levels_by reversed 0 sizes in
              let ss = siblings_of levels in
              let strand = strand_in (inner_segments p) p.levels in
              let n = length next in
              let count : vertex_count p ≡ n = plan-count p gap sizes halves next top uppers lowers b in
              let by : StrandsBy strand next top = plan-strands p gap sizes halves next top uppers lowers b in
              let pairs : pairs_by n order right ≡ ss = ap (λ (x : List ℕ). pairs_by n x right) o ∙ ap (pairs_by n (joined levels)) ri ∙ pairs-joined reversed n 0 sizes r.few (omega (arith, r.vertices)) in
              let class-is : classes ≡ classes_of strand (vertex_count p) levels = classes-are strand by ∙ class-all strand p count in
              let placed-is : placed ≡ map pos (placed_strands p strand ss classes) = stands.each p strand b.held.gap_is b.held.halves_are by
              ∙ ap (λ (x : List Siblings). map pos (placed_by p strand x classes n order)) pairs
              ∙ ap (λ (x : List ℕ). map pos (placed_by p strand ss classes n x)) o
              ∙ ap (λ (x : ℕ). map pos (placed_by p strand ss classes x (joined levels))) (sym count)
              ∙ ap (map pos) (in-hand reversed p b.held.ok sizes classes b.held.sizes_are (omega (arith, r.vertices))) in
              let s : ShiftsBy p ss gap halves order right uppers lowers classes = record {
                gaps = b.held.gap_is;
                widths = b.held.halves_are;
                segments = seg-is p b;
                pairs = sym pairs ∙ ap (λ (m : ℕ). pairs_by m order right) (sym lc);
              } in
              shifts-are.each p ss s
              ∙ ap (λ (m : ℕ). shift_each p ss classes (numbers 1 m) placed) (sym b.held.levels_are)
              ∙ ap (shift_each p ss classes (numbers 1 p.levels)) placed-is
              ∙ ap (λ (c : List ℕ). shift_each p ss c (numbers 1 p.levels) (map pos (placed_strands p strand ss c))) class-is

-- before the first shift
pub spread-start : (gap : ℕ) (halves next top order right classes : List ℕ) (xs : List ℤ) → Stand gap halves next top order right classes xs → Spread 1 512000 classes xs
spread-start gap halves next top order right classes xs s = record { each = λ v. omega (arith, s.least v, s.most v); least = λ v k. s.least v; most = λ v k. s.most v }

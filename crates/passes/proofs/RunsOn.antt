-- The runs of a level. A run is a stretch of vertex numbers: its boxes are `count` numbers from `first` on, with its vias it is `long`
-- numbers from `low` on; runs and vias in turn give the level back. A run is told by level and ordinal. Assumes nothing.
use mathlib.Core.Path.{◌≡◌, refl, sym, ◌∙◌, ap, subst}
use mathlib.Core.Bool.{true, false, cond}
use mathlib.Core.List.{List, [], ◌∷◌, ◌++◌, append-nil}
use mathlib.Core.Option.{Option, none, some}
use Prim.Native.Nat.{ℕ, zero, suc, ◌+◌, ◌-◌, ◌≤◌, ◌<◌}
use native.Mathlib.Omega.{arith}
use lib.ListN.{length, get_or}
use Rattle.ints.proofs.Laws.{if-ind, cases}
use Rattle.plan.specs.Plan.{PlanData, is_via, level_at, numbers}
use Rattle.passes.specs.Runs.{Run, run, runs_from, runs_on, no_run, run_at, as_list, members}
use Rattle.plan.proofs.All.{All, all-of-get}
use Rattle.plan.proofs.Levels.{numbers-snoc, length-numbers, level-is, level-within}
use Rattle.plan.specs.inner.Levels.{first_on, size_on}
use Rattle.passes.specs.inner.Runs.{Boxes, LeftEnd, RightEnd, vias_in, IsRun, Bounds, no-left, via-left, no-right, via-right}

-- ---- the runs of a level that ends before `end`, from the k-th on, whose first box is `first`
pub data RunsTo (p : PlanData) (l end : ℕ) : ℕ → Option ℕ → ℕ → List Run → Type 0 where
  last : {k : ℕ} {left : Option ℕ} {first : ℕ} (n : ℕ) → first + n ≡ end → Boxes p first n → RunsTo p l end k left first (run l k left (numbers first n) none ∷ [])
  next : {k : ℕ} {left : Option ℕ} {first : ℕ} {rs : List Run} (n v : ℕ) → first + n ≡ v → v < end → Boxes p first n → is_via p v ≡ true
      → RunsTo p l end (suc k) (some v) (suc v) rs → RunsTo p l end k left first (run l k left (numbers first n) (some v) ∷ rs)

runs_to : (p : PlanData) (l end k : ℕ) (left : Option ℕ) (first m v n : ℕ) → first + m ≡ v → v + n ≡ end → Boxes p first m
    → RunsTo p l end k left first (runs_from p l k left (numbers first m) (numbers v n))
unfolding runs_from numbers
runs_to p l end k left first m v zero e f q = let z : first + m ≡ end = omega arith in last m z q
runs_to p l end k left first m v (suc n) e f q = if-ind (is_via p v) (run l k left (numbers first m) (some v) ∷ runs_from p l (k + 1) (some v) [] (numbers (v + 1) n))
    (runs_from p l k left (numbers first m ++ (v ∷ [])) (numbers (v + 1) n)) (λ rs. RunsTo p l end k left first rs)
    (λ t. let a : k + 1 ≡ suc k = omega arith in let b : v + 1 ≡ suc v = omega arith in
    next m v e (omega arith) q t (rw (a, b) (runs_to p l end (suc k) (some v) (suc v) 0 (suc v) n (omega arith) (omega arith) (λ w h j. absurd (omega arith)))))
    (λ t. rw (← numbers-snoc first m v e) (runs_to p l end k left first (suc m) (v + 1) n (omega arith) (omega arith)
    (λ w h j. cases v w (λ i. let z : v ≡ w = omega arith in subst (λ u. is_via p u ≡ false) z t) (λ i. q w h (omega arith)))))

-- ---- how many of the n vertices from v on are vias: those before a run on its level give its ordinal

vias-none : (p : PlanData) (v a n : ℕ) → Boxes p (v + a) n → vias_in p v (a + n) ≡ vias_in p v a
unfolding vias_in
vias-none p v a zero q = let e : a + 0 ≡ a = omega arith in ap (vias_in p v) e
vias-none p v a (suc n) q = let e : a + suc n ≡ suc (a + n) = omega arith in
    ap (vias_in p v) e ∙ rw (q (v + (a + n)) (omega arith) (omega arith)) (omega (arith, vias-none p v a n (λ w h k. q w h (omega arith))))

vias-next : (p : PlanData) (b first n v k : ℕ) → b ≤ first → first + n ≡ v → Boxes p first n → is_via p v ≡ true → k ≡ vias_in p b (first - b) → suc k ≡ vias_in p b (suc v - b)
unfolding vias_in
vias-next p b first n v k h e q t f = let z : suc v - b ≡ suc (first - b + n) = omega arith in let y : b + (first - b) ≡ first = omega arith in
    let x : b + (first - b + n) ≡ v = omega arith in
    let w : cond {A = ℕ} (is_via p (b + (first - b + n))) 1 0 ≡ 1 = rw (x, t) in
    omega (arith, ap (vias_in p b) z, vias-none p b (first - b) n (rw y q))

-- ---- a run of a plan

left-bounds : {p : PlanData} {b : ℕ} {o : Option ℕ} {low first : ℕ} → LeftEnd p b o low first → (b ≤ low) × (low ≤ first) × (first ≤ suc low)
left-bounds (no-left e f) = (omega arith, omega arith, omega arith)
left-bounds (via-left e f g h) = (omega arith, omega arith, omega arith)

right-bounds : {p : PlanData} {b : ℕ} {o : Option ℕ} {past high : ℕ} → RightEnd p b o past high → (past ≤ high) × (high ≤ suc past) × (high ≤ b)
right-bounds (no-right e f) = (omega arith, omega arith, omega arith)
right-bounds (via-right e f g h) = (omega arith, omega arith, omega arith)

pub bounds : {p : PlanData} {r : Run} (i : IsRun p r) → Bounds p r i.low i.first i.count i.high
bounds {p} {r} i = let a = left-bounds i.begins in let b = right-bounds i.ends in let c = level-within p r.level in
    record { from = a.0; left = a.1; left1 = a.2; right = b.0; right1 = b.1; to = b.2; all = omega arith }

-- the vertices beside it are vias
left_end : {p : PlanData} {b : ℕ} {o : Option ℕ} {low first : ℕ} → LeftEnd p b o low first → (v : ℕ) → o ≡ some v → is_via p v ≡ true
left_end (no-left e f) v z = let y : ◌≡◌ {A = ℕ} 0 1 = cc in absurd (omega arith)
left_end {p} (via-left {v = u} e f g t) v z = let y : u ≡ v = cc in subst (λ w. is_via p w ≡ true) y t

right_end : {p : PlanData} {b : ℕ} {o : Option ℕ} {past high : ℕ} → RightEnd p b o past high → (v : ℕ) → o ≡ some v → is_via p v ≡ true
right_end (no-right e f) v z = let y : ◌≡◌ {A = ℕ} 0 1 = cc in absurd (omega arith)
right_end {p} (via-right {v = u} e f g t) v z = let y : u ≡ v = cc in subst (λ w. is_via p w ≡ true) y t

module _ {p : PlanData} {r : Run} (i : IsRun p r) (v : ℕ) where
  pub left-via : r.left ≡ some v → is_via p v ≡ true
  left-via e = left_end i.begins v e

  pub right-via : r.right ≡ some v → is_via p v ≡ true
  right-via e = right_end i.ends v e

-- ---- its members, as numbers
pub left-list : {p : PlanData} {b : ℕ} {o : Option ℕ} {low first : ℕ} (n : ℕ) → LeftEnd p b o low first → as_list o ++ numbers first n ≡ numbers low (first - low + n)
unfolding numbers
left-list n (no-left {low = low} {first = first} e f) = let z : n ≡ first - low + n = omega arith in ap (λ v. numbers v n) (sym e) ∙ ap (numbers low) z
left-list n (via-left {v = v} {low = low} {first = first} e f g h) = let z : suc n ≡ first - low + n = omega arith in let y : v + 1 ≡ first = omega arith in
    ap (λ w. v ∷ numbers w n) (sym y) ∙ ap (λ w. numbers w (suc n)) e ∙ ap (numbers low) z

right-list : {p : PlanData} {b : ℕ} {o : Option ℕ} {past high : ℕ} (low n : ℕ) → low + n ≡ past → RightEnd p b o past high → numbers low n ++ as_list o ≡ numbers low (high - low)
right-list low n e (no-right {past = past} {high = high} f g) = let z : n ≡ high - low = omega arith in append-nil (numbers low n) ∙ ap (numbers low) z
right-list low n e (via-right {v = v} {past = past} {high = high} f g h i) = let z : suc n ≡ high - low = omega arith in let y : low + n ≡ v = omega arith in
    sym (numbers-snoc low n v y) ∙ ap (numbers low) z

pub members-are : {p : PlanData} {r : Run} (i : IsRun p r) → members r ≡ numbers i.low (i.high - i.low)
members-are {p} {r} i = let b = bounds i in let e = i.boxes in
    ap (λ (l : List ℕ). as_list r.left ++ l ++ as_list r.right) e
    ∙ ap (λ (l : List ℕ). l ++ as_list r.right) (left-list i.count i.begins)
    ∙ right-list i.low (i.first - i.low + i.count) (omega arith) i.ends

-- ---- every run of a level is one
length_from : (p : PlanData) (l k : ℕ) (left : Option ℕ) (bs vs : List ℕ) → length (runs_from p l k left bs vs) ≤ suc (length vs)
unfolding runs_from
length_from p l k left bs [] = omega arith
length_from p l k left bs (v ∷ vs) = if-ind (is_via p v) (run l k left bs (some v) ∷ runs_from p l (k + 1) (some v) [] vs) (runs_from p l k left (bs ++ (v ∷ [])) vs)
    (λ rs. length rs ≤ suc (suc (length vs))) (λ t. omega (arith, length_from p l (k + 1) (some v) [] vs)) (λ t. omega (arith, length_from p l k left (bs ++ (v ∷ [])) vs))

pub runs-length : (p : PlanData) (l : ℕ) → length (runs_on p l) ≤ suc (size_on p l)
unfolding runs_on
runs-length p l = rw (level-is p l) (omega (arith, length_from p l 0 none [] (numbers (first_on p l) (size_on p l)), length-numbers (first_on p l) (size_on p l)))

-- all but that it is the plan's
record Part (p : PlanData) (l k : ℕ) (r : Run) : Type 0 where
  pub low : ℕ
  pub first : ℕ
  pub count : ℕ
  pub high : ℕ
  pub begins : LeftEnd p (first_on p l) r.left low first
  pub boxes : r.boxes ≡ numbers first count
  pub ends : RightEnd p (first_on p l + size_on p l) r.right (first + count) high
  pub plain : Boxes p first count
  pub place : k ≡ vias_in p (first_on p l) (first - first_on p l)
  pub level : r.level ≡ l
  pub ordinal : r.ordinal ≡ k

part : (p : PlanData) (l : ℕ) {k : ℕ} {left : Option ℕ} {low first : ℕ} {rs : List Run} → RunsTo p l (first_on p l + size_on p l) k left first rs → LeftEnd p (first_on p l) left low first
    → k ≡ vias_in p (first_on p l) (first - first_on p l) → (i : ℕ) → i < length rs → Part p l (k + i) (get_or rs i no_run)
part p l {k} {low} {first} (last n e q) g c zero h =
    record { low = low; first = first; count = n; high = first + n; begins = g; boxes = refl; ends = no-right refl e; plain = q; place = omega arith; level = refl; ordinal = omega arith }
part p l (last n e q) g c (suc i) h = absurd (omega arith)
part p l {k} {low} {first} (next n v e f q t rs) g c zero h =
    record { low = low; first = first; count = n; high = suc v; begins = g; boxes = refl; ends = via-right (sym e) refl f t; plain = q; place = omega arith; level = refl; ordinal = omega arith }
part p l {k} {left} {low} {first} (next {rs = more} n v e f q t rs) g c (suc i) h = let z : suc k + i ≡ k + suc i = omega arith in
    subst (λ j. Part p l j (get_or more i no_run)) z (part p l {low = v} rs (via-left refl refl (omega (arith, left-bounds g)) t)
    (vias-next p (first_on p l) first n v k (omega (arith, left-bounds g)) e q t c) i (omega arith))

pub level-runs : (p : PlanData) (l : ℕ) → RunsTo p l (first_on p l + size_on p l) 0 none (first_on p l) (runs_on p l)
unfolding runs_on numbers
level-runs p l = let z : runs_from p l 0 none [] (level_at p l) ≡ runs_from p l 0 none [] (numbers (first_on p l) (size_on p l)) = ap (runs_from p l 0 none []) (level-is p l) in
    rw z (runs_to p l (first_on p l + size_on p l) 0 none (first_on p l) 0 (first_on p l) (size_on p l) (omega arith) refl (λ w h j. absurd (omega arith)))

parts : (p : PlanData) (l k : ℕ) → k < length (runs_on p l) → Part p l k (get_or (runs_on p l) k no_run)
unfolding vias_in
parts p l k m = let y : 0 + k ≡ k = omega arith in let x : first_on p l - first_on p l ≡ 0 = omega arith in
    let none_before : 0 ≡ vias_in p (first_on p l) (first_on p l - first_on p l) = ap (vias_in p (first_on p l)) (sym x) in
    subst (λ j. Part p l j (get_or (runs_on p l) k no_run)) y (part p l {low = first_on p l} (level-runs p l) (no-left refl refl) none_before k m)

-- its level, and its place there
pub run-level : (p : PlanData) (l k : ℕ) → k < length (runs_on p l) → ((get_or (runs_on p l) k no_run).level ≡ l) × ((get_or (runs_on p l) k no_run).ordinal ≡ k)
run-level p l k m = let q = parts p l k m in (q.level, q.ordinal)

told : (p : PlanData) (l k : ℕ) (r : Run) → get_or (runs_on p l) k no_run ≡ r → r.level ≡ l → r.ordinal ≡ k → run_at p r.level r.ordinal ≡ r
unfolding run_at
told p l k r e f g = ap (λ (n : ℕ). get_or (runs_on p n) r.ordinal no_run) f ∙ ap (λ (n : ℕ). get_or (runs_on p l) n no_run) g ∙ e

of_part : (p : PlanData) (l k : ℕ) (r : Run) → 1 ≤ l → l ≤ p.levels → k < length (runs_on p l) → get_or (runs_on p l) k no_run ≡ r → Part p l k r → IsRun p r
of_part p l k r h j m e q = let f : l ≡ r.level = sym q.level in record {
  low = q.low;
  first = q.first;
  count = q.count;
  high = q.high;
  begins = subst (λ n. LeftEnd p (first_on p n) r.left q.low q.first) f q.begins;
  boxes = q.boxes;
  ends = subst (λ n. RightEnd p (first_on p n + size_on p n) r.right (q.first + q.count) q.high) f q.ends;
  plain = q.plain;
  one = omega arith;
  many = omega arith;
  few = rw (q.level, q.ordinal) m;
  place = q.ordinal ∙ subst (λ n. k ≡ vias_in p (first_on p n) (q.first - first_on p n)) f q.place;
  told = told p l k r e q.level q.ordinal;
}

pub run-at : (p : PlanData) (l k : ℕ) → 1 ≤ l → l ≤ p.levels → k < length (runs_on p l) → IsRun p (get_or (runs_on p l) k no_run)
run-at p l k h j m = of_part p l k (get_or (runs_on p l) k no_run) h j m refl (parts p l k m)

pub runs-are : (p : PlanData) (l : ℕ) → 1 ≤ l → l ≤ p.levels → All (IsRun p) (runs_on p l)
runs-are p l h j = all-of-get (runs_on p l) no_run (λ k m. run-at p l k h j m)

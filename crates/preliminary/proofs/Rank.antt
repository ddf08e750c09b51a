-- One order for all strands: a number for each strand that rises from left to right on every level. From the top down: on
-- each level the ranks so far are spread, and a strand that begins there stands one after its left sibling's. Assumes nothing.
use mathlib.Core.Path.{◌≡◌, sym, ◌∙◌, ap}
use mathlib.Core.Logic.{inl, inr}
use mathlib.Core.Bool.{cond}
use mathlib.Core.List.{List}
use Prim.Native.Nat.{ℕ, suc, ◌+◌, ◌*◌, ◌≤◌, ◌<◌}
use native.Mathlib.Nat.{mul-le-mul_left, mul-suc}
use native.Mathlib.Omega.{arith}
use lib.Dec.{eqb}
use lib.ListN.{length}
use borrow.Author.Tests.{eq-eqb, ne_eqb}
use Rattle.ints.proofs.Laws.{cases}
use Rattle.plan.specs.Plan.{PlanData, vertex_count, level_of}
use Rattle.plan.proofs.Sound.{Sound}
use Rattle.preliminary.proofs.Strands.{top_of, low, link-top, top-low, parent, once}
use Rattle.preliminary.proofs.Rows.{Order, Row, row-end, row_next, Rows, rows_end, rows_next, up_to}
use Rattle.preliminary.proofs.Give.{alike}

-- ranks of tops, as far as the levels above l
record Ranked (p : PlanData) (key : ℕ → ℕ) (l : ℕ) (r : ℕ → ℕ) : Type 0 where
  pub rises : (v w : ℕ) → v < vertex_count p → w < vertex_count p → level_of p v ≡ level_of p w → level_of p v < l → key v < key w → r (top_of p v) < r (top_of p w)
  pub one : (v : ℕ) → v < vertex_count p → level_of p v < l → 1 ≤ r (top_of p v)

-- on the way along level l: c is the last rank, and m more vertices find room before the next strand that continues
record Ranking (p : PlanData) (key : ℕ → ℕ) (l k c m : ℕ) (r : ℕ → ℕ) : Type 0 where
  pub before : Ranked p key l r
  pub least : (v : ℕ) → v < vertex_count p → level_of p v ≡ l → key v < k → r (top_of p v) ≤ c
  pub one : (v : ℕ) → v < vertex_count p → level_of p v ≡ l → key v < k → 1 ≤ r (top_of p v)
  pub rises : (v w : ℕ) → v < vertex_count p → w < vertex_count p → level_of p v ≡ l → level_of p w ≡ l → key v < key w → key w < k → r (top_of p v) < r (top_of p w)
  pub next : (w : ℕ) → w < vertex_count p → level_of p w ≡ l → k ≤ key w → level_of p (top_of p w) < l → c + m ≤ r (top_of p w)
  pub room : (v w : ℕ) → v < vertex_count p → w < vertex_count p → level_of p v ≡ l → level_of p w ≡ l → k ≤ key v → key v < key w → level_of p (top_of p v) < l → level_of p (top_of p w) < l → r (top_of p v) + m ≤ r (top_of p w)

-- the strands have ranks
pub record Rank (p : PlanData) (key : ℕ → ℕ) : Type 0 where
  pub rank : ℕ → ℕ
  pub rises : (v w : ℕ) → v < vertex_count p → w < vertex_count p → level_of p v ≡ level_of p w → key v < key w → rank (top_of p v) < rank (top_of p w)

abbrev changed : (ℕ → ℕ) → ℕ → ℕ → ℕ → ℕ
changed r t c u = cond (eqb u t) c (r u)

module _ (p : PlanData) (S : Sound p) (key : ℕ → ℕ) (O : Order p key) where
  -- a strand that begins here
  fresh : (l k c m v : ℕ) (r : ℕ → ℕ) → Ranking p key l k c (suc m) r → v < vertex_count p → level_of p v ≡ l → k ≤ key v
      → ((w : ℕ) → w < vertex_count p → level_of p w ≡ l → k ≤ key w → key v ≤ key w) → level_of p (top_of p v) ≡ l → Ranking p key l (suc (key v)) (suc c) m (changed r (top_of p v) (suc c))
  fresh l k c m v r s h e j f b = record {
    before = record {
      rises = λ x w hx hw q i n. rw (other x (above x (omega arith)), other w (above w (omega arith))) (s.before.rises x w hx hw q i n);
      one = λ x hx i. rw (other x (above x i)) (s.before.one x hx i);
    };
    least = λ x hx ex q. split x hx ex q (λ t. rw (mine x t) (omega arith)) (λ t n. rw (other x t) (omega (arith, s.least x hx ex n)));
    one = λ x hx ex q. split x hx ex q (λ t. rw (mine x t) (omega arith)) (λ t n. rw (other x t) (s.one x hx ex n));
    rises = λ x w hx hw ex ew q i. split w hw ew i
        (λ t. split x hx ex (omega arith) (λ y. absurd (omega (arith, ap key (once p S x w (y ∙ sym t) (ex ∙ sym ew))))) (λ y n. rw (mine w t, other x y) (omega (arith, s.least x hx ex n))))
        (λ t n. split x hx ex (omega arith) (λ y. absurd (omega (arith, ap key (once p S x v y (ex ∙ sym e))))) (λ y n'. rw (other w t, other x y) (s.rises x w hx hw ex ew q n)));
    next = λ w hw ew q i. rw (other w (λ t. omega (arith, ap (level_of p) t))) (omega (arith, s.next w hw ew (omega arith) i));
    room = λ x w hx hw ex ew q i n n'. rw (other x (λ t. omega (arith, ap (level_of p) t)), other w (λ t. omega (arith, ap (level_of p) t))) (omega (arith, s.room x w hx hw ex ew (omega arith) i n n'));
  }
    where
      mine : (x : ℕ) → top_of p x ≡ top_of p v → changed r (top_of p v) (suc c) (top_of p x) ≡ suc c
      mine x t = rw (eq-eqb (top_of p x) (top_of p v) t)

      other : (x : ℕ) → (top_of p x ≡ top_of p v → ⊥) → changed r (top_of p v) (suc c) (top_of p x) ≡ r (top_of p x)
      other x t = rw (ne_eqb (top_of p x) (top_of p v) t)

      above : (x : ℕ) → level_of p x < l → top_of p x ≡ top_of p v → ⊥
      above x q t = omega (arith, ap (level_of p) t, top-low p S p.levels x)

      split : (x : ℕ) {G : Type 0} → x < vertex_count p → level_of p x ≡ l → key x < suc (key v) → (top_of p x ≡ top_of p v → G) → ((top_of p x ≡ top_of p v → ⊥) → key x < k → G) → G
      split x {G} hx ex q g n = alike (top_of p x) (top_of p v) g (λ t. elim (up_to p key O l k v h f x hx ex q) [ inl y ↦ absurd (t (ap (top_of p) y)) | inr y ↦ n t y ])

  -- one that continues
  kept : (l k c m v : ℕ) (r : ℕ → ℕ) → Ranking p key l k c (suc m) r → v < vertex_count p → level_of p v ≡ l → k ≤ key v
      → ((w : ℕ) → w < vertex_count p → level_of p w ≡ l → k ≤ key w → key v ≤ key w) → level_of p (top_of p v) < l → Ranking p key l (suc (key v)) (r (top_of p v)) m r
  kept l k c m v r s h e j f b = record {
    before = s.before;
    least = λ x hx ex q. split x hx ex q (λ t. omega (arith, ap (λ (y : ℕ). r (top_of p y)) t)) (λ n. omega (arith, s.least x hx ex n, gap));
    one = λ x hx ex q. split x hx ex q (λ t. omega (arith, ap (λ (y : ℕ). r (top_of p y)) t, gap)) (λ n. s.one x hx ex n);
    rises = λ x w hx hw ex ew q i. split w hw ew i
        (λ t. split x hx ex (omega arith) (λ y. absurd (omega (arith, ap key y, ap key t))) (λ n. omega (arith, s.least x hx ex n, gap, ap (λ (y : ℕ). r (top_of p y)) t)))
        (λ n. s.rises x w hx hw ex ew q n);
    next = λ w hw ew q i. omega (arith, s.room v w h hw e ew j q b i);
    room = λ x w hx hw ex ew q i n n'. omega (arith, s.room x w hx hw ex ew (omega arith) i n n');
  }
    where
      gap : c + suc m ≤ r (top_of p v)
      gap = s.next v h e j b

      split : (x : ℕ) {G : Type 0} → x < vertex_count p → level_of p x ≡ l → key x < suc (key v) → (x ≡ v → G) → (key x < k → G) → G
      split x {G} hx ex q g n = elim (up_to p key O l k v h f x hx ex q) [ inl y ↦ g y | inr y ↦ n y ]

  finish : (l k c m : ℕ) (r : ℕ → ℕ) → Ranking p key l k c m r → ((w : ℕ) → w < vertex_count p → level_of p w ≡ l → key w < k) → Ranked p key (l + 1) r
  finish l k c m r s f = record {
    rises = λ v w h i e q j. cases l (level_of p v) (λ a. s.rises v w h i (omega arith) (omega arith) j (f w i (omega arith))) (λ a. s.before.rises v w h i e a j);
    one = λ v h q. cases l (level_of p v) (λ a. s.one v h (omega arith) (f v h (omega arith))) (λ a. s.before.one v h a);
  }

  scan : {l k : ℕ} {vs : List ℕ} (c : ℕ) (r : ℕ → ℕ) → Row p key l k vs → Ranking p key l k c (length vs) r → (r' : ℕ → ℕ) × Ranked p key (l + 1) r'
  scan {l} {k} c r (row-end f) s = (r, finish l k c 0 r s f)
  scan {l} {k} c r (row_next {v = v} {vs = vs} h e j f o) s = cases l (level_of p (top_of p v))
      (λ a. let b : level_of p (top_of p v) ≡ l = omega (arith, top-low p S p.levels v) in
      scan (suc c) (changed r (top_of p v) (suc c)) o (fresh l k c (length vs) v r s h e j f b))
      (λ a. scan (r (top_of p v)) r o (kept l k c (length vs) v r s h e j f a))

  -- of two strands that continue, and of one
  ordered : (l : ℕ) (r : ℕ → ℕ) → Ranked p key l r → (v w : ℕ) → level_of p v ≡ l → level_of p w ≡ l → key v < key w → level_of p (top_of p v) < l → level_of p (top_of p w) < l → r (top_of p v) < r (top_of p w)
  ordered l r R v w e e' k t t' =
      let a = parent p S v (omega arith) in let b = parent p S w (omega arith) in
      let o = R.rises a.0 b.0 a.1.upper_in b.1.upper_in (omega (arith, a.1.down, b.1.down)) (omega (arith, a.1.down)) (O.links a.0 b.0 v w a.1 b.1 (omega arith) k) in
      omega (arith, ap r (link-top p S a.0 v a.1), ap r (link-top p S b.0 w b.1))

  ranked : (l : ℕ) (r : ℕ → ℕ) → Ranked p key l r → (w : ℕ) → level_of p w ≡ l → level_of p (top_of p w) < l → 1 ≤ r (top_of p w)
  ranked l r R w e t = let a = parent p S w (omega arith) in omega (arith, R.one a.0 a.1.upper_in (omega (arith, a.1.down)), ap r (link-top p S a.0 w a.1))

  -- spread: where ranks rose by one they rise by more than m
  spread : (m a b : ℕ) → a < b → suc m * a + suc m ≤ suc m * b
  spread m a b h = omega (arith, mul-le-mul_left (suc m) h, mul-suc (suc m) a)

  begin : (l m : ℕ) (r : ℕ → ℕ) → Ranked p key l r → Ranking p key l 0 0 m (λ t. suc m * r t)
  begin l m r R = record {
    before = record {
      rises = λ v w h i e q j. omega (arith, spread m (r (top_of p v)) (r (top_of p w)) (R.rises v w h i e q j));
      one = λ v h q. omega (arith, spread m 0 (r (top_of p v)) (R.one v h q));
    };
    least = λ v h e q. absurd (omega arith);
    one = λ v h e q. absurd (omega arith);
    rises = λ v w h i e e' q q'. absurd (omega arith);
    next = λ w h e q t. omega (arith, spread m 0 (r (top_of p w)) (ranked l r R w e t));
    room = λ v w h i e e' q k t t'. omega (arith, spread m (r (top_of p v)) (r (top_of p w)) (ordered l r R v w e e' k t t'));
  }

  scans : {l : ℕ} {vss : List (List ℕ)} (r : ℕ → ℕ) → Ranked p key l r → Rows p key l vss → (m : ℕ) × (r' : ℕ → ℕ) × Ranked p key m r' × ((w : ℕ) → w < vertex_count p → level_of p w < m)
  scans {l} r R (rows_end f) = (l, r, R, f)
  scans {l} r R (rows_next {vs = vs} o os) = let s = scan 0 (λ t. suc (length vs) * r t) o (begin l (length vs) r R) in scans s.0 s.1 os

  pub ranks : (vss : List (List ℕ)) → Rows p key 1 vss → Rank p key
  ranks vss os =
      let start : Ranked p key 1 (λ t. 1) = record { rises = λ v w h i e q j. absurd (omega (arith, low p S v)); one = λ v h q. omega arith } in
      let s = scans (λ t. 1) start os in
      record { rank = s.1; rises = λ v w h i e j. s.2.rises v w h i e (s.3 v h) j }

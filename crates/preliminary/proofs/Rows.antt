-- Levels written in an order from left to right: as the plan has them, or each reversed. `key` is the order: on each level
-- keys rise from left to right. Assumes nothing.
use mathlib.Core.Path.{◌≡◌, refl, sym, ◌∙◌, ap}
use mathlib.Core.Logic.{◌⊎◌, inl, inr}
use mathlib.Core.List.{List, [], ◌∷◌, ◌++◌, map, reverse, reverse-append}
use mathlib.Core.Option.{Option, none, some}
use Prim.Native.Nat.{ℕ, zero, suc, ◌+◌, ◌-◌, ◌≤◌, ◌<◌}
use native.Mathlib.Omega.{arith}
use lib.Dec.{eqb}
use lib.ListN.{get_or}
use borrow.Author.Tests.{eqb-true, eq-eqb, lt-ltb, le-ltb}
use Rattle.ints.proofs.Laws.{if-ind, cases}
use Rattle.plan.specs.Plan.{PlanData, vertex_count, level_of, level_in, numbers, levels_from, levels_of, Siblings, pairs_on, siblings_of, left_sibling}
use Rattle.ints.specs.Lists.{sum}
use Rattle.ints.specs.inner.Members.{Mem}
use Rattle.plan.proofs.Sound.{Sound, mem-left, mem-right, mem-append}
use Rattle.plan.proofs.LevelLaws.{level-low}
use Rattle.preliminary.specs.Place.{of_class, asked_by}
use Rattle.preliminary.specs.Shift.{class_at}
use Rattle.preliminary.proofs.Strands.{Link, link-down, link-order}

pub record Order (p : PlanData) (key : ℕ → ℕ) : Type 0 where
  -- a key is one vertex's
  pub same : (v w : ℕ) → v < vertex_count p → w < vertex_count p → key v ≡ key w → v ≡ w
  -- inner segments keep the order
  pub links : (u u' v v' : ℕ) → Link p u v → Link p u' v' → level_of p v ≡ level_of p v' → key v < key v' → key u < key u'

-- the vertices of level l with keys from k on, in their order
pub data Row (p : PlanData) (key : ℕ → ℕ) (l : ℕ) : ℕ → List ℕ → Type 0 where
  row-end : {k : ℕ} → ((w : ℕ) → w < vertex_count p → level_of p w ≡ l → key w < k) → Row p key l k []
  row_next : {k v : ℕ} {vs : List ℕ} → v < vertex_count p → level_of p v ≡ l → k ≤ key v
      → ((w : ℕ) → w < vertex_count p → level_of p w ≡ l → k ≤ key w → key v ≤ key w) → Row p key l (suc (key v)) vs → Row p key l k (v ∷ vs)

-- the levels from l on
pub data Rows (p : PlanData) (key : ℕ → ℕ) : ℕ → List (List ℕ) → Type 0 where
  rows_end : {l : ℕ} → ((w : ℕ) → w < vertex_count p → level_of p w < l) → Rows p key l []
  rows_next : {l : ℕ} {vs : List ℕ} {vss : List (List ℕ)} → Row p key l 0 vs → Rows p key (l + 1) vss → Rows p key l (vs ∷ vss)

-- ---- siblings
pub record Adjacent (p : PlanData) (key : ℕ → ℕ) (u v : ℕ) : Type 0 where
  pub left_in : u < vertex_count p
  pub right_in : v < vertex_count p
  pub level : level_of p u ≡ level_of p v
  pub before : key u < key v
  pub nearest : (w : ℕ) → w < vertex_count p → level_of p w ≡ level_of p v → key w < key v → key w ≤ key u

abbrev pub pair : ℕ → ℕ → Siblings
pair u v = record { left = u; right = v }

module _ (p : PlanData) (key : ℕ → ℕ) where
  row-pairs : {l k : ℕ} {vs : List ℕ} (s : Siblings) → Row p key l k vs → Mem s (pairs_on vs) → Adjacent p key s.left s.right
  unfolding pairs_on
  row-pairs s (row-end f) m = absurd m
  row-pairs s (row_next h e k f (row-end g)) m = absurd m
  row-pairs {l} s (row_next {v = v} h e k f (row_next {v = w} h' e' k' f' r)) (inl q) =
      let a : s.left ≡ v = ap (λ (x : Siblings). x.left) q in let b : s.right ≡ w = ap (λ (x : Siblings). x.right) q in
      rw (a, b) (record {
        left_in = h;
        right_in = h';
        level = e ∙ sym e';
        before = k';
        nearest = λ x i j z. cases (key x) (key v) (λ y. y) (λ y. absurd (omega (arith, f' x i (j ∙ e') y)));
      })
  row-pairs s (row_next h e k f (row_next {v = w} {vs = ws} h' e' k' f' r)) (inr m) = row-pairs s (row_next {v = w} {vs = ws} h' e' k' f' r) m

  pub sibling-adjacent : {l : ℕ} {vss : List (List ℕ)} (s : Siblings) → Rows p key l vss → Mem s (siblings_of vss) → Adjacent p key s.left s.right
  unfolding siblings_of
  sibling-adjacent s (rows_end f) m = absurd m
  sibling-adjacent s (rows_next {vs = vs} {vss = vss} r rs) m = elim (mem-append (pairs_on vs) (siblings_of vss) s m) [ inl a ↦ row-pairs s r a | inr b ↦ sibling-adjacent s rs b ]

  module _ (O : Order p key) where
    -- up to the next vertex of a row there is only it
    pub up_to : (l k v : ℕ) → v < vertex_count p → ((w : ℕ) → w < vertex_count p → level_of p w ≡ l → k ≤ key w → key v ≤ key w)
        → (w : ℕ) → w < vertex_count p → level_of p w ≡ l → key w < suc (key v) → (w ≡ v) ⊎ (key w < k)
    up_to l k v h f w i e j = cases k (key w) (λ a. inl (O.same w v i h (omega (arith, f w i e a)))) (λ a. inr a)

    row-sibling : {l k : ℕ} {vs : List ℕ} (u v : ℕ) → Adjacent p key u v → level_of p v ≡ l → k ≤ key u → Row p key l k vs → Mem (pair u v) (pairs_on vs)
    unfolding pairs_on
    row-sibling u v a e h (row-end f) = absurd (omega (arith, f u a.left_in (a.level ∙ e)))
    row-sibling u v a e h (row_next {v = x} i d k f (row-end g)) =
        absurd (omega (arith, g v a.right_in e, f u a.left_in (a.level ∙ e) h, a.before))
    row-sibling {l} {k} u v a e h (row_next {v = x} i d j f (row_next {v = y} {vs = ys} i' d' j' f' r)) =
        cases (key u) (key x)
        (λ b. let q = O.same x u i a.left_in (omega (arith, f u a.left_in (a.level ∙ e) h)) in
        let c = f' v a.right_in e (omega (arith, a.before, ap key q)) in
        inl (λ t. pair (sym q t) (O.same v y a.right_in i' (cases (key v) (key y) (λ z. omega arith) (λ z. absurd (omega (arith, a.nearest y i' (d' ∙ sym e) z, ap key q)))) t)))
        (λ b. inr (row-sibling u v a e b (row_next {v = y} {vs = ys} i' d' j' f' r)))

    pub adjacent-sibling : {l : ℕ} {vss : List (List ℕ)} (u v : ℕ) → Adjacent p key u v → l ≤ level_of p v → Rows p key l vss → Mem (pair u v) (siblings_of vss)
    unfolding siblings_of
    adjacent-sibling u v a h (rows_end f) = absurd (omega (arith, f v a.right_in))
    adjacent-sibling {l} u v a h (rows_next {vs = vs} {vss = vss} r rs) = cases (level_of p v) l
        (λ k. mem-left (pairs_on vs) (siblings_of vss) (pair u v) (row-sibling u v a (omega arith) (omega arith) r))
        (λ k. mem-right (pairs_on vs) (siblings_of vss) (pair u v) (adjacent-sibling u v a (omega arith) rs))

    adjacent-one : (u u' v : ℕ) → Adjacent p key u v → Adjacent p key u' v → u ≡ u'
    adjacent-one u u' v a b = O.same u u' a.left_in b.left_in
        (omega (arith, a.nearest u' b.left_in b.level b.before, b.nearest u a.left_in a.level a.before))

    pub left_is : (ss : List Siblings) → ((s : Siblings) → Mem s ss → Adjacent p key s.left s.right) → (u v : ℕ) → Mem (pair u v) ss → left_sibling ss v ≡ some u
    unfolding left_sibling
    left_is [] f u v m = absurd m
    left_is (s ∷ ss) f u v (inl q) = rw (eq-eqb s.right v (ap (λ (x : Siblings). x.right) (sym q))) (ap (λ (x : Siblings). some x.left) (sym q))
    left_is (s ∷ ss) f u v (inr m) = if-ind (eqb s.right v) (some s.left) (left_sibling ss v) (λ o. o ≡ some u)
        (λ t. let q = eqb-true s.right v t in ap some (adjacent-one s.left u v (rw q at (f s (inl refl))) (f (pair u v) (inr m))))
        (λ t. left_is ss (λ x n. f x (inr n)) u v m)

pub none-some : {u : ℕ} → ◌≡◌ {A = Option ℕ} none (some u) → ⊥
none-some {u} e = let z : ◌≡◌ {A = ℕ} 0 1 = cc in omega arith

pub left-in-list : (ss : List Siblings) (u v : ℕ) → left_sibling ss v ≡ some u → Mem (pair u v) ss
unfolding left_sibling
left-in-list [] u v e = absurd (none-some e)
left-in-list (s ∷ ss) u v e = if-ind (eqb s.right v) (some s.left) (left_sibling ss v) (λ o. o ≡ some u → Mem (pair u v) (s ∷ ss))
    (λ t e. let q = eqb-true s.right v t in let r : s.left ≡ u = cc in inl (λ i. pair (sym r i) (sym q i)))
    (λ t e. inr (left-in-list ss u v e)) e

-- who is asked is the left sibling, if of the same class
pub asked-left : (ss : List Siblings) (cs : List ℕ) (u v : ℕ) → asked_by ss cs v ≡ some u → left_sibling ss v ≡ some u
unfolding asked_by
asked-left ss cs u v e = go (left_sibling ss v) e
  where
    go : (o : Option ℕ) → of_class cs v o ≡ some u → o ≡ some u
    go none q = q
    go (some x) q = if-ind (eqb (get_or cs x 0) (get_or cs v 0)) (some x) none (λ z. z ≡ some u → some x ≡ some u) (λ t k. k) (λ t k. absurd (none-some k)) q

pub left-asked : (ss : List Siblings) (cs : List ℕ) (u v : ℕ) → left_sibling ss v ≡ some u → class_at cs u ≡ class_at cs v → asked_by ss cs v ≡ some u
unfolding asked_by
left-asked ss cs u v e q = rw (e, eq-eqb (get_or cs u 0) (get_or cs v 0) q)

-- ---- the plan's levels
row-numbers : (p : PlanData) (l a m k : ℕ) → k ≤ a → ((w : ℕ) → w < vertex_count p → level_of p w ≡ l → k ≤ w → (a ≤ w) × (w < a + m))
    → ((w : ℕ) → a ≤ w → w < a + m → (w < vertex_count p) × (level_of p w ≡ l)) → Row p (λ v. v) l k (numbers a m)
unfolding numbers
row-numbers p l a zero k h f g = row-end (λ w i e. cases k w (λ j. absurd (omega (arith, f w i e j))) (λ j. j))
row-numbers p l a (suc m) k h f g = let r = g a (omega arith) (omega arith) in
    row_next r.0 r.1 h (λ w i e j. (f w i e j).0)
    (row-numbers p l (a + 1) m (suc a) (omega arith) (λ w i e j. omega (arith, f w i e (omega arith))) (λ w i j. g w (omega arith) (omega arith)))

numbers-last : (a m : ℕ) → numbers a (suc m) ≡ numbers a m ++ ((a + m) ∷ [])
unfolding numbers
numbers-last a zero = let e : a + 0 ≡ a = omega arith in rw e
numbers-last a (suc m) = let e : a + 1 + m ≡ a + suc m = omega arith in ap (λ (r : List ℕ). a ∷ r) (rw e at (numbers-last (a + 1) m))

numbers-reversed : (a m : ℕ) → reverse (numbers a (suc m)) ≡ (a + m) ∷ reverse (numbers a m)
numbers-reversed a m = ap reverse (numbers-last a m) ∙ reverse-append (numbers a m) ((a + m) ∷ [])

numbers-none : (a : ℕ) → numbers a 0 ≡ []
unfolding numbers
numbers-none a = refl

abbrev pub mirror : PlanData → ℕ → ℕ
mirror p v = vertex_count p - v

row-reversed : (p : PlanData) (l a m k : ℕ) → k + (a + m) ≤ vertex_count p + 1 → ((w : ℕ) → w < vertex_count p → level_of p w ≡ l → k ≤ mirror p w → (a ≤ w) × (w < a + m))
    → ((w : ℕ) → a ≤ w → w < a + m → (w < vertex_count p) × (level_of p w ≡ l)) → Row p (mirror p) l k (reverse (numbers a m))
row-reversed p l a zero k h f g = rw (numbers-none a) (row-end (λ w i e. cases k (mirror p w) (λ j. absurd (omega (arith, f w i e j))) (λ j. j)))
row-reversed p l a (suc m) k h f g = let r = g (a + m) (omega arith) (omega arith) in
    rw (numbers-reversed a m) (row_next {k = k} {v = a + m} r.0 r.1 (omega arith) (λ w i e j. omega (arith, f w i e j))
    (row-reversed p l a m (suc (mirror p (a + m))) (omega arith) (λ w i e j. omega (arith, f w i e (omega arith))) (λ w i j. g w (omega arith) (omega arith))))

-- level l + 1 begins with vertex a, ns are its size and those of the levels below
record From (p : PlanData) (l a : ℕ) (ns : List ℕ) : Type 0 where
  pub upper : (v : ℕ) → v < a → level_of p v ≤ l
  pub lower : (v : ℕ) → a ≤ v → level_of p v ≡ l + level_in ns (v - a)
  pub total : a + sum ns ≡ vertex_count p

record Span (p : PlanData) (l a m : ℕ) : Type 0 where
  pub inside : (w : ℕ) → a ≤ w → w < a + m → (w < vertex_count p) × (level_of p w ≡ l + 1)
  pub within : (w : ℕ) → w < vertex_count p → level_of p w ≡ l + 1 → (a ≤ w) × (w < a + m)

from-here : (p : PlanData) (l a m : ℕ) (ns : List ℕ) → From p l a (m ∷ ns) → Span p l a m
unfolding level_in sum
from-here p l a m ns f = record {
  inside = λ w h k. (omega (arith, f.total), f.lower w h ∙ rw (lt-ltb (w - a) m (omega arith)));
  within = λ w h e. cases a w
      (λ j. cases (a + m) w
      (λ i. absurd (omega (arith, rw (le-ltb (w - a) m (omega arith)) at (f.lower w j), level-low ns (w - a - m))))
      (λ i. (j, i)))
      (λ j. absurd (omega (arith, f.upper w j)));
}

from_next : (p : PlanData) (l a m : ℕ) (ns : List ℕ) → From p l a (m ∷ ns) → From p (l + 1) (a + m) ns
unfolding level_in sum
from_next p l a m ns f = record {
  upper = λ w h. cases a w (λ j. omega (arith, ((from-here p l a m ns f).inside w j h).1)) (λ j. omega (arith, f.upper w j));
  lower = λ w h. let e : w - (a + m) ≡ w - a - m = omega arith in
      rw e (omega (arith, rw (le-ltb (w - a) m (omega arith)) at (f.lower w (omega arith))));
  total = omega (arith, f.total);
}

from_end : (p : PlanData) (l a : ℕ) → From p l a [] → (w : ℕ) → w < vertex_count p → level_of p w < l + 1
unfolding sum
from_end p l a f w h = omega (arith, f.upper w (omega (arith, f.total)))

rows-plain : (p : PlanData) (l a : ℕ) (ns : List ℕ) → From p l a ns → Rows p (λ v. v) (l + 1) (levels_from a ns)
unfolding levels_from
rows-plain p l a [] f = rows_end (from_end p l a f)
rows-plain p l a (m ∷ ns) f = let s = from-here p l a m ns f in
    rows_next (row-numbers p (l + 1) a m 0 (omega arith) (λ w h e k. s.within w h e) s.inside) (rows-plain p (l + 1) (a + m) ns (from_next p l a m ns f))

rows-mirrored : (p : PlanData) (l a : ℕ) (ns : List ℕ) → From p l a ns → Rows p (mirror p) (l + 1) (map reverse (levels_from a ns))
unfolding levels_from
rows-mirrored p l a [] f = rows_end (from_end p l a f)
rows-mirrored p l a (m ∷ ns) f = let s = from-here p l a m ns f in let g = from_next p l a m ns f in
    rows_next (row-reversed p (l + 1) a m 0 (omega (arith, g.total)) (λ w h e k. s.within w h e) s.inside) (rows-mirrored p (l + 1) (a + m) ns g)

from_top : (p : PlanData) → Sound p → From p 0 0 p.sizes
unfolding level_of
from_top p S = record { upper = λ v h. absurd (omega arith); lower = λ v h. let e : v - 0 ≡ v = omega arith in rw e (omega arith); total = omega (arith, S.limits.sizes_sum) }

pub levels-plain : (p : PlanData) → Sound p → Rows p (λ v. v) 1 (levels_of p)
unfolding levels_of
levels-plain p S = rows-plain p 0 0 p.sizes (from_top p S)

pub levels-mirrored : (p : PlanData) → Sound p → Rows p (mirror p) 1 (map reverse (levels_of p))
unfolding levels_of
levels-mirrored p S = rows-mirrored p 0 0 p.sizes (from_top p S)

uncrossed : (p : PlanData) → Sound p → (u u' v v' : ℕ) → Link p u v → Link p u' v' → level_of p v ≡ level_of p v' → v < v' → u < u'
uncrossed p S u u' v v' a b e h = cases u' u
    (λ k. cases u u' (λ j. let q : u ≡ u' = omega arith in absurd (omega (arith, link-down p S u v v' a (rw q b))))
    (λ j. absurd (omega (arith, link-order p S u' u v' v b a (omega (arith, a.down, b.down)) j))))
    (λ k. k)

pub order-plain : (p : PlanData) → Sound p → Order p (λ v. v)
order-plain p S = record { same = λ v w h k e. e; links = uncrossed p S }

pub order-mirrored : (p : PlanData) → Sound p → Order p (mirror p)
order-mirrored p S = record {
  same = λ v w h k e. omega arith;
  links = λ u u' v v' a b e h. omega (arith, a.upper_in, b.upper_in, uncrossed p S u' u v' v b a (sym e) (omega (arith, a.lower_in, b.lower_in)));
}

-- from right to left
pub adjacent-mirrored : (p : PlanData) (u v : ℕ) → Adjacent p (λ v. v) u v → Adjacent p (mirror p) v u
adjacent-mirrored p u v a = record {
  left_in = a.right_in;
  right_in = a.left_in;
  level = sym a.level;
  before = omega (arith, a.before, a.left_in, a.right_in);
  nearest = λ w h e k. cases v w (λ j. omega arith) (λ j. absurd (omega (arith, a.nearest w h (e ∙ a.level) j)));
}

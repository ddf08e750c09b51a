-- Class numbers: a strand has one, from 1 to the number of levels, and on each level they do not rise from left to right.
-- Assumes nothing.
use mathlib.Core.Path.{◌≡◌, refl, sym, ◌∙◌, ap}
use mathlib.Core.Logic.{inl, inr}
use mathlib.Core.List.{List}
use Prim.Native.Nat.{ℕ, suc, ◌+◌, ◌≤◌, ◌<◌}
use native.Mathlib.Omega.{arith}
use lib.Dec.{eqb}
use lib.ListN.{length, get_or, replicate, length-replicate, get_or-replicate}
use borrow.Author.Tests.{eqb-true, eqb-false}
use Rattle.ints.proofs.Laws.{if-ind, cases}
use Rattle.plan.specs.Plan.{PlanData, vertex_count, level_of}
use Rattle.plan.proofs.Sound.{Sound}
use Rattle.preliminary.specs.Classes.{give, classes_on, classes_from, classes_of}
use Rattle.preliminary.specs.Shift.{class_at}
use Rattle.preliminary.proofs.Strands.{top_of, strand_at, low, high, link-top, top-low, top_in, top-twice, top-same, parent, once}
use Rattle.preliminary.proofs.Rows.{Order, Row, row-end, row_next, Rows, rows_end, rows_next, up_to}
use Rattle.preliminary.proofs.Give.{alike, give-long, strand-given, strand-kept}

-- what holds of the classes in the end
pub record Classes (p : PlanData) (key : ℕ → ℕ) (cs : List ℕ) : Type 0 where
  pub long : length cs ≡ vertex_count p
  pub strands : (v w : ℕ) → v < vertex_count p → w < vertex_count p → top_of p v ≡ top_of p w → class_at cs v ≡ class_at cs w
  pub least : (v : ℕ) → v < vertex_count p → 1 ≤ class_at cs v
  pub most : (v : ℕ) → v < vertex_count p → class_at cs v ≤ p.levels
  pub falls : (v w : ℕ) → v < vertex_count p → w < vertex_count p → level_of p v ≡ level_of p w → key v < key w → class_at cs w ≤ class_at cs v

-- the classes of the strands that begin above level l, and of no others
pub record Classed (p : PlanData) (key : ℕ → ℕ) (l : ℕ) (cs : List ℕ) : Type 0 where
  pub long : length cs ≡ vertex_count p
  pub strands : (v w : ℕ) → v < vertex_count p → w < vertex_count p → top_of p v ≡ top_of p w → class_at cs v ≡ class_at cs w
  pub given : (v : ℕ) → v < vertex_count p → level_of p (top_of p v) < l → 1 ≤ class_at cs v
  pub free : (v : ℕ) → v < vertex_count p → l ≤ level_of p (top_of p v) → class_at cs v ≡ 0
  pub under : (v : ℕ) → v < vertex_count p → class_at cs v ≤ level_of p (top_of p v)
  pub falls : (v w : ℕ) → v < vertex_count p → w < vertex_count p → level_of p v ≡ level_of p w → level_of p v < l → key v < key w → class_at cs w ≤ class_at cs v

-- on the way along level l, whose vertices with keys below k are done, with c the current number; cs₀ were the classes before
record Scanned (p : PlanData) (key : ℕ → ℕ) (cs₀ : List ℕ) (l k c : ℕ) (cs : List ℕ) : Type 0 where
  pub long : length cs ≡ vertex_count p
  pub strands : (v w : ℕ) → v < vertex_count p → w < vertex_count p → top_of p v ≡ top_of p w → class_at cs v ≡ class_at cs w
  pub old : (v : ℕ) → v < vertex_count p → level_of p (top_of p v) < l → class_at cs v ≡ class_at cs₀ v
  pub done : (v : ℕ) → v < vertex_count p → level_of p (top_of p v) ≡ l → key (top_of p v) < k → 1 ≤ class_at cs v
  pub here : (v : ℕ) → v < vertex_count p → level_of p (top_of p v) ≡ l → k ≤ key (top_of p v) → class_at cs v ≡ 0
  pub later : (v : ℕ) → v < vertex_count p → l < level_of p (top_of p v) → class_at cs v ≡ 0
  pub under : (v : ℕ) → v < vertex_count p → class_at cs v ≤ level_of p (top_of p v)
  pub one : 1 ≤ c
  pub most : c ≤ l
  pub least : (v : ℕ) → v < vertex_count p → level_of p v ≡ l → key v < k → c ≤ class_at cs v
  pub falls : (v w : ℕ) → v < vertex_count p → w < vertex_count p → level_of p v ≡ l → level_of p w ≡ l → key v < key w → key w < k → class_at cs w ≤ class_at cs v
  pub next : (w : ℕ) → w < vertex_count p → level_of p w ≡ l → k ≤ key w → level_of p (top_of p w) < l → class_at cs w ≤ c

module _ (p : PlanData) (S : Sound p) (key : ℕ → ℕ) (O : Order p key) where
  -- of two continuing vertices the right one has no higher class
  continuing : (l : ℕ) (cs : List ℕ) → Classed p key l cs → (v w : ℕ) → v < vertex_count p → w < vertex_count p → level_of p v ≡ l → level_of p w ≡ l
      → level_of p (top_of p v) < l → level_of p (top_of p w) < l → key v < key w → class_at cs w ≤ class_at cs v
  continuing l cs C v w hv hw ev ew tv tw k =
      let a = parent p S v (omega arith) in let b = parent p S w (omega arith) in
      let f = C.falls a.0 b.0 a.1.upper_in b.1.upper_in (omega (arith, a.1.down, b.1.down)) (omega (arith, a.1.down))
      (O.links a.0 b.0 v w a.1 b.1 (omega arith) k) in
      omega (arith, C.strands v a.0 hv a.1.upper_in (link-top p S a.0 v a.1), C.strands w b.0 hw b.1.upper_in (link-top p S b.0 w b.1))

  -- a vertex without a class gives its strand the current number
  fresh : (cs₀ : List ℕ) (l k c v : ℕ) (cs : List ℕ) → Classed p key l cs₀ → Scanned p key cs₀ l k c cs → v < vertex_count p → level_of p v ≡ l → k ≤ key v
      → ((w : ℕ) → w < vertex_count p → level_of p w ≡ l → k ≤ key w → key v ≤ key w) → class_at cs v ≡ 0 → Scanned p key cs₀ l (suc (key v)) c (give c (strand_at p v) cs)
  fresh cs₀ l k c v cs C s h e j f z = record {
    long = give-long c (strand_at p v) cs ∙ s.long;
    strands = λ x w hx hw q. by x
        (λ t. inside x hx t ∙ sym (inside w hw (sym q ∙ t))) (λ t. outside x t ∙ s.strands x w hx hw q ∙ sym (outside w (λ r. t (q ∙ r))));
    old = λ x hx q. outside x (λ t. omega (arith, ap (level_of p) t, begins)) ∙ s.old x hx q;
    done = λ x hx q i. by x (λ t. omega (arith, inside x hx t, s.one))
        (λ t. omega (arith, outside x t, s.done x hx q (elim (up_to p key O l k v h f (top_of p x) (top_in p S p.levels x hx) q i) [ inl r ↦ absurd (t (r ∙ sym top)) | inr r ↦ r ])));
    here = λ x hx q i. outside x (λ t. omega (arith, ap key (t ∙ top))) ∙ s.here x hx q (omega arith);
    later = λ x hx q. outside x (λ t. omega (arith, ap (level_of p) t, begins)) ∙ s.later x hx q;
    under = λ x hx. by x (λ t. omega (arith, inside x hx t, ap (level_of p) t, begins, s.most)) (λ t. omega (arith, outside x t, s.under x hx));
    one = s.one;
    most = s.most;
    least = least';
    falls = λ x w hx hw ex ew i q. by w (λ t. omega (arith, inside w hw t, least' x hx ex (omega arith)))
        (λ t. elim (up_to p key O l k v h f w hw ew q) [
          | inl r ↦ absurd (t (ap (top_of p) r))
          | inr r ↦
              omega (arith, outside w t, outside x (λ y. omega (arith, ap key (once p S x v y (ex ∙ sym e)))), s.falls x w hx hw ex ew i r)
        ]);
    next = λ w hw ew q i. omega (arith, outside w (λ t. omega (arith, ap (level_of p) t, begins)), s.next w hw ew (omega arith) i);
  }
    where
      new : List ℕ
      new = give c (strand_at p v) cs

      by : (x : ℕ) {G : Type 0} → (top_of p x ≡ top_of p v → G) → ((top_of p x ≡ top_of p v → ⊥) → G) → G
      by x = alike (top_of p x) (top_of p v)

      begins : level_of p (top_of p v) ≡ l
      begins = cases l (level_of p (top_of p v)) (λ a. omega (arith, top-low p S p.levels v)) (λ a. absurd (omega (arith, s.old v h a, C.given v h a)))

      top : top_of p v ≡ v
      top = top-same p S v (begins ∙ sym e)

      inside : (x : ℕ) → x < vertex_count p → top_of p x ≡ top_of p v → class_at new x ≡ c
      inside x hx t = strand-given p S v h c x cs s.long hx t

      outside : (x : ℕ) → (top_of p x ≡ top_of p v → ⊥) → class_at new x ≡ class_at cs x
      outside x t = strand-kept p S v h c x cs t

      least' : (x : ℕ) → x < vertex_count p → level_of p x ≡ l → key x < suc (key v) → c ≤ class_at new x
      least' x hx ex q = by x (λ t. omega (arith, inside x hx t))
          (λ t. elim (up_to p key O l k v h f x hx ex q) [ inl r ↦ absurd (t (ap (top_of p) r)) | inr r ↦ omega (arith, outside x t, s.least x hx ex r) ])

  -- a vertex with a class makes it current
  kept : (cs₀ : List ℕ) (l k c v : ℕ) (cs : List ℕ) → Classed p key l cs₀ → Scanned p key cs₀ l k c cs → v < vertex_count p → level_of p v ≡ l → k ≤ key v
      → ((w : ℕ) → w < vertex_count p → level_of p w ≡ l → k ≤ key w → key v ≤ key w) → (class_at cs v ≡ 0 → ⊥) → Scanned p key cs₀ l (suc (key v)) (class_at cs v) cs
  kept cs₀ l k c v cs C s h e j f z = record {
    long = s.long;
    strands = s.strands;
    old = s.old;
    done = λ x hx q i. s.done x hx q (elim (up_to p key O l k v h f (top_of p x) (top_in p S p.levels x hx) q i) [
      | inl r ↦ absurd (omega (arith, continues, ap (level_of p) (ap (top_of p) (sym r) ∙ top-twice p S p.levels x), ap (level_of p) r))
      | inr r ↦ r
    ]);
    here = λ x hx q i. s.here x hx q (omega arith);
    later = s.later;
    under = s.under;
    one = cases 1 (class_at cs v) (λ a. a) (λ a. absurd (z (omega arith)));
    most = omega (arith, s.under v h, continues);
    least = least';
    falls = λ x w hx hw ex ew i q. elim (up_to p key O l k v h f w hw ew q) [ inl r ↦ omega (arith, ap (class_at cs) r, least' x hx ex (omega arith)) | inr r ↦ s.falls x w hx hw ex ew i r ];
    next = λ w hw ew q i. omega (arith, s.old w hw i, s.old v h continues, continuing l cs₀ C v w h hw e ew continues i q);
  }
    where
      continues : level_of p (top_of p v) < l
      continues = cases l (level_of p (top_of p v)) (λ a. absurd (let b : level_of p (top_of p v) ≡ l = omega (arith, top-low p S p.levels v) in
          z (s.here v h b (omega (arith, ap key (top-same p S v (b ∙ sym e))))))) (λ a. a)

      least' : (x : ℕ) → x < vertex_count p → level_of p x ≡ l → key x < suc (key v) → class_at cs v ≤ class_at cs x
      least' x hx ex q = elim (up_to p key O l k v h f x hx ex q) [ inl r ↦ omega (arith, ap (class_at cs) r) | inr r ↦ omega (arith, s.least x hx ex r, s.next v h e j continues) ]

  begin : (l : ℕ) (cs : List ℕ) → 1 ≤ l → Classed p key l cs → Scanned p key cs l 0 l cs
  begin l cs h C = record {
    long = C.long;
    strands = C.strands;
    old = λ v i q. refl;
    done = λ v i q k. absurd (omega arith);
    here = λ v i q k. C.free v i (omega arith);
    later = λ v i q. C.free v i (omega arith);
    under = C.under;
    one = h;
    most = omega arith;
    least = λ v i q k. absurd (omega arith);
    falls = λ v w i j a b q k. absurd (omega arith);
    next = λ w i q k t. omega (arith, C.under w i);
  }

  finish : (cs₀ : List ℕ) (l k c : ℕ) (cs : List ℕ) → Classed p key l cs₀ → Scanned p key cs₀ l k c cs → ((w : ℕ) → w < vertex_count p → level_of p w ≡ l → key w < k) → Classed p key (l + 1) cs
  finish cs₀ l k c cs C s f = record {
    long = s.long;
    strands = s.strands;
    given = λ v h q. cases l (level_of p (top_of p v)) (λ a. let e : level_of p (top_of p v) ≡ l = omega arith in s.done v h e (f (top_of p v) (top_in p S p.levels v h) e))
        (λ a. omega (arith, s.old v h a, C.given v h a));
    free = λ v h q. s.later v h (omega arith);
    under = s.under;
    falls = λ v w h i e q k. cases l (level_of p v) (λ a. s.falls v w h i (omega arith) (omega arith) k (f w i (omega arith)))
        (λ a. omega (arith, s.old v h (omega (arith, top-low p S p.levels v)), s.old w i (omega (arith, top-low p S p.levels w)), C.falls v w h i e a k));
  }

  scan : (cs₀ : List ℕ) (l : ℕ) → Classed p key l cs₀ → {k : ℕ} {vs : List ℕ} (c : ℕ) (cs : List ℕ) → Row p key l k vs → Scanned p key cs₀ l k c cs → Classed p key (l + 1) (classes_on (strand_at p) c vs cs)
  unfolding classes_on
  scan cs₀ l C {k} c cs (row-end f) s = finish cs₀ l k c cs C s f
  scan cs₀ l C {k} c cs (row_next {v = v} {vs = vs} h e j f r) s =
      if-ind (eqb (get_or cs v 0) 0) (classes_on (strand_at p) c vs (give c (strand_at p v) cs)) (classes_on (strand_at p) (get_or cs v 0) vs cs) (λ z. Classed p key (l + 1) z)
      (λ t. scan cs₀ l C c (give c (strand_at p v) cs) r (fresh cs₀ l k c v cs C s h e j f (eqb-true (get_or cs v 0) 0 t)))
      (λ t. scan cs₀ l C (get_or cs v 0) cs r (kept cs₀ l k c v cs C s h e j f (eqb-false (get_or cs v 0) 0 t)))

  scans : {l : ℕ} {vss : List (List ℕ)} (cs : List ℕ) → 1 ≤ l → Classed p key l cs → Rows p key l vss → (m : ℕ) × Classed p key m (classes_from (strand_at p) l vss cs) × ((w : ℕ) → w < vertex_count p → level_of p w < m)
  unfolding classes_from
  scans {l} cs h C (rows_end f) = (l, C, f)
  scans {l} cs h C (rows_next {vs = vs} r rs) = scans (classes_on (strand_at p) l vs cs) (omega arith) (scan cs l C l cs r (begin l cs h C)) rs

  pub classes-hold : (vss : List (List ℕ)) → Rows p key 1 vss → Classes p key (classes_of (strand_at p) (vertex_count p) vss)
  unfolding classes_of
  classes-hold vss rs =
      let n = vertex_count p in
      let start : Classed p key 1 (replicate n 0) = record {
        long = length-replicate n 0;
        strands = λ v w h k e. get_or-replicate n v 0 0 h ∙ sym (get_or-replicate n w 0 0 k);
        given = λ v h k. absurd (omega (arith, low p S (top_of p v)));
        free = λ v h k. get_or-replicate n v 0 0 h;
        under = λ v h. omega (arith, get_or-replicate {A = ℕ} n v 0 0 h);
        falls = λ v w h k e q j. absurd (omega (arith, low p S v));
      } in
      let r = scans (replicate n 0) (omega arith) start rs in
      record {
        long = r.1.long;
        strands = r.1.strands;
        least = λ v h. r.1.given v h (omega (arith, r.2 v h, top-low p S p.levels v));
        most = λ v h. omega (arith, r.1.under v h, top-low p S p.levels v, high p S v h);
        falls = λ v w h k e j. r.1.falls v w h k e (r.2 v h) j;
      }

-- Laws of placing, as the two functions that call each other meet its cases: how many vertices are left, how far they can
-- stand, and what the definition gives. Assumes nothing.
use Prim.Native.Nat.{ℕ, zero, suc, ◌+◌, ◌-◌, ◌*◌, ◌<◌, ◌≤◌, max}
use mathlib.Core.Path.{◌≡◌, refl, sym, ◌∙◌, ap}
use mathlib.Core.Bool.{Bool, true, false}
use mathlib.Core.List.{List, [], ◌∷◌}
use mathlib.Core.Option.{none, some}
use native.Mathlib.Omega.{arith}
use borrow.Author.Tests.{lt-ltb, le-ltb}
use native.Mathlib.Numerals.{add-one}
use lib.ListN.{length, get_or, set, drop, replicate, length-set, drop_of_length-le}
use lib.Seq.{drop-cons, get_or-set_same, get_or-set_other, set_out}
use Rattle.ints.proofs.Laws.{cases}
use Rattle.plan.specs.Plan.{PlanData, Siblings}
use Rattle.plan.specs.inner.Distances.{distance_by}
use Rattle.plan.proofs.CountLaws.{by-same}
use Rattle.prelim_classes.specs.inner.Links.{along, chain, Rising, among}
use Rattle.preliminary.specs.Classes.{give}
use Rattle.preliminary.specs.Place.{Placing, Asked, mark_all, stand, asked_by, place_strand, place_siblings, place_each}
use Rattle.prelim_classes.specs.inner.Strands.{Strung}
use Rattle.prelim_classes.specs.inner.Walks.{placing, placed_by, unbegun, Uniform, Low, Placeable, Asks, StrandKept, StrandPlaced, SiblingsKept, SiblingsPlaced}
use Rattle.prelim_classes.proofs.ChainLaws.{along-end, along-on, chain-on, by-test, never, among-here, among-more, among_none, among_later, along-inside}

-- ---- marks
pub marked-long : (vs : List ℕ) (b : List Bool) → length (mark_all vs b) ≡ length b
unfolding mark_all
marked-long [] b = refl
marked-long (v ∷ vs) b = marked-long vs (set b v true) ∙ length-set b v true

pub marked-still : (vs : List ℕ) (b : List Bool) (w : ℕ) → w < length b → get_or b w false ≡ true → get_or (mark_all vs b) w false ≡ true
unfolding mark_all
marked-still [] b w h e = e
marked-still (v ∷ vs) b w h e = marked-still vs (set b v true) w (rw length-set h)
    (by-same w v (λ s. rw s (get_or-set_same b v true false (omega arith))) (λ s. get_or-set_other b v w true false s ∙ e))

pub marked-in : (vs : List ℕ) (b : List Bool) (w : ℕ) → w < length b → among w vs ≡ true → get_or (mark_all vs b) w false ≡ true
unfolding mark_all
marked-in [] b w h a = never (sym a ∙ among_none w)
marked-in (v ∷ vs) b w h a = by-same v w
    (λ s. marked-still vs (set b v true) w (rw length-set h) (rw s (get_or-set_same b w true false h)))
    (λ s. marked-in vs (set b v true) w (rw length-set h) (sym (among-more w v vs s) ∙ a))

pub marked-out : (vs : List ℕ) (b : List Bool) (w : ℕ) → among w vs ≡ false → get_or (mark_all vs b) w false ≡ get_or b w false
unfolding mark_all
marked-out [] b w a = refl
marked-out (v ∷ vs) b w a = by-same v w
    (λ s. never (sym (ap (λ (x : ℕ). among w (x ∷ vs)) s ∙ among-here w vs) ∙ a))
    (λ s. marked-out vs (set b v true) w (sym (among-more w v vs s) ∙ a) ∙ get_or-set_other b v w true false (λ z. s (sym z)))

-- ---- how many are left
pub unbegun-le : (b : List Bool) → unbegun b ≤ length b
unfolding unbegun
unbegun-le [] = omega arith
unbegun-le (true ∷ b) = let i = unbegun-le b in omega arith
unbegun-le (false ∷ b) = let i = unbegun-le b in omega arith

pub unbegun-set : (b : List Bool) (v : ℕ) → v < length b → get_or b v false ≡ false → unbegun (set b v true) + 1 ≡ unbegun b
unfolding unbegun
unbegun-set [] v h e = absurd (omega arith)
unbegun-set (true ∷ b) zero h e = never e
unbegun-set (false ∷ b) zero h e = omega arith
unbegun-set (true ∷ b) (suc v) h e = unbegun-set b v (omega arith) e
unbegun-set (false ∷ b) (suc v) h e = let i : unbegun (set b v true) + 1 ≡ unbegun b = unbegun-set b v (omega arith) e in omega arith

pub mark-fewer : (next : List ℕ) → Rising next → (f v : ℕ) (b : List Bool) → length b ≡ length next → ((w : ℕ) → among w (along next f v) ≡ true → get_or b w false ≡ false)
    → unbegun (mark_all (along next f v) b) + length (along next f v) ≡ unbegun b
unfolding along mark_all
mark-fewer next r zero v b e h = omega arith
mark-fewer next r (suc f) v b e h = cases (length next) v
    (λ k. rw (along-end next (suc f) v k) (omega arith))
    (λ k.
    let vs = along next f (get_or next v 0) in
    let one = unbegun-set b v (omega arith) (h v (ap (among v) (along-on next f v k) ∙ among-here v vs)) in
    let u = r.rises v (omega arith) k in
    let more = mark-fewer next r f (get_or next v 0) (set b v true) (length-set b v true ∙ e)
    (λ w a. get_or-set_other b v w true false (λ s. let i = along-inside next r f (get_or next v 0) w a in omega (arith, i.from)) ∙ h w (ap (among w) (along-on next f v k) ∙ among_later w v vs a)) in
    rw (along-on next f v k) (omega arith))

-- ---- a strand's marks
module _ (next top : List ℕ) (st : Strung next top) where
  pub top-first : (v : ℕ) → v < length next → chain next (get_or top v 0) ≡ get_or top v 0 ∷ chain next (get_or next (get_or top v 0) 0)
  top-first v h = chain-on next 0 st.rising (get_or top v 0) (omega arith) (st.tops v h)

  top_in : (v : ℕ) → v < length next → among (get_or top v 0) (chain next (get_or top v 0)) ≡ true
  top_in v h = ap (among (get_or top v 0)) (top-first v h) ∙ among-here (get_or top v 0) _

  pub fresh : (b : List Bool) → Uniform top b → (v : ℕ) → v < length next → get_or b v false ≡ false → (w : ℕ) → among w (chain next (get_or top v 0)) ≡ true → get_or b w false ≡ false
  fresh b u v h e w a =
      let i = along-inside next st.rising (length next) (get_or top v 0) w a in
      u.each w (omega (arith, i.below, st.long)) ∙ ap (λ (t : ℕ). get_or b t false) (st.same v w h a) ∙ sym (u.each v (omega (arith, st.long))) ∙ e

  pub uniform-mark : (b : List Bool) → Uniform top b → length b ≡ length next → (v : ℕ) → v < length next → Uniform top (mark_all (chain next (get_or top v 0)) b)
  uniform-mark b u l v h = let vs = chain next (get_or top v 0) in record {
    each = λ w k.
        let k' : w < length next = omega (arith, st.long) in
        let t = get_or top w 0 in
        let in-t = st.tops w k' in
        by-test (among w vs)
        (λ a. marked-in vs b w (omega arith) a
        ∙ sym (marked-in vs b t (omega arith) (ap (λ (x : ℕ). among x vs) (st.same v w h a) ∙ top_in v h)))
        (λ a. by-test (among t vs)
        (λ q. never (sym (ap (λ (x : ℕ). among w (chain next x)) (sym (st.same v t h q) ∙ st.same w t k' (top_in w k')) ∙ st.own w k') ∙ a))
        (λ q. marked-out vs b w a ∙ u.each w k ∙ sym (marked-out vs b t q)));
  }

  -- one strand fewer
  pub strand-fewer : (b : List Bool) → Uniform top b → length b ≡ length next → (v : ℕ) → v < length next → get_or b v false ≡ false
      → unbegun (mark_all (chain next (get_or top v 0)) b) + length (chain next (get_or top v 0)) ≡ unbegun b
  strand-fewer b u l v h e = mark-fewer next st.rising (length next) (get_or top v 0) b l (fresh b u v h e)

  pub strand-some : (v : ℕ) → v < length next → 1 ≤ length (chain next (get_or top v 0))
  strand-some v h = rw (top-first v h) (omega arith)

-- ---- how far they stand
pub given-long : (c : ℕ) (vs xs : List ℕ) → length (give c vs xs) ≡ length xs
unfolding give
given-long c [] xs = refl
given-long c (v ∷ vs) xs = given-long c vs (set xs v c) ∙ length-set xs v c

low-set : (xs : List ℕ) (n m v c : ℕ) → Low xs n m → c + 500 * n ≤ m → Low (set xs v c) n m
low-set xs n m v c l h = record {
  each = λ w. cases (length xs) v
      (λ k. rw (set_out xs v c k) (l.each w))
      (λ k. by-same w v (λ s. rw (s, get_or-set_same xs v c 0 k) h) (λ s. rw (get_or-set_other xs v w c 0 s) (l.each w)));
}

pub low-give : (c n m : ℕ) (vs xs : List ℕ) → Low xs n m → c + 500 * n ≤ m → Low (give c vs xs) n m
unfolding give
low-give c n m [] xs l h = l
low-give c n m (v ∷ vs) xs l h = low-give c n m vs (set xs v c) (low-set xs n m v c l h) h

low-less : (xs : List ℕ) (n k m : ℕ) → Low xs n m → k ≤ n → (d : ℕ) → 500 * k + d ≤ 500 * n → Low xs k (m - d)
low-less xs n k m l h d e = record { each = λ w. omega (arith, l.each w) }

module _ (gap : ℕ) (halves next top sibling at : List ℕ) (begun : List Bool) (p : Placeable gap halves next top sibling at begun) where
  -- what placing begins with still holds after a strand, or siblings, are placed
  pub still : (at' : List ℕ) (begun' : List Bool) → length at' ≡ length at → length begun' ≡ length begun → Uniform top begun' → Low at' (unbegun begun') 512000
      → Placeable gap halves next top sibling at' begun'
  still at' begun' a b u l = record { narrow = p.narrow; strung = p.strung; boxes = p.boxes; siblings = p.siblings; places = a ∙ p.places; marks = b ∙ p.marks; uniform = u; low = l }

  -- siblings are at most 500 apart
  pub near : (u v : ℕ) → u < length halves → v < length halves → distance_by gap halves u v ≤ 500
  near u v h k = omega (arith, p.narrow.gaps, p.narrow.within u h, p.narrow.within v k)

  module _ (v : ℕ) (h : v < length next) (e : get_or begun v false ≡ false) where
    pub begin-fewer : unbegun (mark_all (chain next (get_or top v 0)) begun) + 1 ≤ unbegun begun
    begin-fewer = omega (arith, strand-fewer next top p.strung begun p.uniform p.marks v h e, strand-some next top p.strung v h)

    pub begin-falls : 2 * unbegun (mark_all (chain next (get_or top v 0)) begun) + length (chain next (get_or top v 0)) + 1 ≤ 2 * unbegun begun
    begin-falls = omega (arith, strand-fewer next top p.strung begun p.uniform p.marks v h e, strand-some next top p.strung v h)

    begin-low : (m : ℕ) → Low at (unbegun begun) m → Low at (unbegun (mark_all (chain next (get_or top v 0)) begun)) (m - 500)
    begin-low m l = low-less at (unbegun begun) (unbegun (mark_all (chain next (get_or top v 0)) begun)) m l (omega (arith, begin-fewer)) 500 (omega (arith, begin-fewer))

    pub begun-placeable : Placeable gap halves next top sibling at (mark_all (chain next (get_or top v 0)) begun)
    begun-placeable = still at (mark_all (chain next (get_or top v 0)) begun) refl (marked-long (chain next (get_or top v 0)) begun)
        (uniform-mark next top p.strung begun p.uniform p.marks v h)
        (record { each = λ w. omega (arith, begin-fewer, p.low.each w) })

    pub strand-kept : (at' : List ℕ) (begun' : List Bool) (r : ℕ)
        → SiblingsKept top at (mark_all (chain next (get_or top v 0)) begun) 0 at' begun' r
        → StrandKept top at begun (give r (chain next (get_or top v 0)) at') begun'
    strand-kept at' begun' r k = record {
      fewer = omega (arith, begin-fewer, k.fewer);
      uniform = k.uniform;
      low = λ m l.
          let some : 500 ≤ m = omega (arith, l.each 0, begin-fewer) in
          let q = k.low (m - 500) (begin-low m l) (omega (arith, l.each 0, begin-fewer)) in
          let places = q.places in
          low-give r (unbegun begun') m (chain next (get_or top v 0)) at' (record { each = λ w. omega (arith, places.each w) }) (omega (arith, q.asked));
    }

    pub strand-placed : (at' : List ℕ) (begun' : List Bool) (r : ℕ)
        → SiblingsPlaced gap halves next top sibling (get_or top v 0) 0 (placing at (mark_all (chain next (get_or top v 0)) begun)) r (placing at' begun')
        → StrandPlaced gap halves next top sibling v (placing at begun) (placing (give r (chain next (get_or top v 0)) at') begun')
    unfolding place_strand
    strand-placed at' begun' r g = record { each = go }
      where
        go : (q : PlanData) (strand : ℕ → List ℕ) (siblings : List Siblings) (classes : List ℕ) → Asks q strand siblings classes gap halves next top sibling
            → (f : ℕ) → 2 * unbegun begun ≤ f → placing (give r (chain next (get_or top v 0)) at') begun' ≡ place_strand q strand siblings classes f v (placing at begun)
        go q strand siblings classes k zero l = absurd (omega (arith, begin-fewer))
        go q strand siblings classes k (suc f) l =
            rw (e, k.strands.each v h) (ap (stand (chain next (get_or top v 0))) (g.each q strand siblings classes k f (omega (arith, begin-falls))))

  pub strand-placed-already : (v : ℕ) → get_or begun v false ≡ true → StrandPlaced gap halves next top sibling v (placing at begun) (placing at begun)
  unfolding place_strand
  strand-placed-already v e = record { each = go }
    where
      go : (q : PlanData) (strand : ℕ → List ℕ) (siblings : List Siblings) (classes : List ℕ) → Asks q strand siblings classes gap halves next top sibling
          → (f : ℕ) → 2 * unbegun begun ≤ f → placing at begun ≡ place_strand q strand siblings classes f v (placing at begun)
      go q strand siblings classes k zero l = refl
      go q strand siblings classes k (suc f) l = rw e

  -- ---- siblings
  pub siblings-placed-none : (w most : ℕ) → length next ≤ w → SiblingsPlaced gap halves next top sibling w most (placing at begun) most (placing at begun)
  unfolding place_strand
  siblings-placed-none w most h = record { each = go }
    where
      go : (q : PlanData) (strand : ℕ → List ℕ) (siblings : List Siblings) (classes : List ℕ) → Asks q strand siblings classes gap halves next top sibling
          → (f : ℕ) → 2 * unbegun begun + length (chain next w) ≤ f → ◌≡◌ {A = Asked} (record { most = most; after = placing at begun }) (place_siblings q strand siblings classes f (chain next w) most (placing at begun))
      go q strand siblings classes k zero l = refl
      go q strand siblings classes k (suc f) l = rw (along-end next (length next) w h)

  module _ (w : ℕ) (h : w < length next) where
    pub member-more : chain next w ≡ w ∷ chain next (get_or next w 0)
    member-more = chain-on next 0 p.strung.rising w (omega arith) h

    pub member-long : length (chain next w) ≡ length (chain next (get_or next w 0)) + 1
    member-long = rw member-more (omega arith)

    pub siblings-placed-without : (most r : ℕ) (t : Placing) → length next ≤ get_or sibling w 0
        → SiblingsPlaced gap halves next top sibling (get_or next w 0) most (placing at begun) r t
        → SiblingsPlaced gap halves next top sibling w most (placing at begun) r t
    unfolding place_strand
    siblings-placed-without most r t o g = record { each = go }
      where
        go : (q : PlanData) (strand : ℕ → List ℕ) (siblings : List Siblings) (classes : List ℕ) → Asks q strand siblings classes gap halves next top sibling
            → (f : ℕ) → 2 * unbegun begun + length (chain next w) ≤ f → ◌≡◌ {A = Asked} (record { most = r; after = t }) (place_siblings q strand siblings classes f (chain next w) most (placing at begun))
        go q strand siblings classes k zero l = absurd (omega (arith, member-long))
        go q strand siblings classes k (suc f) l =
            let none_is : asked_by siblings classes w ≡ none = k.asked w h ∙ rw (le-ltb (get_or sibling w 0) (length next) o) refl in
            rw (member-more, none_is) (g.each q strand siblings classes k f (omega (arith, member-long)))

    pub siblings-placed-with : (most r : ℕ) (at₁ : List ℕ) (begun₁ : List Bool) (t : Placing) → get_or sibling w 0 < length next → unbegun begun₁ ≤ unbegun begun
        → StrandPlaced gap halves next top sibling (get_or sibling w 0) (placing at begun) (placing at₁ begun₁)
        → SiblingsPlaced gap halves next top sibling (get_or next w 0) (max most (get_or at₁ (get_or sibling w 0) 0 + distance_by gap halves (get_or sibling w 0) w)) (placing at₁ begun₁) r t
        → SiblingsPlaced gap halves next top sibling w most (placing at begun) r t
    unfolding place_strand
    siblings-placed-with most r at₁ begun₁ t o less s g = record { each = go }
      where
        go : (q : PlanData) (strand : ℕ → List ℕ) (siblings : List Siblings) (classes : List ℕ) → Asks q strand siblings classes gap halves next top sibling
            → (f : ℕ) → 2 * unbegun begun + length (chain next w) ≤ f → ◌≡◌ {A = Asked} (record { most = r; after = t }) (place_siblings q strand siblings classes f (chain next w) most (placing at begun))
        go q strand siblings classes k zero l = absurd (omega (arith, member-long))
        go q strand siblings classes k (suc f) l =
            let some_is : asked_by siblings classes w ≡ some (get_or sibling w 0) = k.asked w h ∙ rw (lt-ltb (get_or sibling w 0) (length next) o) refl in
            let placed : placing at₁ begun₁ ≡ place_strand q strand siblings classes f (get_or sibling w 0) (placing at begun) = s.each q strand siblings classes k f (omega (arith, member-long)) in
            rw (member-more, some_is, ← placed, k.gap_is, k.halves_are) (g.each q strand siblings classes k f (omega (arith, member-long)))

-- ---- all strands
module _ (gap : ℕ) (halves next top sibling : List ℕ) (q : PlanData) (strand : ℕ → List ℕ) (siblings : List Siblings) (classes : List ℕ) (f : ℕ) where
  pub each_on : (order : List ℕ) (i : ℕ) (s : Placing) → i < length order
      → place_each q strand siblings classes f (drop i order) s ≡ place_each q strand siblings classes f (drop (i + 1) order) (place_strand q strand siblings classes f (get_or order i 0) s)
  unfolding place_each
  each_on order i s h = rw (add-one, drop-cons order i 0 h)

  pub each-end : (order : List ℕ) (i : ℕ) (s : Placing) → length order ≤ i → place_each q strand siblings classes f (drop i order) s ≡ s
  unfolding place_each
  each-end order i s h = rw (drop_of_length-le order h)

-- the strands of the vertices from place i of the order on are still to be placed
pub record ToPlace (gap : ℕ) (halves next top sibling order : List ℕ) (i : ℕ) (s t : Placing) : Type 0 where
  pub each : (q : PlanData) (strand : ℕ → List ℕ) (siblings : List Siblings) (classes : List ℕ) → Asks q strand siblings classes gap halves next top sibling
      → (f : ℕ) → 2 * length next ≤ f → place_each q strand siblings classes f (drop i order) t ≡ place_each q strand siblings classes f order s

module _ (gap : ℕ) (halves next top sibling order : List ℕ) (i : ℕ) (s t : Placing) (w : ToPlace gap halves next top sibling order i s t) where
  pub to-place-on : (v : ℕ) (r : Placing) → i < length order → v ≡ get_or order i 0 → length t.begun ≡ length next → StrandPlaced gap halves next top sibling v t r
      → ToPlace gap halves next top sibling order (i + 1) s r
  to-place-on v r h o l g = record {
    each = λ q strand siblings classes k f m.
        let placed = g.each q strand siblings classes k f (omega (arith, unbegun-le t.begun)) in
        ap (place_each q strand siblings classes f (drop (i + 1) order)) (placed ∙ ap (λ (x : ℕ). place_strand q strand siblings classes f x t) o)
        ∙ sym (each_on gap halves next top sibling q strand siblings classes f order i t h) ∙ w.each q strand siblings classes k f m;
  }

  pub to-place-end : length order ≤ i → (q : PlanData) (strand : ℕ → List ℕ) (siblings : List Siblings) (classes : List ℕ) → Asks q strand siblings classes gap halves next top sibling
      → s.at ≡ replicate (length next) 0 → s.begun ≡ replicate (length next) false → t.at ≡ placed_by q strand siblings classes (length next) order
  to-place-end h q strand siblings classes k a b =
      let same : s ≡ placing (replicate (length next) 0) (replicate (length next) false) = ap (λ (x : List ℕ). placing x s.begun) a ∙ ap (placing (replicate (length next) 0)) b in
      ap (λ (x : Placing). x.at)
      (sym (each-end gap halves next top sibling q strand siblings classes (3 * length next) order i t h) ∙ w.each q strand siblings classes k (3 * length next) (omega arith)
      ∙ ap (place_each q strand siblings classes (3 * length next) order) same)

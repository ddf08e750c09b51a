-- Laws of walks over the segments, as a loop over all segments meets them: the first i are behind; and that the segments from the
-- first of a level on, up to the first of the next, are those that leave it. Assumes nothing.
use Prim.Native.Nat.{ℕ, zero, suc, ◌+◌, ◌<◌, ◌≤◌}
use mathlib.Core.Path.{◌≡◌, refl, sym, ◌∙◌, ap}
use mathlib.Core.Bool.{Bool, true, false, ◌&&◌}
use mathlib.Core.List.{List, [], ◌∷◌}
use native.Mathlib.Omega.{arith}
use borrow.Author.Tests.{lt-ltb, le-ltb, eq-eqb, ne_eqb}
use lib.Dec.{eqb, ltb}
use lib.ListN.{length, get_or, take, drop}
use Rattle.std.specs.List.{prefix_len}
use Rattle.ints.specs.Lists.{chosen, sum}
use Rattle.ints.proofs.Laws.{cases}
use Rattle.ints.proofs.Lists.{take_more}
use Rattle.ints.proofs.Tests.{test}
use Rattle.plan.specs.Plan.{PlanData, level_of}
use Rattle.plan.specs.Segments.{Segment, segments_from, segments_of, is_inner, inner_in, inner_segments}
use Rattle.plan.specs.Checks.{check4}
use Rattle.plan.specs.Walk.{inner_below, walk_from, walk}
use Rattle.plan.specs.inner.Graph.{graph_of, Below}
use Rattle.plan.specs.declared.walk.Walk.{Walk}
use Rattle.plan.proofs.All.{All, all_nil, all_cons, all_map}
use Rattle.plan.proofs.LevelLaws.{level-between}
use Rattle.plan.proofs.Levels.{level_in_lem}
use Rattle.plan.proofs.Crossings.{Pairs, pairs-none, pairs-more, Before, sorted}
use Rattle.plan.proofs.Walks.{chosen-empty}
use Rattle.plan_walks.specs.inner.Walks.{after, ahead}
use Rattle.plan_walks.proofs.AfterLaws.{after_one, after-all}

-- ---- segments before an end
module _ (end : ℕ) («as» bs : List ℕ) (i : ℕ) where
  pub ahead-all : length «as» ≤ i → ahead end (after «as» bs i) ≡ []
  unfolding ahead
  ahead-all h = rw (after-all «as» bs i h)

  module _ (e : length «as» ≡ length bs) (h : i < length «as») where
    pub ahead-end : end ≤ get_or «as» i 0 → ahead end (after «as» bs i) ≡ []
    unfolding ahead
    ahead-end k = rw (after_one «as» bs i h e, le-ltb (get_or «as» i 0) end k)

    pub ahead-on : get_or «as» i 0 < end → ahead end (after «as» bs i) ≡ record { upper = get_or «as» i 0; lower = get_or bs i 0 } ∷ ahead end (after «as» bs (i + 1))
    unfolding ahead
    ahead-on k = rw (after_one «as» bs i h e, lt-ltb (get_or «as» i 0) end k)

-- ---- the walk over the inner ones of them: after the first i segments, with so many taken and the last lower end
abbrev pub walk_at : List Bool → List ℕ → List ℕ → ℕ → ℕ → ℕ → ℕ → Walk
walk_at vias «as» bs end i taken last = walk_from taken last (inner_in (graph_of [] vias «as» bs) (ahead end (after «as» bs i)))

module _ (vias : List Bool) («as» bs : List ℕ) (end i : ℕ) (e : length «as» ≡ length bs) (h : i < length «as») (k : get_or «as» i 0 < end) (taken last : ℕ) where
  abbrev inner : Bool
  inner = get_or vias (get_or «as» i 0) false && get_or vias (get_or bs i 0) false

  pub walk-skip : inner ≡ false → walk_at vias «as» bs end i taken last ≡ walk_at vias «as» bs end (i + 1) taken last
  unfolding inner_in
  walk-skip t = rw (ahead-on end «as» bs i e h k, t)

  pub walk-on : inner ≡ true → last ≤ get_or bs i 0 → walk_at vias «as» bs end i taken last ≡ walk_at vias «as» bs end (i + 1) (taken + 1) (get_or bs i 0)
  unfolding inner_in walk_from
  walk-on t m = rw (ahead-on end «as» bs i e h k, t, le-ltb (get_or bs i 0) last m)

  pub walk-stop : inner ≡ true → get_or bs i 0 < last → walk_at vias «as» bs end i taken last ≡ record { crossed = true; taken = taken + 1 }
  unfolding inner_in walk_from
  walk-stop t m = rw (ahead-on end «as» bs i e h k, t, lt-ltb (get_or bs i 0) last m)

-- where no segment is ahead, the walk is at its end
pub walk-out : (vias : List Bool) («as» bs : List ℕ) (end i taken last : ℕ) → ahead end (after «as» bs i) ≡ []
    → walk_at vias «as» bs end i taken last ≡ record { crossed = false; taken = taken }
unfolding inner_in walk_from
walk-out vias «as» bs end i taken last e = rw e

-- ---- the segments of one level
segments-none : («as» : List ℕ) → segments_from «as» [] ≡ []
unfolding segments_from
segments-none [] = refl
segments-none (a ∷ «as») = refl

after-drop : («as» bs : List ℕ) (i : ℕ) → after «as» bs i ≡ drop i (segments_from «as» bs)
unfolding segments_from
after-drop [] bs zero = refl
after-drop [] bs (suc i) = refl
after-drop (a ∷ «as») [] zero = refl
after-drop (a ∷ «as») [] (suc i) = segments-none (drop i «as»)
after-drop (a ∷ «as») (b ∷ bs) zero = refl
after-drop (a ∷ «as») (b ∷ bs) (suc i) = after-drop «as» bs i

-- where every upper end comes before the end, all are ahead
ahead-whole : (n : ℕ) («as» bs : List ℕ) → Below n «as» → ahead n (segments_from «as» bs) ≡ segments_from «as» bs
unfolding ahead segments_from
ahead-whole n [] bs h = refl
ahead-whole n (a ∷ «as») [] h = refl
ahead-whole n (a ∷ «as») (b ∷ bs) h = rw (lt-ltb a n (h 0 (omega arith)), ahead-whole n «as» bs (λ i k. h (suc i) (omega arith)))

-- how many are ahead, by the upper ends alone
pub ahead-long : (end : ℕ) («as» bs : List ℕ) → length «as» ≡ length bs → prefix_len (λ a. ltb a end) «as» ≡ length (ahead end (segments_from «as» bs))
unfolding ahead segments_from
ahead-long end [] bs e = refl
ahead-long end (a ∷ «as») [] e = absurd (omega (arith, e))
ahead-long end (a ∷ «as») (b ∷ bs) e = test (ltb a end) (λ t. rw (t, ahead-long end «as» bs (omega (arith, e))) (omega arith)) (λ t. rw t refl)

module _ (t : Segment → Bool) (a b : ℕ) (low : (s : Segment) → s.upper < a → t s ≡ false) (high : (s : Segment) → b ≤ s.upper → t s ≡ false)
    (between : (s : Segment) → a ≤ s.upper → s.upper < b → t s ≡ true) where
  chosen-front : (ss : List Segment) → Pairs Before ss → All (λ s. a ≤ s.upper) ss → chosen t ss ≡ ahead b ss
  unfolding chosen ahead
  chosen-front [] pairs-none all_nil = refl
  chosen-front (s ∷ ss) (pairs-more r rs) (all_cons k ks) = cases b s.upper
      (λ h. rw (high s h, le-ltb s.upper b h) (chosen-empty t (all_map (λ u w. high u (omega (arith, w.le))) r)))
      (λ h. rw (between s k h, lt-ltb s.upper b h, chosen-front ss rs ks))

  chosen-stretch : a ≤ b → (ss : List Segment) → Pairs Before ss → chosen t ss ≡ ahead b (drop (length (ahead a ss)) ss)
  unfolding chosen ahead
  chosen-stretch h [] pairs-none = refl
  chosen-stretch h (s ∷ ss) (pairs-more r rs) = cases a s.upper
      (λ k. rw (le-ltb s.upper a k) (chosen-front (s ∷ ss) (pairs-more r rs) (all_cons k (all_map (λ u w. omega (arith, w.le)) r))))
      (λ k. rw (low s k, lt-ltb s.upper a k) (chosen-stretch h ss rs))

inner-after : (p : PlanData) (t : Segment → Bool) (ss : List Segment) → chosen t (inner_in p ss) ≡ inner_in p (chosen t ss)
unfolding inner_in chosen
inner-after p t [] = refl
inner-after p t (s ∷ ss) = let more = inner-after p t ss in test (is_inner p s)
    (λ e. test (t s) (λ f. rw (e, f, e, more)) (λ f. rw (e, f, more)))
    (λ e. test (t s) (λ f. rw (e, f, e, more)) (λ f. rw (e, f, more)))

module _ (sizes : List ℕ) (vias : List Bool) («as» bs : List ℕ) where
  inner-same : (ss : List Segment) → inner_in (graph_of sizes vias «as» bs) ss ≡ inner_in (graph_of [] vias «as» bs) ss
  unfolding inner_in
  inner-same [] = refl
  inner-same (s ∷ ss) = rw (inner-same ss)

  abbrev pub graph : PlanData
  graph = graph_of sizes vias «as» bs

  -- how many segments leave the first k levels
  abbrev pub leaving : ℕ → ℕ
  leaving k = length (ahead (sum (take k sizes)) (after «as» bs 0))

  module _ (k : ℕ) (h : k < length sizes) where
    abbrev here : Segment → Bool
    here s = eqb (level_of graph s.upper) (suc k)

    on-level : (s : Segment) → level_of graph s.upper ≡ suc k → (sum (take k sizes) ≤ s.upper) × (s.upper < sum (take (suc k) sizes))
    unfolding level_of
    on-level s e = let b = level-between sizes k s.upper h e in (b.0, omega (arith, b.1, take_more sizes k))

    on-stretch : (s : Segment) → sum (take k sizes) ≤ s.upper → s.upper < sum (take (suc k) sizes) → here s ≡ true
    unfolding level_of
    on-stretch s a b = eq-eqb (level_of graph s.upper) (suc k) (level_in_lem sizes k s.upper a (omega (arith, take_more sizes k)))

    stays : (s : Segment) → (level_of graph s.upper ≡ suc k → ⊥) → here s ≡ false
    stays s other = ne_eqb (level_of graph s.upper) (suc k) other

    -- the walk over the segments that leave a level, by their places
    pub walk-level : check4 graph ≡ true → walk_at vias «as» bs (sum (take (suc k) sizes)) (leaving k) 0 0 ≡ walk graph (suc k)
    unfolding check4 walk inner_below inner_segments segments_of
    walk-level c4 =
        let a = sum (take k sizes) in
        let b = sum (take (suc k) sizes) in
        let ss = segments_from «as» bs in
        let whole = chosen-stretch here a b (λ s m. stays s (λ e. omega (arith, (on-level s e).0))) (λ s m. stays s (λ e. omega (arith, (on-level s e).1))) on-stretch
        (omega (arith, take_more sizes k)) ss (sorted ss c4) in
        ap (walk_from 0 0) (ap (inner_in (graph_of [] vias «as» bs)) (ap (ahead b) (after-drop «as» bs (leaving k)) ∙ sym whole) ∙ sym (inner-same (chosen here ss)) ∙ sym (inner-after graph here ss))

  -- the walk over all segments
  pub walk-whole : (end : ℕ) → Below end «as» → walk_at vias «as» bs end 0 0 0 ≡ walk_from 0 0 (inner_segments graph)
  unfolding inner_segments segments_of
  walk-whole end h =
      ap (walk_from 0 0) (ap (inner_in (graph_of [] vias «as» bs)) (ap (ahead end) (after-drop «as» bs 0) ∙ ahead-whole end «as» bs h)
      ∙ sym (inner-same (segments_from «as» bs)))

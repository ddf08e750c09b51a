-- What E3's walk answers. Check 6 fails exactly if the walk of some level comes to a descent; a walk that comes to none took all inner
-- segments; of one that comes to a descent the last segment taken descends and none before it does. Assumes nothing.
use Prim.Native.Nat.{ℕ, zero, suc, ◌+◌, ◌-◌, ◌<◌, ◌≤◌}
use mathlib.Core.Path.{◌≡◌, refl, sym, ◌∙◌, ap}
use mathlib.Core.Bool.{Bool, true, false, not}
use mathlib.Core.List.{List, [], ◌∷◌, map}
use native.Mathlib.Nat.{zero-add}
use native.Mathlib.Omega.{arith}
use native.Mathlib.Numerals.{add-one}
use borrow.Author.Tests.{lt-ltb, le-ltb, eqb-true}
use lib.Dec.{eqb}
use lib.ListN.{length, get_or, length-map}
use Rattle.ints.specs.Lists.{chosen}
use Rattle.ints.proofs.Laws.{cases}
use Rattle.ints.proofs.Tests.{test}
use Rattle.plan.specs.Plan.{PlanData, vertex_count, numbers, level_of}
use Rattle.plan.specs.Segments.{Segment, inner_segments}
use Rattle.plan.specs.Checks.{any, check3, check4, check6}
use Rattle.plan.specs.Acceptable.{limits_hold}
use Rattle.plan.specs.Walk.{inner_below, walk_from, walk}
use Rattle.plan.proofs.All.{All, all_nil, all_cons, all_map, no_true}
use Rattle.plan.proofs.LevelLaws.{level-low, level-high}
use Rattle.plan.proofs.Levels.{all-numbers}
use Rattle.plan.proofs.LimitLaws.{Limits, limits}
use Rattle.plan.proofs.Sound.{some-none, mem-numbers}
use Rattle.plan.proofs.Crossings.{none-some, inner_down, walks-clear, clear-passes}

-- ---- levels that no inner segment leaves
pub chosen-empty : {A : Type 0} (t : A → Bool) {xs : List A} → All (λ x. t x ≡ false) xs → chosen t xs ≡ []
unfolding chosen
chosen-empty t all_nil = refl
chosen-empty t (all_cons h k) = rw (h, chosen-empty t k)

module _ (p : PlanData) where
  -- the upper end of a segment stands on level 1 or below, and there is a level below it
  pub record UpperWithin (most : ℕ) (s : Segment) : Type 0 where
    pub one : 1 ≤ level_of p s.upper
    pub many : level_of p s.upper + 1 ≤ most

  uppers-within : (most : ℕ) → ((s : Segment) → s.lower < vertex_count p → level_of p s.lower ≤ most) → check3 p ≡ true → All (UpperWithin most) (inner_segments p)
  unfolding level_of
  uppers-within most h c3 = all_map
      (λ s d. record { one = level-low p.sizes s.upper; many = omega (arith, d.one_down, h s d.lower_in) })
      (inner_down p c3)

  none-leaves : (most l : ℕ) → All (UpperWithin most) (inner_segments p) → (1 ≤ l → most ≤ l) → inner_below p l ≡ []
  unfolding inner_below
  none-leaves most l h out = chosen-empty (λ s. eqb (level_of p s.upper) l) (all_map (λ s w. test (eqb (level_of p s.upper) l)
      (λ e. let same = eqb-true (level_of p s.upper) l e in absurd (omega (arith, w.one, w.many, out (omega (arith, w.one)))))
      (λ e. e)) h)

  none-crossed : (l : ℕ) → inner_below p l ≡ [] → (walk p l).crossed ≡ false
  unfolding walk walk_from
  none-crossed l e = rw e

  -- ---- check 6
  last-clear : Limits p → check3 p ≡ true → (l : ℕ) → (1 ≤ l → p.levels ≤ l) → (walk p l).crossed ≡ false
  unfolding level_of
  last-clear w c3 l h =
      none-crossed l (none-leaves p.levels l (uppers-within p.levels (λ s k. omega (arith, level-high p.sizes s.lower (omega (arith, w.sizes_sum)), w.sizes_long)) c3) h)

  -- "Which plans are refused with 6 must come out as before": it fails exactly if the walk of some two neighbouring levels comes to a descent
  pub check6-walks : limits_hold p ≡ true → check3 p ≡ true → check4 p ≡ true → check6 p ≡ not (any (λ l. (walk p l).crossed) (numbers 1 (p.levels - 1)))
  check6-walks ok c3 c4 =
      let w = limits p ok in
      let crossed : ℕ → Bool = λ l. (walk p l).crossed in
      let n = p.levels - 1 in
      test (check6 p)
      (λ six. six ∙ sym (ap not (none-some crossed (all-numbers 1 n (λ l h k. walks-clear p c4 six l)))))
      (λ fails. test (any crossed (numbers 1 n))
      (λ some. fails ∙ sym (ap not some))
      (λ none. no_true (sym fails ∙ clear-passes p c4 (λ l.
      cases p.levels l
      (λ h. last-clear w c3 l (λ k. h))
      (λ h. cases 1 l (λ k. some-none crossed (numbers 1 n) l none (mem-numbers 1 n l k (omega arith))) (λ k. last-clear w c3 l (λ one. absurd (omega arith))))))))

-- ---- how many are taken
took : (n last : ℕ) (ss : List Segment) → (walk_from n last ss).crossed ≡ false → (walk_from n last ss).taken ≡ n + length ss
unfolding walk_from
took n last [] e = omega arith
took n last (s ∷ ss) e = cases last s.lower
    (λ h. rw (le-ltb s.lower last h) (took (n + 1) s.lower ss (rw (le-ltb s.lower last h) at e) ∙ omega arith))
    (λ h. no_true (sym (rw (lt-ltb s.lower last h) at e)))

-- Of a list of numbers, the first that is less than the one before it stands after k others.
record FallsAt (ns : List ℕ) (k : ℕ) : Type 0 where
  within : suc k < length ns
  falls : get_or ns (suc k) 0 < get_or ns k 0
  before : (i : ℕ) → i < k → get_or ns i 0 ≤ get_or ns (suc i) 0

falls-later : (a b : ℕ) (bs : List ℕ) (k : ℕ) → a ≤ b → FallsAt (b ∷ bs) k → FallsAt (a ∷ b ∷ bs) (suc k)
falls-later a b bs k h f = record { within = omega (arith, f.within); falls = f.falls; before = from }
  where
    from : (i : ℕ) → i < suc k → get_or (a ∷ b ∷ bs) i 0 ≤ get_or (a ∷ b ∷ bs) (suc i) 0
    from zero j = h
    from (suc i) j = f.before i (omega arith)

lowers : List Segment → List ℕ
lowers = map (λ s. s.lower)

-- it took the k segments before the fall, and the one that falls
falls-after : (n last : ℕ) (ss : List Segment) → (walk_from n last ss).crossed ≡ true
    → (k : ℕ) × ((walk_from n last ss).taken ≡ n + suc k) × FallsAt (last ∷ lowers ss) k
unfolding walk_from lowers
falls-after n last [] e = no_true e
falls-after n last (s ∷ ss) e = cases last s.lower
    (λ h.
    let more = falls-after (n + 1) s.lower ss (rw (le-ltb s.lower last h) at e) in
    rw (le-ltb s.lower last h) (suc more.0, more.1 ∙ omega arith, falls-later last s.lower (lowers ss) more.0 h more.2))
    (λ h. rw (lt-ltb s.lower last h) (0, omega arith, record { within = omega arith; falls = h; before = λ i k. absurd (omega arith) }))

-- The lower end of the i-th segment.
abbrev pub lower_at : List Segment → ℕ → ℕ
lower_at ss i = get_or (map (λ s. s.lower) ss) i 0

-- Of the first n segments the last descends, and none before it does.
pub record Descent (ss : List Segment) (n : ℕ) : Type 0 where
  pub two : 2 ≤ n
  pub some : n ≤ length ss
  pub falls : lower_at ss (n - 1) < lower_at ss (n - 2)
  pub before : (i : ℕ) → i + 2 < n → lower_at ss i ≤ lower_at ss (i + 1)

descent : (ss : List Segment) (k n : ℕ) → n ≡ suc k → FallsAt (0 ∷ map (λ s. s.lower) ss) k → Descent ss n
descent ss zero n e f = absurd (omega (arith, f.falls))
descent ss (suc j) n e f =
    let last : n - 1 ≡ suc j = omega arith in
    let earlier : n - 2 ≡ j = omega arith in
    let many : length (map (λ (s : Segment). s.lower) ss) ≡ length ss = length-map ss (λ (s : Segment). s.lower) in
    record {
      two = omega arith;
      some = omega (arith, f.within);
      falls = rw (last, earlier) f.falls;
      before = λ i h. rw add-one (f.before (suc i) (omega arith));
    }

module _ (p : PlanData) (l : ℕ) where
  pub took-all : (walk p l).crossed ≡ false → (walk p l).taken ≡ length (inner_below p l)
  unfolding walk
  took-all e = took 0 0 (inner_below p l) e ∙ zero-add (length (inner_below p l))

  pub descends : (walk p l).crossed ≡ true → Descent (inner_below p l) (walk p l).taken
  unfolding walk lowers
  descends e =
      let found = falls-after 0 0 (inner_below p l) e in
      descent (inner_below p l) found.0 (walk_from 0 0 (inner_below p l)).taken (found.1 ∙ zero-add (suc found.0)) found.2

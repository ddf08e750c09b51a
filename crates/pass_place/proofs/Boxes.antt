-- The boxes that "Placing one run" takes from what the passes hold are those of the definition. Assumes nothing.
use mathlib.Core.Path.{◌≡◌, refl, sym, ◌∙◌, ap}
use mathlib.Core.List.{List, ◌∷◌, map}
use Prim.Native.Nat.{ℕ, zero, suc, ◌+◌, ◌-◌, ◌≤◌, ◌<◌}
use native.Mathlib.Omega.{arith}
use lib.ListN.{length, get_or, take, drop}
use lib.Seq.{drop-cons, drop-drop, take-take, get_or-drop}
use lib.IntN.{ℤ, pos}
use Rattle.ints.specs.Lists.{sum, count_of}
use Rattle.ints.proofs.Lists.{drop-take, map-take, map-drop}
use Rattle.run.specs.Run.{leads_of, Box}
use Rattle.run_columns.specs.inner.Sums.{ratings_between}
use Rattle.run_columns.proofs.SumLaws.{between-take, between-drop}
use Rattle.plan.specs.Plan.{PlanData, numbers}
use Rattle.passes.specs.State.{State, position_of}
use Rattle.passes.specs.Ready.{preceding, preceding_ratings}
use Rattle.passes.specs.Passes.{boxes_at}
use Rattle.pass_tables.specs.inner.Tables.{along}
use Rattle.pass_tables.proofs.RowLaws.{total-more, total-rises, total-keys}
use Rattle.run.specs.Call.{boxes_from}
use Rattle.pass_tables.specs.inner.Moments.{Neighbouring}
use Rattle.pass_place.specs.inner.Asked.{counts_of, near_of, rates_of}

-- ---- lists
module _ {A : Type 0} where
  part-cons : (v n : ℕ) (l : List A) (d : A) → v < length l → take (suc n) (drop v l) ≡ get_or l v d ∷ take n (drop (v + 1) l)
  part-cons v n l d h = let e : suc v ≡ v + 1 = omega arith in ap (take (suc n)) (drop-cons l v d h) ∙ ap (λ (u : ℕ). get_or l v d ∷ take n (drop u l)) e

module _ {A : Type 0} where
  along-shift : (f : ℕ → A) (a k n : ℕ) → along (λ (i : ℕ). f (a + i)) k n ≡ along f (a + k) n
  unfolding along
  along-shift f a k zero = refl
  along-shift f a k (suc n) = let e : a + (k + 1) ≡ a + k + 1 = omega arith in ap (λ (l : List A). f (a + k) ∷ l) (along-shift f a (k + 1) n ∙ ap (λ (u : ℕ). along f u n) e)

  along-from : (f : ℕ → A) (a n : ℕ) → along (λ (i : ℕ). f (a + i)) 0 n ≡ along f a n
  along-from f a n = let e : a + 0 ≡ a = omega arith in along-shift f a 0 n ∙ ap (λ (u : ℕ). along f u n) e

  along-part : (g : ℕ → A) (xs : List ℕ) (k n : ℕ) → k + n ≤ length xs → along (λ (u : ℕ). g (get_or xs u 0)) k n ≡ map g (take n (drop k xs))
  unfolding along
  along-part g xs k zero h = refl
  along-part g xs k (suc n) h = rw (part-cons k n xs 0 (omega arith)) (ap (λ (l : List A). g (get_or xs k 0) ∷ l) (along-part g xs (k + 1) n (omega arith)))

pub near-is : (ends : List ℕ) (xs : List ℤ) (k n : ℕ) → k + n ≤ length ends → near_of ends xs k n ≡ map (position_of xs) (take n (drop k ends))
near-is ends xs k n h = along-from (λ (u : ℕ). position_of xs (get_or ends u 0)) k n ∙ along-part (position_of xs) ends k n h

pub rates-are : (sums : List ℕ) (k n : ℕ) → rates_of sums k n ≡ take n (drop k (ratings_between sums))
rates-are sums k n = between-take n (drop k sums) ∙ ap (take n) (between-drop k sums)

box-cons : (o : ℤ) (os : List ℤ) (ds : List ℕ) (c : ℕ) (cs : List ℕ) (ns near rest : List ℤ) (ws rates more : List ℕ) (d : ℕ)
    → take c ns ≡ near → drop c ns ≡ rest → take c ws ≡ rates → drop c ws ≡ more → get_or ds 0 0 ≡ d
    → boxes_from (o ∷ os) ds (c ∷ cs) ns ws ≡ record { old = o; near = leads_of near rates; dist = d } ∷ boxes_from os (drop 1 ds) cs rest more
unfolding boxes_from
box-cons o os ds c cs ns near rest ws rates more d e f g h i = rw (e, f, g, h, i)

-- ---- rows
abbrev row_of : List ℕ → ℕ → ℕ
row_of first v = get_or first (v + 1) 0 - get_or first v 0

pub counts-are : (first : List ℕ) (v n : ℕ) → counts_of first v n ≡ along (row_of first) v n
counts-are first v n = along-from (row_of first) v n

module _ {p : PlanData} {q : ℕ} {first ends sums : List ℕ} (m : Neighbouring p q first ends sums) where
  next_row : (v : ℕ) → v + 1 < length first → get_or first (v + 1) 0 ≡ get_or first v 0 + count_of v m.keys
  next_row v h = omega (arith, m.rows.starts (v + 1) h, m.rows.starts v (omega arith), total-more (λ (u : ℕ). count_of u m.keys) v)

  pub rows-rise : (v w : ℕ) → v ≤ w → w < length first → get_or first v 0 ≤ get_or first w 0
  rows-rise v w h k = omega (arith, m.rows.starts v (omega arith), m.rows.starts w k, total-rises (λ (u : ℕ). count_of u m.keys) v w h)

  pub rows_inside : (v : ℕ) → v < length first → get_or first v 0 ≤ length ends
  rows_inside v h = omega (arith, m.rows.starts v h, total-keys m.keys v, m.all)

  row-long : (v : ℕ) → v + 1 < length first → row_of first v ≡ count_of v m.keys
  row-long v h = omega (arith, next_row v h)

  row_is : (v : ℕ) → v + 1 < length first → take (row_of first v) (drop (get_or first v 0) ends) ≡ preceding p q v
  row_is v h = ap (λ (n : ℕ). take n (drop (get_or first v 0) ends)) (row-long v h) ∙ m.rows.row v (omega arith) ∙ sym (m.preceding.near v)

  rated-is : (v : ℕ) → v + 1 < length first → take (row_of first v) (drop (get_or first v 0) (ratings_between sums)) ≡ preceding_ratings p q v
  rated-is v h = ap (λ (n : ℕ). take n (drop (get_or first v 0) (ratings_between sums))) (row-long v h) ∙ m.rated.row v (omega arith) ∙ sym (m.preceding.ratings_near v)

  pub sum_rows : (v n : ℕ) → v + n < length first → sum (along (row_of first) v n) ≡ get_or first (v + n) 0 - get_or first v 0
  unfolding along sum
  sum_rows v zero h = let e : v + 0 ≡ v = omega arith in let f : get_or first (v + 0) 0 ≡ get_or first v 0 = ap (λ (u : ℕ). get_or first u 0) e in omega arith
  sum_rows v (suc n) h = let e : v + 1 + n ≡ v + suc n = omega arith in let f : get_or first (v + 1 + n) 0 ≡ get_or first (v + suc n) 0 = ap (λ (u : ℕ). get_or first u 0) e in
      omega (arith, sum_rows (v + 1) n (omega arith), rows-rise v (v + 1) (omega arith) (omega arith), rows-rise (v + 1) (v + suc n) (omega arith) (omega arith))

  -- of all rows those of n boxes from v on: first its own, then the rest
  box_rows : List ℕ → ℕ → ℕ → List ℕ
  box_rows l v n = take (get_or first (v + n) 0 - get_or first v 0) (drop (get_or first v 0) l)

  rows-first : (l : List ℕ) (v n : ℕ) → v + suc n < length first → take (row_of first v) (box_rows l v (suc n)) ≡ take (row_of first v) (drop (get_or first v 0) l)
  unfolding box_rows
  rows-first l v n h = take-take (row_of first v) (get_or first (v + suc n) 0 - get_or first v 0) (drop (get_or first v 0) l) (omega (arith, rows-rise (v + 1) (v + suc n) (omega arith) h))

  rows-rest : (l : List ℕ) (v n : ℕ) → v + suc n < length first → drop (row_of first v) (box_rows l v (suc n)) ≡ box_rows l (v + 1) n
  unfolding box_rows
  rows-rest l v n h = let k = get_or first (v + suc n) 0 - get_or first v 0 in let c = row_of first v in
      let r = rows-rise v (v + 1) (omega arith) (omega arith) in
      let e : get_or first v 0 + c ≡ get_or first (v + 1) 0 = omega arith in
      let z : v + suc n ≡ v + 1 + n = omega arith in
      let y : get_or first (v + suc n) 0 ≡ get_or first (v + 1 + n) 0 = ap (λ (u : ℕ). get_or first u 0) z in
      let f : k - c ≡ get_or first (v + 1 + n) 0 - get_or first (v + 1) 0 = omega arith in
      drop-take c k (drop (get_or first v 0) l) ∙ ap (take (k - c)) (drop-drop c (get_or first v 0) l) ∙ ap (λ (u : ℕ). take (k - c) (drop u l)) e ∙ ap (λ (u : ℕ). take u (drop (get_or first (v + 1) 0) l)) f

  -- the boxes from v on
  module _ (s : State) where
    near : ℕ → ℕ → List ℤ
    near v n = map (position_of s.at) (box_rows ends v n)

    near_first : (v n : ℕ) → v + suc n < length first → take (row_of first v) (near v (suc n)) ≡ map (position_of s.at) (preceding p q v)
    unfolding near
    near_first v n h = sym (map-take (position_of s.at) (row_of first v) (box_rows ends v (suc n))) ∙ ap (map (position_of s.at)) (rows-first ends v n h ∙ row_is v (omega arith))

    near-rest : (v n : ℕ) → v + suc n < length first → drop (row_of first v) (near v (suc n)) ≡ near (v + 1) n
    unfolding near
    near-rest v n h = sym (map-drop (position_of s.at) (row_of first v) (box_rows ends v (suc n))) ∙ ap (map (position_of s.at)) (rows-rest ends v n h)

    abbrev rates : ℕ → ℕ → List ℕ
    rates v n = box_rows (ratings_between sums) v n

    boxes-near : (v n : ℕ) → v + n < length first → v + n ≤ length s.at → (ds : List ℕ) → ((i : ℕ) → i < n → get_or ds i 0 ≡ get_or s.apart (v + i) 0)
        → boxes_from (take n (drop v s.at)) ds (along (row_of first) v n) (near v n) (rates v n) ≡ boxes_at p q s (numbers v n)
    unfolding along boxes_at numbers boxes_from
    boxes-near v zero h k ds f = refl
    boxes-near v (suc n) h k ds f = let o = position_of s.at v in let e : v + 0 ≡ v = omega arith in
        rw (part-cons v n s.at (pos 0) (omega arith))
        (box-cons o (take n (drop (v + 1) s.at)) ds (row_of first v) (along (row_of first) (v + 1) n) (near v (suc n)) (map (position_of s.at) (preceding p q v)) (near (v + 1) n)
        (rates v (suc n)) (preceding_ratings p q v) (rates (v + 1) n) (get_or s.apart v 0)
        (near_first v n h) (near-rest v n h) (rows-first (ratings_between sums) v n h ∙ rated-is v (omega arith)) (rows-rest (ratings_between sums) v n h) (f 0 (omega arith) ∙ ap (λ (u : ℕ). get_or s.apart u 0) e)
        ∙ ap (λ (l : List Box). record { old = o; near = leads_of (map (position_of s.at) (preceding p q v)) (preceding_ratings p q v); dist = get_or s.apart v 0 } ∷ l)
        (boxes-near (v + 1) n (omega arith) (omega arith) (drop 1 ds) (λ i j. let z : v + suc i ≡ v + 1 + i = omega arith in let y : 1 + i ≡ suc i = omega arith in
        get_or-drop 1 ds i 0 ∙ ap (λ (u : ℕ). get_or ds u 0) y ∙ f (suc i) (omega arith) ∙ ap (λ (u : ℕ). get_or s.apart u 0) z)))

    pub boxes-are : (v n w : ℕ) → v + n ≡ w → w < length first → w ≤ length s.at → (ds : List ℕ) → ((i : ℕ) → i < n → get_or ds i 0 ≡ get_or s.apart (v + i) 0)
        → boxes_from (take n (drop v s.at)) ds (counts_of first v n) (near_of ends s.at (get_or first v 0) (get_or first w 0 - get_or first v 0)) (rates_of sums (get_or first v 0) (get_or first w 0 - get_or first v 0))
        ≡ boxes_at p q s (numbers v n)
    unfolding near box_rows
    boxes-are v n w e h k ds f =
        rw (
          counts-are first v n,
          near-is ends s.at (get_or first v 0) (get_or first w 0 - get_or first v 0) (omega (arith, rows-rise v w (omega arith) h, rows_inside w h)),
          rates-are sums (get_or first v 0) (get_or first w 0 - get_or first v 0),
          ← e,
        )
        (boxes-near v n (omega arith) (omega arith) ds f)

-- Laws of the next via and of slack, as walks along a level meet them. Assumes nothing.
use Prim.Native.Nat.{ℕ, zero, suc, ◌+◌, ◌<◌, ◌≤◌}
use mathlib.Core.Path.{◌≡◌, ap}
use mathlib.Core.Bool.{Bool, true, false, cond}
use mathlib.Core.List.{List}
use native.Mathlib.Omega.{arith}
use borrow.Author.Tests.{le-ltb}
use lib.ListN.{get_or}
use lib.IntN.{ℤ}
use Rattle.ints.proofs.Laws.{if-ind, cases}
use Rattle.pass_tables.specs.inner.Tables.{next_via, is_loose, loose_from}

module _ (vias : List Bool) where
  pub next_here : (v n : ℕ) → 0 < n → get_or vias v false ≡ true → next_via vias v n ≡ v
  unfolding next_via
  next_here v zero h t = absurd (omega arith)
  next_here v (suc n) h t = rw t

  -- the vertices before it are boxes; it is a via, unless it is the end
  pub record Next (v n w : ℕ) : Type 0 where
    pub low : v ≤ w
    pub high : w ≤ v + n
    pub boxes : (u : ℕ) → v ≤ u → u < w → get_or vias u false ≡ false
    pub via : w < v + n → get_or vias w false ≡ true

  pub next : (v n : ℕ) → Next v n (next_via vias v n)
  unfolding next_via
  next v zero = record { low = omega arith; high = omega arith; boxes = λ u h k. absurd (omega arith); via = λ h. absurd (omega arith) }
  next v (suc n) = if-ind (get_or vias v false) v (next_via vias (v + 1) n) (λ w. Next v (suc n) w)
      (λ t. record { low = omega arith; high = omega arith; boxes = λ u h k. absurd (omega arith); via = λ h. t })
      (λ t. let m = next (v + 1) n in record {
        low = omega (arith, m.low);
        high = omega (arith, m.high);
        boxes = λ u h k. cases (v + 1) u (λ j. m.boxes u j k) (λ j. let e : u ≡ v = omega arith in rw e t);
        via = λ h. m.via (omega arith);
      })

  -- the first via after boxes, or the end
  pub next-is : (v n w : ℕ) → v ≤ w → w ≤ v + n → ((u : ℕ) → v ≤ u → u < w → get_or vias u false ≡ false) → (w < v + n → get_or vias w false ≡ true) → next_via vias v n ≡ w
  next-is v n w h k f t = let m = next v n in let u = next_via vias v n in
      cases u w
      (λ i. cases w u (λ j. omega arith) (λ j. let here : get_or vias u false ≡ true = m.via (omega arith) in let box : get_or vias u false ≡ false = f u m.low j in absurd (cc)))
      (λ i. let here : get_or vias w false ≡ true = t (omega (arith, m.high)) in let box : get_or vias w false ≡ false = m.boxes w h i in absurd (cc))

-- ---- slack
module _ (doubled : List ℕ) (at : List ℤ) (v w to : ℕ) where
  pub loose_none : to ≤ w → loose_from doubled at v w to ≡ false
  loose_none h = ap (λ (t : Bool). cond t (is_loose doubled at v w) false) (le-ltb w to h)

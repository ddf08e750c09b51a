-- Rows that start in order: those of a stretch of boxes lie between the first's start and the last's end. Assumes nothing.
use mathlib.Core.Path.{◌≡◌, ap}
use mathlib.Core.List.{List}
use Prim.Native.Nat.{ℕ, zero, suc, ◌+◌, ◌-◌, ◌≤◌, ◌<◌}
use native.Mathlib.Omega.{arith}
use lib.ListN.{length, get_or}
use lib.IntN.{ℤ}
use Rattle.pass_place.specs.inner.Asked.{Rowed}

rises : (first : List ℕ) → ((v : ℕ) → v + 1 < length first → get_or first v 0 ≤ get_or first (v + 1) 0) → (v n : ℕ) → v + n < length first → get_or first v 0 ≤ get_or first (v + n) 0
rises first f v zero h = let e : v + 0 ≡ v = omega arith in omega (arith, ap (λ (u : ℕ). get_or first u 0) e)
rises first f v (suc n) h = let e : v + n + 1 ≡ v + suc n = omega arith in
    omega (arith, rises first f v n (omega arith), f (v + n) (omega arith), ap (λ (u : ℕ). get_or first u 0) e)

pub row-order : {from end : ℕ} {first ends sums : List ℕ} {xs : List ℤ} → Rowed from end first ends sums xs → get_or first from 0 ≤ get_or first end 0
row-order {from} {end} {first} r = let e : from + (end - from) ≡ end = omega (arith, r.order) in
    omega (arith, rises first r.rising from (end - from) (omega (arith, r.rows)), ap (λ (u : ℕ). get_or first u 0) e)

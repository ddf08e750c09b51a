-- What the loop keeps: the positions of the first v vertices stand at their numbers. Assumes nothing.
use mathlib.Core.Path.{◌≡◌, sym, ◌∙◌, ap}
use mathlib.Core.List.{List}
use Prim.Native.Nat.{ℕ, ◌+◌, ◌<◌, ◌≤◌}
use native.Mathlib.Omega.{arith}
use lib.ListN.{length, get_or, set}
use lib.Seq.{ext_get_or, get_or-set_same, get_or-set_other}
use lib.IntN.{ℤ, pos}
use Rattle.ints.proofs.Laws.{cases}
use Rattle.ints.proofs.Lists.{map-get_or}
use Rattle.plan_renumber.specs.Renumber.{place_in, inverse}
use Rattle.plan_renumber.specs.inner.Words.{Once}
use Rattle.plan_renumber.proofs.Places.{inverse-long, inverse-at, new-below, old-new, new-old}
use Rattle.passes.specs.State.{position_of}
use Rattle.report.specs.Numbers.{positions_by}
use Rattle.report.proofs.Numbers.{positions-long}

pub record Taken (m : List ℕ) (xs out : List ℤ) (v : ℕ) : Type 0 where
  pub each : (j : ℕ) → j < v → position_of out (get_or m j 0) ≡ position_of xs j

module _ {m : List ℕ} {xs out : List ℤ} {v : ℕ} (o : Once (length m) m) (long : length out ≡ length m) (w : Taken m xs out v) where
  pub number_in : v < length m → get_or m v 0 < length out
  number_in h = omega (arith, o.below v h, long)

  on : v < length m → Taken m xs (set out (get_or m v 0) (position_of xs v)) (v + 1)
  on h = record {
    each = λ j k. cases v j
        (λ a. let e : j ≡ v = omega arith in rw e (get_or-set_same out (get_or m v 0) (position_of xs v) (pos 0) (number_in h)))
        (λ a. get_or-set_other out (get_or m v 0) (get_or m j 0) (position_of xs v) (pos 0)
        (λ e. omega (arith, sym (new-old (length m) m o j (omega arith)) ∙ ap (place_in m) e ∙ new-old (length m) m o v h)) ∙ w.each j a);
  }

  pub take_on : {n : ℕ} {x : ℤ} → v < length m → n ≡ get_or m v 0 → x ≡ position_of xs v → Taken m xs (set out n x) (v + 1)
  take_on h e f = rw (e, f) (on h)

  pub take-end : length m ≤ v → out ≡ positions_by m xs
  take-end h =
      ext_get_or (pos 0) out (positions_by m xs) (long ∙ sym (positions-long m xs))
      (λ n k. let j : n < length m = omega (arith, long) in
      ap (position_of out) (sym (old-new (length m) m o n j)) ∙ w.each (place_in m n) (omega (arith, new-below (length m) m o n j))
      ∙ sym (map-get_or (position_of xs) (inverse m) n 0 (pos 0) (omega (arith, inverse-long (length m) m o)) ∙ ap (position_of xs) (inverse-at (length m) m o n j)))

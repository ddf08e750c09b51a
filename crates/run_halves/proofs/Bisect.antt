-- The search for the meeting place of two halves, as a loop makes it: what is left is w wide, from lo right of the first
-- position of the right half on. Assumes nothing.
use mathlib.Core.Path.{◌≡◌, sym, ◌∙◌, ap}
use mathlib.Core.Bool.{true, false}
use mathlib.Core.List.{List}
use Prim.Native.Nat.{ℕ, ◌+◌, ◌-◌, ◌≤◌, ◌<◌}
use native.Mathlib.Omega.{arith}
use lib.IntN.{ℤ, pos, ◌+ℤ◌, ◌-ℤ◌}
use Rattle.ints.proofs.Laws.{sum, dif, eq-make}
use Rattle.run_halves.specs.inner.Meet.{first_after, overlap, more, Tests, MeetAt}
use Rattle.run_columns.specs.inner.Counts.{Beside}

module _ (k n : ℕ) (zs : List ℤ) (cs : List ℕ) (ns : List ℤ) (ws : List ℕ) where
  -- the place d right of where the search began
  abbrev at : ℕ → ℤ
  at d = first_after k zs +ℤ pos d

  pub record Searching (lo w : ℕ) : Type 0 where
    pub within : lo + w ≤ overlap k zs
    pub fails : 0 < lo → more k n zs cs ns ws (first_after k zs +ℤ pos (lo - 1)) ≡ false
    pub holds : lo + w < overlap k zs → more k n zs cs ns ws (first_after k zs +ℤ pos (lo + w)) ≡ true

  beside_at : (d e b f : ℕ) → d ≤ e + b → e < d + f → Beside (at d) b f (at e)
  beside_at d e b f h g = let s = sum (first_after k zs) (pos d) in let t = sum (first_after k zs) (pos e) in (omega arith, omega arith)

  module _ (lo w h b f : ℕ) (below : h < w) (q : Searching lo w) where
    pub searching-left : Tests k n zs cs ns ws (first_after k zs +ℤ pos (lo + h)) h (w - h) true b f → Searching lo (h - b)
    searching-left t = record {
      within = omega (arith, q.within);
      fails = q.fails;
      holds = λ g. sym (t.tests (at (lo + (h - b))) (beside_at (lo + h) (lo + (h - b)) b f (omega arith) (omega (arith, t.around.some))));
    }

    pub searching-right : Tests k n zs cs ns ws (first_after k zs +ℤ pos (lo + h)) h (w - h) false b f → Searching (lo + (h + f)) (w - (h + f))
    searching-right t = let r = t.around.right in let s = t.around.some in record {
      within = omega (arith, q.within);
      fails = λ g. sym (t.tests (at (lo + (h + f) - 1)) (beside_at (lo + h) (lo + (h + f) - 1) b f (omega arith) (omega arith)));
      holds = λ g. let e : lo + (h + f) + (w - (h + f)) ≡ lo + w = omega arith in ap (λ (d : ℕ). more k n zs cs ns ws (at d)) e ∙ q.holds (omega arith);
    }

  pub searching-end : (lo : ℕ) → Searching lo 0 → MeetAt k n zs cs ns ws (first_after k zs +ℤ pos lo)
  searching-end lo q = let v = first_after k zs in let s = sum v (pos lo) in record {
    low = omega arith;
    high = omega (arith, q.within);
    holds = λ g. let e : lo + 0 ≡ lo = omega arith in sym (ap (λ (d : ℕ). more k n zs cs ns ws (at d)) e) ∙ q.holds (omega arith);
    fails = λ g. let e : at lo -ℤ pos 1 ≡ at (lo - 1) = eq-make _ _ (omega (arith, dif (at lo) (pos 1), sum v (pos (lo - 1)))) in ap (λ (x : ℤ). more k n zs cs ns ws x) e ∙ q.fails (omega arith);
  }

-- Whether a record has a box, test by test. Assumes nothing.
use mathlib.Core.Path.{◌≡◌, ◌∙◌, ap}
use mathlib.Core.Bool.{Bool, true, false, cond, ◌&&◌}
use mathlib.Core.List.{List}
use Prim.Native.Nat.{ℕ, ◌+◌, ◌≤◌, ◌<◌}
use native.Mathlib.Omega.{arith}
use borrow.Author.Tests.{lt-ltb, le-ltb, ltb-true}
use lib.Dec.{ltb}
use lib.ListN.{take, get_or}
use Rattle.ints.specs.Lists.{sum}
use Rattle.ints.proofs.Tests.{test, and_right, and-false}
use Rattle.passes.specs.Words.{max_listed}
use Rattle.script_poke.specs.Poked.{place_of, has_box}

module _ (counts : List ℕ) (q b : ℕ) where
  pub no-placing : max_listed ≤ q → has_box counts q b ≡ false
  no-placing h = rw (le-ltb q max_listed h)

  pub no-box : get_or counts q 0 ≤ b → has_box counts q b ≡ false
  no-box h = rw (le-ltb b (get_or counts q 0) h, and-false (ltb q max_listed))

  pub no_room : max_listed ≤ sum (take q counts) + b → has_box counts q b ≡ false
  no_room h = rw (le-ltb (sum (take q counts) + b) max_listed h, and-false (ltb q max_listed && ltb b (get_or counts q 0)))

  pub has-box : q < max_listed → b < get_or counts q 0 → sum (take q counts) + b < max_listed → has_box counts q b ≡ true
  has-box h k l = rw (lt-ltb q max_listed h, lt-ltb b (get_or counts q 0) k, lt-ltb (sum (take q counts) + b) max_listed l)

  -- by the place that was found
  module _ (at : ℕ) (e : at ≡ cond (has_box counts q b) (place_of counts q b) max_listed) where
    pub not-placed : max_listed ≤ at → has_box counts q b ≡ false
    not-placed h = test (has_box counts q b) (λ t. absurd (full t)) (λ f. f)
      where
        full : has_box counts q b ≡ true → ⊥
        full t =
            let d : at ≡ place_of counts q b = e ∙ ap (λ (x : Bool). cond x (place_of counts q b) max_listed) t in
            let l = ltb-true (place_of counts q b) max_listed (and_right (ltb q max_listed && ltb b (get_or counts q 0))
            (ltb (place_of counts q b) max_listed) t) in
            omega (arith, d, l)

    pub placed : at < max_listed → (has_box counts q b ≡ true) × (at ≡ place_of counts q b)
    placed h = test (has_box counts q b) (λ t. (t, e ∙ ap (λ (x : Bool). cond x (place_of counts q b) max_listed) t)) (λ f. absurd (none f))
      where
        none : has_box counts q b ≡ false → ⊥
        none f = let d : at ≡ max_listed = e ∙ ap (λ (x : Bool). cond x (place_of counts q b) max_listed) f in omega (arith, d)

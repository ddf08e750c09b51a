-- One run, listed or not. Assumes nothing.
use Prim.Native.Nat.{ℕ, ◌+◌, ◌-◌, ◌≤◌, ◌<◌}
use mathlib.Core.Path.{◌≡◌, sym, subst}
use mathlib.Core.Bool.{Bool, true, false, not, ◌&&◌}
use mathlib.Core.List.{List, [], ◌∷◌, ◌++◌}
use native.Mathlib.Omega.{arith}
use borrow.Author.Tests.{lt-ltb, le-ltb}
use lib.Dec.{eqb, ltb}
use lib.ListN.{get_or}
use lib.IntN.{ℤ}
use Rattle.passes.specs.Drawing.{Placing}
use Rattle.passes.specs.Words.{boxes_listed}
use Rattle.pass_list.specs.inner.Listing.{Columns, Lies, Stored}
use Rattle.pass_tables.proofs.Due.{and_no}
use Rattle.pass_list.specs.inner.Added.{placing_of, ListRoom}
use Rattle.pass_list.proofs.Added.{placings-then, boxes-then}
use Rattle.pass_list.specs.inner.Ended.{placed_by, placing_if, Fits}

-- ---- whether it was placed
module _ (q start from end to : ℕ) (had marks : List Bool) where
  pub open-first : from ≤ start → not (eqb q 3) ≡ placed_by q start from end to had marks
  open-first h = rw (le-ltb start from h)

  pub open-last : to ≤ end → not (eqb q 3) ≡ placed_by q start from end to had marks
  open-last h = rw (le-ltb end to h, and_no (ltb start from))

  pub between : start < from → end < to → get_or had (from - 1) false && not (get_or marks (from - 1) false) ≡ placed_by q start from end to had marks
  between h k = rw (lt-ltb start from h, lt-ltb end to k)

-- ---- the list then
module _ (placed : Bool) (q l from end : ℕ) (at : List ℤ) where
  pub if-empty : end ≤ from → placing_if placed q l from end at ≡ []
  if-empty h = rw (le-ltb from end h, and_no placed)

  if_some : placed ≡ true → from < end → placing_if placed q l from end at ≡ placing_of q l from end at ∷ []
  if_some e h = rw (e, lt-ltb from end h)

  module _ {before : List Placing} {n b : ℕ} {g : Columns} (s : Stored n b g before) where
    pub stored_more : placed ≡ true → from < end → {g' : Columns}
        → Lies (before ++ placing_of q l from end at ∷ []) g'
        → Stored (n + 1) (b + (end - from)) g' (before ++ placing_if placed q l from end at)
    stored_more e h {g'} x =
        subst (λ (y : List Placing). Stored (n + 1) (b + (end - from)) g' (before ++ y)) (sym (if_some e h))
        (record { lists = x; placings = omega (arith, s.placings, placings-then before q l from end at); boxes = omega (arith, s.boxes, boxes-then before q l from end at) })

  pub room : {n b : ℕ} → Fits n b (placing_if placed q l from end at) → placed ≡ true → from < end → (all : ℕ) → end ≤ all → end ≤ 1024 → ListRoom from end all n b
  unfolding boxes_listed
  room {n} {b} f e h all k m =
      let g : Fits n b (placing_of q l from end at ∷ []) = subst (Fits n b) (if_some e h) f in
      record { order = omega arith; within = k; few = m; placings = omega (arith, g.placings); boxes = omega (arith, g.boxes, boxes-then [] q l from end at) }

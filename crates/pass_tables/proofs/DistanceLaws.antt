-- Laws of doubled distances, as a walk along a level and one over the levels meet them. Assumes nothing.
use Prim.Native.Nat.{ℕ, zero, suc, ◌+◌, ◌-◌, ◌<◌, ◌≤◌}
use mathlib.Core.Path.{◌≡◌, sym, ◌∙◌, ap}
use mathlib.Core.List.{List, [], ◌∷◌, ◌++◌, append_assoc}
use native.Mathlib.Omega.{arith}
use native.Mathlib.Numerals.{add-one}
use borrow.Author.Tests.{lt-ltb, le-ltb}
use lib.ListN.{length, get_or, take, drop, set, drop_of_length-le}
use lib.Seq.{drop-cons}
use Rattle.plan.specs.Plan.{PlanData, numbers, levels_from}
use Rattle.passes.specs.State.{doubled_on, doubled_in}
use Rattle.pass_tables.specs.inner.Tables.{right_distance}
use Rattle.pass_tables.proofs.ListLaws.{take_on}

module _ (p : PlanData) where
  pub doubled-on : (v m to : ℕ) → v + suc m ≡ to → doubled_on p (numbers v (suc m)) ≡ right_distance p.gap p.halves v to ∷ doubled_on p (numbers (v + 1) m)
  unfolding doubled_on numbers
  doubled-on v zero to e = rw (le-ltb (v + 1) to (omega arith))
  doubled-on v (suc m) to e = rw (lt-ltb (v + 1) to (omega arith))

  pub doubled-end : (v n : ℕ) → n ≡ 0 → doubled_on p (numbers v n) ≡ []
  unfolding doubled_on numbers
  doubled-end v n h = rw h

  -- one more distance written
  pub fill_on : (xs : List ℕ) (v to a : ℕ) → v < to → v < length xs → a ≡ right_distance p.gap p.halves v to
      → take (v + 1) (set xs v a) ++ doubled_on p (numbers (v + 1) (to - (v + 1))) ≡ take v xs ++ doubled_on p (numbers v (to - v))
  fill_on xs v to a h k e =
      let n : to - v ≡ suc (to - (v + 1)) = omega arith in
      take_on xs v a (doubled_on p (numbers (v + 1) (to - (v + 1)))) k
      ∙ ap (λ (l : List ℕ). take v xs ++ l) (rw (n, e) (sym (doubled-on v (to - (v + 1)) to (omega arith))))

  module _ (ns : List ℕ) (from i : ℕ) where
    pub levels-on : i < length ns
        → doubled_in p (levels_from from (drop i ns)) ≡ doubled_on p (numbers from (get_or ns i 0)) ++ doubled_in p (levels_from (from + get_or ns i 0) (drop (i + 1) ns))
    unfolding doubled_in levels_from
    levels-on h = rw (add-one i, drop-cons ns i 0 h)

    pub levels-end : length ns ≤ i → doubled_in p (levels_from from (drop i ns)) ≡ []
    unfolding doubled_in levels_from
    levels-end h = rw (drop_of_length-le ns h)

    -- one more level written
    pub level-filled : (xs ys : List ℕ) (to : ℕ) → i < length ns → to ≡ from + get_or ns i 0 → take to ys ≡ take from xs ++ doubled_on p (numbers from (to - from))
        → take to ys ++ doubled_in p (levels_from to (drop (i + 1) ns)) ≡ take from xs ++ doubled_in p (levels_from from (drop i ns))
    level-filled xs ys to h e f =
        let n : to - from ≡ get_or ns i 0 = omega arith in
        let g : take to ys ≡ take from xs ++ doubled_on p (numbers from (get_or ns i 0)) = rw n at f in
        ap (λ (l : List ℕ). l ++ doubled_in p (levels_from to (drop (i + 1) ns))) g
        ∙ append_assoc (take from xs) (doubled_on p (numbers from (get_or ns i 0))) (doubled_in p (levels_from to (drop (i + 1) ns)))
        ∙ ap (λ (t : ℕ). take from xs ++ (doubled_on p (numbers from (get_or ns i 0)) ++ doubled_in p (levels_from t (drop (i + 1) ns)))) e
        ∙ ap (λ (l : List ℕ). take from xs ++ l) (sym (levels-on h))

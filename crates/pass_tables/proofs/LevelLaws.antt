-- Laws of a table that is written level by level, as the loops that write it and those that read it meet them. Assumes nothing.
use Prim.Native.Nat.{ℕ, zero, suc, ◌+◌, ◌-◌, ◌<◌, ◌≤◌}
use mathlib.Core.Path.{◌≡◌, refl, sym, ◌∙◌, ap}
use mathlib.Core.List.{List, [], ◌∷◌, ◌++◌, map, append_assoc, append-nil}
use native.Mathlib.Omega.{arith}
use native.Mathlib.Numerals.{add-one}
use lib.ListN.{length, get_or, take, drop, set, drop_of_length-le, get_or-append}
use lib.Seq.{drop-cons, take_all, get_or-append-add}
use Rattle.ints.specs.Lists.{sum}
use Rattle.plan.specs.Plan.{numbers}
use Rattle.pass_tables.specs.inner.Tables.{along, levelwise}
use Rattle.pass_tables.proofs.ListLaws.{take_on}

module _ {A : Type 0} where
  pub along-end : (f : ℕ → A) (v n : ℕ) → n ≡ 0 → along f v n ≡ []
  unfolding along
  along-end f v n h = rw h

  pub along-on : (f : ℕ → A) (v n m : ℕ) → n ≡ suc m → along f v n ≡ f v ∷ along f (v + 1) m
  unfolding along
  along-on f v n m h = rw h

  pub along-length : (f : ℕ → A) (v n : ℕ) → length (along f v n) ≡ n
  unfolding along
  along-length f v zero = refl
  along-length f v (suc n) = ap suc (along-length f (v + 1) n)

  pub along-get : (f : ℕ → A) (v n i : ℕ) (d : A) → i < n → get_or (along f v n) i d ≡ f (v + i)
  unfolding along
  along-get f v zero i d h = absurd (omega arith)
  along-get f v (suc n) zero d h = let e : v ≡ v + 0 = omega arith in ap f e
  along-get f v (suc n) (suc i) d h = let e : v + 1 + i ≡ v + suc i = omega arith in along-get f (v + 1) n i d (omega arith) ∙ ap f e

  pub along-same : (f g : ℕ → A) (v n : ℕ) → ((u : ℕ) → v ≤ u → u < v + n → f u ≡ g u) → along f v n ≡ along g v n
  unfolding along
  along-same f g v zero h = refl
  along-same f g v (suc n) h = ap (λ (x : A). x ∷ along f (v + 1) n) (h v (omega arith) (omega arith)) ∙ ap (λ (l : List A). g v ∷ l) (along-same f g (v + 1) n (λ u a b. h u (omega arith) (omega arith)))

  pub map-along : (f : ℕ → A) (v n : ℕ) → map f (numbers v n) ≡ along f v n
  unfolding numbers along
  map-along f v zero = refl
  map-along f v (suc n) = ap (λ (l : List A). f v ∷ l) (map-along f (v + 1) n)

  -- one more entry of a level written
  pub entry-filled : (f : ℕ → A) (xs : List A) (v to : ℕ) (a : A) → v < to → v < length xs → a ≡ f v
      → take (v + 1) (set xs v a) ++ along f (v + 1) (to - (v + 1)) ≡ take v xs ++ along f v (to - v)
  entry-filled f xs v to a h k e =
      take_on xs v a (along f (v + 1) (to - (v + 1))) k
      ∙ ap (λ (x : A). take v xs ++ x ∷ along f (v + 1) (to - (v + 1))) e
      ∙ ap (λ (l : List A). take v xs ++ l) (sym (along-on f v (to - v) (to - (v + 1)) (omega arith)))

  -- the last one
  pub entries-end : (f : ℕ → A) (xs : List A) (v to : ℕ) → v ≡ to → take to xs ≡ take v xs ++ along f v (to - v)
  entries-end f xs v to e =
      ap (λ (n : ℕ). take n xs) (sym e) ∙ sym (append-nil (take v xs)) ∙ ap (λ (l : List A). take v xs ++ l) (sym (along-end f v (to - v) (omega arith)))

  module _ (f : ℕ → ℕ → A) (ns : List ℕ) (from i : ℕ) where
    levels-on : i < length ns
        → levelwise f from (drop i ns) ≡ along (λ (u : ℕ). f u (from + get_or ns i 0)) from (get_or ns i 0) ++ levelwise f (from + get_or ns i 0) (drop (i + 1) ns)
    unfolding levelwise
    levels-on h = rw (add-one i, drop-cons ns i 0 h)

    levels-none : length ns ≤ i → levelwise f from (drop i ns) ≡ []
    unfolding levelwise
    levels-none h = rw (drop_of_length-le ns h)

    -- one more level written
    pub level-filled : (xs ys : List A) (to : ℕ) → i < length ns → to ≡ from + get_or ns i 0 → take to ys ≡ take from xs ++ along (λ (u : ℕ). f u to) from (to - from)
        → take to ys ++ levelwise f to (drop (i + 1) ns) ≡ take from xs ++ levelwise f from (drop i ns)
    level-filled xs ys to h e g =
        let n : to - from ≡ get_or ns i 0 = omega arith in
        let j : take to ys ≡ take from xs ++ along (λ (u : ℕ). f u (from + get_or ns i 0)) from (get_or ns i 0) = rw (← e, ← n) g in
        ap (λ (l : List A). l ++ levelwise f to (drop (i + 1) ns)) j
        ∙ append_assoc (take from xs) (along (λ (u : ℕ). f u (from + get_or ns i 0)) from (get_or ns i 0)) (levelwise f to (drop (i + 1) ns))
        ∙ ap (λ (t : ℕ). take from xs ++ (along (λ (u : ℕ). f u (from + get_or ns i 0)) from (get_or ns i 0) ++ levelwise f t (drop (i + 1) ns))) e
        ∙ ap (λ (l : List A). take from xs ++ l) (sym (levels-on h))

    -- the last one
    pub levels-end : (xs : List A) → length ns ≤ i → length xs ≤ from → xs ≡ take from xs ++ levelwise f from (drop i ns)
    levels-end xs h k = sym (take_all from xs k) ∙ sym (append-nil (take from xs)) ∙ ap (λ (l : List A). take from xs ++ l) (sym (levels-none h))

  -- what the table has of a vertex: level k begins at the sum of the sizes before it
  pub levelwise-get : (f : ℕ → ℕ → A) (v : ℕ) (ns : List ℕ) (k u : ℕ) (d : A) → u < get_or ns k 0
      → get_or (levelwise f v ns) (sum (take k ns) + u) d ≡ f (v + sum (take k ns) + u) (v + sum (take k ns) + get_or ns k 0)
  unfolding levelwise sum
  levelwise-get f v [] zero u d h = absurd (omega arith)
  levelwise-get f v [] (suc k) u d h = absurd (omega arith)
  levelwise-get f v (n ∷ ns) zero u d h =
      let e : v + u ≡ v + 0 + u = omega arith in
      let g : v + n ≡ v + 0 + n = omega arith in
      let z : 0 + u ≡ u = omega arith in
      ap (λ (j : ℕ). get_or (along (λ (u : ℕ). f u (v + n)) v n ++ levelwise f (v + n) ns) j d) z
      ∙ get_or-append (along (λ (u : ℕ). f u (v + n)) v n) (levelwise f (v + n) ns) d u (omega (arith, along-length (λ (u : ℕ). f u (v + n)) v n))
      ∙ along-get (λ (u : ℕ). f u (v + n)) v n u d h ∙ ap (λ (w : ℕ). f w (v + n)) e ∙ ap (λ (w : ℕ). f (v + 0 + u) w) g
  levelwise-get f v (n ∷ ns) (suc k) u d h =
      let s = sum (take k ns) in
      let l : n + s + u ≡ length (along (λ (u : ℕ). f u (v + n)) v n) + (s + u) = omega (arith, along-length (λ (u : ℕ). f u (v + n)) v n) in
      let e : v + n + s + u ≡ v + (n + s) + u = omega arith in
      let g : v + n + s + get_or ns k 0 ≡ v + (n + s) + get_or ns k 0 = omega arith in
      ap (λ (j : ℕ). get_or (along (λ (u : ℕ). f u (v + n)) v n ++ levelwise f (v + n) ns) j d) l
      ∙ get_or-append-add (along (λ (u : ℕ). f u (v + n)) v n) (levelwise f (v + n) ns) (s + u) d
      ∙ levelwise-get f (v + n) ns k u d h ∙ ap (λ (w : ℕ). f w (v + n + s + get_or ns k 0)) e ∙ ap (λ (w : ℕ). f (v + (n + s) + u) w) g

  -- a table from its start on
  pub entries-start : (f : ℕ → A) (xs : List A) (n : ℕ) → take 0 xs ++ along f 0 (n - 0) ≡ along f 0 n
  entries-start f xs n = let e : n - 0 ≡ n = omega arith in ap (along f 0) e

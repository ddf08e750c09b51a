-- The ratings of a half, box by box. Assumes nothing.
use mathlib.Core.Path.{◌≡◌}
use mathlib.Core.Bool.{Bool, true, false, cond}
use mathlib.Core.List.{List, ◌∷◌}
use Prim.Native.Nat.{ℕ, ◌+◌, ◌-◌, ◌*◌, ◌≤◌, ◌<◌}
use native.Mathlib.Omega.{arith}
use native.Mathlib.Numerals.{add-one}
use lib.ListN.{length, take, drop, get_or, length-take, length-drop, drop_of_length-le}
use lib.Seq.{drop-cons, drop-drop}
use lib.IntN.{ℤ, pos}
use Rattle.ints.specs.Ratings.{max_rating, all_ratings}
use Rattle.ints.proofs.Ratings.{ratings-take, ratings-drop}
use Rattle.run.specs.Run.{Lead, leads_of, total_rating}
use Rattle.run.specs.inner.Coordinates.{rated_up_to}
use Rattle.run.proofs.Rated.{rated-bound}
use Rattle.run_columns.proofs.SumLaws.{total-most}
use Rattle.run_columns.proofs.ColumnLaws.{First, first-box}
use Rattle.run_columns.specs.inner.Columns.{Columns}
use Rattle.run_columns.specs.inner.Counts.{counted, box_up_to, box_beyond, up_to, beyond, Beside, Around, BoxCounts, HalfCounts}

-- ---- the places beside m
pub beside-self : (m : ℤ) (b f : ℕ) → 0 < f → Beside m b f m
beside-self m b f h = (omega arith, omega arith)

pub beside-more : (m x : ℤ) {back far b f : ℕ} → Around back far b f → Beside m b f x → Beside m back far x
beside-more m x a q = (omega (arith, a.left, q.0), omega (arith, a.right, q.1))

pub around-self : (back far : ℕ) → 0 < far → Around back far back far
around-self back far h = record { left = omega arith; right = omega arith; some = h }

pub around-more : {back far b f b' f' : ℕ} → Around back far b f → Around b f b' f' → Around back far b' f'
around-more p q = record { left = omega (arith, p.left, q.left); right = omega (arith, p.right, q.right); some = q.some }

-- ---- the ratings of a half, after i of its boxes, which have a neighbours
pub record Counting (left : Bool) (zs : List ℤ) (cs : List ℕ) (ns : List ℤ) (ws : List ℕ) (m : ℤ) (back far u v b f a i : ℕ) : Type 0 where
  pub rest : Columns (drop i zs) (drop i cs) (drop a ns)
  pub within : a ≤ length ns
  pub sizes : u + v ≤ max_rating * a
  pub around : Around back far b f
  pub ups : (x : ℤ) → Beside m b f x → u + up_to left (drop i zs) (drop i cs) (drop a ns) (drop a ws) x ≡ up_to left zs cs ns ws x
  pub beyonds : (x : ℤ) → Beside m b f x → v + beyond left (drop i zs) (drop i cs) (drop a ns) (drop a ws) x ≡ beyond left zs cs ns ws x

-- what the next box adds
pub box-sizes : (left : Bool) (z : ℤ) (ns : List Lead) (m : ℤ) → box_up_to left z ns m + box_beyond left z ns m ≤ total_rating ns
box-sizes left z ns m = go (counted left z m)
  where
    go : (t : Bool) → cond t (rated_up_to m ns) 0 + cond t (total_rating ns - rated_up_to m ns) 0 ≤ total_rating ns
    go true = omega (arith, rated-bound m ns)
    go false = omega arith

pub counting-start : (left : Bool) (zs : List ℤ) (cs : List ℕ) (ns : List ℤ) (ws : List ℕ) (m : ℤ) (back far : ℕ) → 0 < far → Columns zs cs ns → Counting left zs cs ns ws m back far 0 0 back far 0 0
counting-start left zs cs ns ws m back far h q = record { rest = q; within = omega arith; sizes = omega arith; around = around-self back far h; ups = λ x k. omega arith; beyonds = λ x k. omega arith }

module _ (left : Bool) (zs : List ℤ) (cs : List ℕ) (ns : List ℤ) (ws : List ℕ) (m : ℤ) (back far u v b f a i : ℕ) (h : i < length zs) (q : Counting left zs cs ns ws m back far u v b f a i) where
  counted-index : i < length cs
  counted-index = let e = q.rest.boxes in omega (arith, length-drop i zs, length-drop i cs)

  pub next-first : First (get_or cs i 0) (drop (i + 1) zs) (drop (i + 1) cs) (drop a ns)
  next-first = let k = counted-index in let d = i + 1 in
      let r : Columns (get_or zs i (pos 0) ∷ drop (i + 1) zs) (get_or cs i 0 ∷ drop (i + 1) cs) (drop a ns) = rw (add-one, ← drop-cons zs i (pos 0) h, ← drop-cons cs i 0 k) q.rest in
      first-box r

  next_up : (x : ℤ) → up_to left (drop i zs) (drop i cs) (drop a ns) (drop a ws) x ≡ box_up_to left (get_or zs i (pos 0)) (leads_of (take (get_or cs i 0) (drop a ns)) (take (get_or cs i 0) (drop a ws))) x + up_to left (drop (i + 1) zs) (drop (i + 1) cs) (drop (a + get_or cs i 0) ns) (drop (a + get_or cs i 0) ws) x
  unfolding up_to
  next_up x = let k = counted-index in rw (add-one, drop-cons zs i (pos 0) h, drop-cons cs i 0 k, drop-drop (get_or cs i 0) a ns, drop-drop (get_or cs i 0) a ws)

  next-beyond : (x : ℤ) → beyond left (drop i zs) (drop i cs) (drop a ns) (drop a ws) x ≡ box_beyond left (get_or zs i (pos 0)) (leads_of (take (get_or cs i 0) (drop a ns)) (take (get_or cs i 0) (drop a ws))) x + beyond left (drop (i + 1) zs) (drop (i + 1) cs) (drop (a + get_or cs i 0) ns) (drop (a + get_or cs i 0) ws) x
  unfolding beyond
  next-beyond x = let k = counted-index in rw (add-one, drop-cons zs i (pos 0) h, drop-cons cs i 0 k, drop-drop (get_or cs i 0) a ns, drop-drop (get_or cs i 0) a ws)

  module _ (s t b' f' : ℕ) (c : BoxCounts left (get_or zs i (pos 0)) (leads_of (take (get_or cs i 0) (drop a ns)) (take (get_or cs i 0) (drop a ws))) m b f s t b' f') where
    pub next-sizes : all_ratings ws ≡ true → u + v + (s + t) ≤ max_rating * (a + get_or cs i 0)
    next-sizes e = let ps = take (get_or cs i 0) (drop a ns) in let rs = take (get_or cs i 0) (drop a ws) in let o = beside-self m b' f' c.around.some in
        omega (
          arith,
          q.sizes,
          c.ups m o,
          c.beyonds m o,
          next-first.fits,
          length-take (get_or cs i 0) (drop a ns),
          box-sizes left (get_or zs i (pos 0)) (leads_of ps rs) m,
          total-most ps rs (ratings-take (get_or cs i 0) (drop a ws) (ratings-drop a ws e)),
        )

    pub counting-next : all_ratings ws ≡ true → Counting left zs cs ns ws m back far (u + s) (v + t) b' f' (a + get_or cs i 0) (i + 1)
    counting-next e = let n = get_or cs i 0 in let f = next-first in record {
      rest = rw (← drop-drop n a ns) f.others;
      within = omega (arith, f.fits, length-drop a ns);
      sizes = omega (arith, next-sizes e);
      around = around-more q.around c.around;
      ups = λ x k. omega (arith, next_up x, c.ups x k, q.ups x (beside-more m x c.around k));
      beyonds = λ x k. omega (arith, next-beyond x, c.beyonds x k, q.beyonds x (beside-more m x c.around k));
    }

-- after the last box nothing is left to count
up-end : (left : Bool) (zs : List ℤ) (cs : List ℕ) (ns : List ℤ) (ws : List ℕ) (m : ℤ) (i : ℕ) → length zs ≤ i → up_to left (drop i zs) cs ns ws m ≡ 0
unfolding up_to
up-end left zs cs ns ws m i h = rw (drop_of_length-le zs h)

beyond-end : (left : Bool) (zs : List ℤ) (cs : List ℕ) (ns : List ℤ) (ws : List ℕ) (m : ℤ) (i : ℕ) → length zs ≤ i → beyond left (drop i zs) cs ns ws m ≡ 0
unfolding beyond
beyond-end left zs cs ns ws m i h = rw (drop_of_length-le zs h)

pub counting-end : (left : Bool) (zs : List ℤ) (cs : List ℕ) (ns : List ℤ) (ws : List ℕ) (m : ℤ) (back far u v b f a i : ℕ) → length zs ≤ i → Counting left zs cs ns ws m back far u v b f a i
    → HalfCounts left zs cs ns ws m back far u v b f
counting-end left zs cs ns ws m back far u v b f a i h q = record {
  around = q.around;
  sizes = omega (arith, q.sizes, q.within);
  ups = λ x k. omega (arith, q.ups x k, up-end left zs (drop i cs) (drop a ns) (drop a ws) x i h);
  beyonds = λ x k. omega (arith, q.beyonds x k, beyond-end left zs (drop i cs) (drop a ns) (drop a ws) x i h);
}

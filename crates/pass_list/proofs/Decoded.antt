-- A list read back from its arrays is that list. Assumes nothing.
use Prim.Native.Nat.{ℕ, ◌-◌}
use mathlib.Core.Path.{◌≡◌, refl, ◌∙◌, ap}
use mathlib.Core.List.{List, [], ◌∷◌, ◌++◌, map, append_assoc, map-append}
use lib.ListN.{length, take, drop, replicate, length-map}
use lib.Seq.{take_at, drop_at}
use lib.IntN.{ℤ, pos}
use Rattle.passes.specs.Drawing.{BoxAt, Placing, boxes_with}
use Rattle.passes.specs.Words.{boxes_listed, max_listed}
use Rattle.pass_list.specs.inner.Listing.{Listing}
use Rattle.passes.specs.Stored.{padded, placings_from}

with-both : (bs : List BoxAt) → boxes_with (map (λ (b : BoxAt). b.vertex) bs) (map (λ (b : BoxAt). b.position) bs) ≡ bs
unfolding boxes_with
with-both [] = refl
with-both (b ∷ bs) = ap (λ (l : List BoxAt). b ∷ l) (with-both bs)

module _ {A : Type 0} (f : BoxAt → A) where
  -- of the boxes bs and those after them
  split : (bs more : List BoxAt) (rest : List A) → map f (bs ++ more) ++ rest ≡ map f bs ++ (map f more ++ rest)
  split bs more rest = ap (λ (l : List A). l ++ rest) (map-append f bs more) ∙ append_assoc (map f bs) (map f more) rest

  taken : (bs more : List BoxAt) (rest : List A) → take (length bs) (map f (bs ++ more) ++ rest) ≡ map f bs
  taken bs more rest = ap (take (length bs)) (split bs more rest) ∙ take_at (map f bs) (map f more ++ rest) (length bs) (length-map bs f)

  left : (bs more : List BoxAt) (rest : List A) → drop (length bs) (map f (bs ++ more) ++ rest) ≡ map f more ++ rest
  left bs more rest = ap (drop (length bs)) (split bs more rest) ∙ drop_at (map f bs) (map f more ++ rest) (length bs) (length-map bs f)

abbrev pass_of : Placing → ℕ
pass_of q = q.pass

abbrev level_of : Placing → ℕ
level_of q = q.level

abbrev count_of : Placing → ℕ
count_of q = length q.boxes

from-arrays : (list : List Placing) (vs : List ℕ) (ys : List ℤ)
    → placings_from (map pass_of list) (map level_of list) (map count_of list) (map (λ (b : BoxAt). b.vertex) (boxes_listed list) ++ vs) (map (λ (b : BoxAt). b.position) (boxes_listed list) ++ ys) ≡ list
unfolding placings_from boxes_listed
from-arrays [] vs ys = refl
from-arrays (q ∷ qs) vs ys = let bs = q.boxes in let more = boxes_listed qs in
    rw (
      taken (λ (b : BoxAt). b.vertex) bs more vs,
      taken (λ (b : BoxAt). b.position) bs more ys,
      left (λ (b : BoxAt). b.vertex) bs more vs,
      left (λ (b : BoxAt). b.position) bs more ys,
      with-both bs,
      from-arrays qs vs ys,
    )

first : {A : Type 0} (f : Placing → A) (z : A) (list : List Placing) (xs : List A) → xs ≡ padded max_listed z (map f list) → take (length list) xs ≡ map f list
first f z list xs e = ap (take (length list)) e ∙ take_at (map f list) (replicate (max_listed - length (map f list)) z) (length list) (length-map list f)

pub decoded : {list : List Placing} {passes levels counts vertices : List ℕ} {positions : List ℤ} → Listing list passes levels counts vertices positions
    → placings_from (take (length list) passes) (take (length list) levels) (take (length list) counts) vertices positions ≡ list
decoded {list} {passes} {levels} {counts} s =
    let vs = boxes_listed list in
    rw (first pass_of 0 list passes s.of_passes, first level_of 0 list levels s.of_levels, first count_of 0 list counts s.of_counts, s.of_vertices, s.of_positions)
    (from-arrays list (replicate (max_listed - length (map (λ (b : BoxAt). b.vertex) vs)) 0) (replicate (max_listed - length (map (λ (b : BoxAt). b.position) vs)) (pos 0)))

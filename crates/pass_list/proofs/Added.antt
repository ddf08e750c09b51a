-- A list with one more placing, and its arrays. Assumes nothing.
use Prim.Native.Nat.{ℕ, ◌+◌, ◌-◌, ◌<◌, ◌≤◌}
use mathlib.Core.Path.{◌≡◌, refl, sym, ◌∙◌, ap}
use mathlib.Core.List.{List, [], ◌∷◌, ◌++◌, map, append_assoc, append-nil, map-append}
use native.Mathlib.Omega.{arith}
use lib.ListN.{length, take, drop, set, length-append, length-map}
use lib.IntN.{ℤ, pos}
use Rattle.plan.specs.Plan.{numbers}
use Rattle.passes.specs.State.{position_of}
use Rattle.passes.specs.Drawing.{BoxAt, Placing, boxes_with}
use Rattle.passes.specs.Words.{boxes_listed, max_listed}
use Rattle.plan.proofs.Levels.{length-numbers}
use Rattle.pass_tables.specs.inner.Tables.{along}
use Rattle.pass_tables.proofs.LevelLaws.{along-length}
use Rattle.passes.specs.Stored.{padded}
use Rattle.pass_list.specs.inner.Listing.{Listing}
use Rattle.pass_list.specs.inner.Added.{boxes_from, placing_of}
use Rattle.pass_list.proofs.Padded.{padded-set, padded-write}

-- ---- boxes
with-vertices : (vs : List ℕ) (ys : List ℤ) → length vs ≡ length ys → map (λ (b : BoxAt). b.vertex) (boxes_with vs ys) ≡ vs
unfolding boxes_with
with-vertices [] ys e = refl
with-vertices (v ∷ vs) [] e = absurd (omega arith)
with-vertices (v ∷ vs) (y ∷ ys) e = ap (λ (l : List ℕ). v ∷ l) (with-vertices vs ys (omega arith))

with-positions : (vs : List ℕ) (ys : List ℤ) → length vs ≡ length ys → map (λ (b : BoxAt). b.position) (boxes_with vs ys) ≡ ys
unfolding boxes_with
with-positions [] [] e = refl
with-positions [] (y ∷ ys) e = absurd (omega arith)
with-positions (v ∷ vs) [] e = absurd (omega arith)
with-positions (v ∷ vs) (y ∷ ys) e = ap (λ (l : List ℤ). y ∷ l) (with-positions vs ys (omega arith))

pub boxes-append : (a b : List Placing) → boxes_listed (a ++ b) ≡ boxes_listed a ++ boxes_listed b
unfolding boxes_listed
boxes-append [] b = refl
boxes-append (q ∷ a) b = ap (λ (l : List BoxAt). q.boxes ++ l) (boxes-append a b) ∙ sym (append_assoc q.boxes (boxes_listed a) (boxes_listed b))

pub boxes-more : (list : List Placing) (q : Placing) → boxes_listed (list ++ q ∷ []) ≡ boxes_listed list ++ q.boxes
unfolding boxes_listed
boxes-more list q = boxes-append list (q ∷ []) ∙ ap (λ (l : List BoxAt). boxes_listed list ++ l) (append-nil q.boxes)

module _ (from end : ℕ) (at : List ℤ) where
  both_long : length (numbers from (end - from)) ≡ length (along (position_of at) from (end - from))
  both_long = length-numbers from (end - from) ∙ sym (along-length (position_of at) from (end - from))

  vertices-from : map (λ (b : BoxAt). b.vertex) (boxes_from from end at) ≡ numbers from (end - from)
  vertices-from = with-vertices (numbers from (end - from)) (along (position_of at) from (end - from)) both_long

  positions-from : map (λ (b : BoxAt). b.position) (boxes_from from end at) ≡ along (position_of at) from (end - from)
  positions-from = with-positions (numbers from (end - from)) (along (position_of at) from (end - from)) both_long

  pub length_from : length (boxes_from from end at) ≡ end - from
  length_from = sym (length-map (boxes_from from end at) (λ (b : BoxAt). b.vertex)) ∙ ap length vertices-from ∙ length-numbers from (end - from)

-- ---- how many placings and boxes there are then
module _ (list : List Placing) (q l from end : ℕ) (at : List ℤ) where
  pub placings-then : length (list ++ placing_of q l from end at ∷ []) ≡ length list + 1
  placings-then = length-append list (placing_of q l from end at ∷ [])

  pub boxes-then : length (boxes_listed (list ++ placing_of q l from end at ∷ [])) ≡ length (boxes_listed list) + (end - from)
  boxes-then = ap length (boxes-more list (placing_of q l from end at))
      ∙ omega (arith, length-append (boxes_listed list) (boxes_from from end at), length_from from end at)

-- ---- the arrays
module _ {A B : Type 0} (z : B) (f : A → B) where
  -- what is written of one more element
  written : (m : ℕ) (xs : List A) (x : A) (n : ℕ) (ys : List B) (b : B) → ys ≡ padded m z (map f xs) → length xs ≡ n → n < m → b ≡ f x
      → set ys n b ≡ padded m z (map f (xs ++ x ∷ []))
  written m xs x n ys b p e h d = ap (λ (l : List B). set l n b) p ∙ padded-set z m (map f xs) n b (length-map xs f ∙ e) h
      ∙ ap (λ (c : B). padded m z (map f xs ++ c ∷ [])) d ∙ ap (padded m z) (sym (map-append f xs (x ∷ [])))

  -- of several
  all-written : (m : ℕ) (xs ws : List A) (n end : ℕ) (ys ys' vs : List B) → ys ≡ padded m z (map f xs) → length xs ≡ n → map f ws ≡ vs → length ws ≡ end - n → n ≤ end → end ≤ m
      → take end ys' ≡ take n ys ++ vs → drop end ys' ≡ drop end ys → ys' ≡ padded m z (map f (xs ++ ws))
  all-written m xs ws n end ys ys' vs p e d l h k t u =
      padded-write z m (map f xs) (map f ws) ys' n end (length-map xs f ∙ e) (length-map ws f ∙ l) h k
      (t ∙ ap (λ (o : List B). take n o ++ vs) p ∙ ap (λ (o : List B). take n (padded m z (map f xs)) ++ o) (sym d)) (u ∙ ap (drop end) p)
      ∙ ap (padded m z) (sym (map-append f xs ws))

-- a placing written behind a list of n placings with b boxes
module _ {list : List Placing} {passes levels counts vertices : List ℕ} {positions : List ℤ} (q l from end : ℕ) (at : List ℤ) (n b : ℕ) (vertices' : List ℕ) (positions' : List ℤ) where
  pub listing-more : length list ≡ n → length (boxes_listed list) ≡ b → from ≤ end → n < max_listed → b + (end - from) ≤ max_listed → Listing list passes levels counts vertices positions
      → take (b + (end - from)) vertices' ≡ take b vertices ++ numbers from (b + (end - from) - b) → drop (b + (end - from)) vertices' ≡ drop (b + (end - from)) vertices
      → take (b + (end - from)) positions' ≡ take b positions ++ along (position_of at) from (b + (end - from) - b) → drop (b + (end - from)) positions' ≡ drop (b + (end - from)) positions
      → Listing (list ++ placing_of q l from end at ∷ []) (set passes n q) (set levels n l) (set counts n (end - from)) vertices' positions'
  listing-more e f h i j s tv dv tp dp =
      let x = placing_of q l from end at in
      let k : end - from ≡ b + (end - from) - b = omega arith in
      record {
        of_passes = written 0 (λ (r : Placing). r.pass) max_listed list x n passes q s.of_passes e i refl;
        of_levels = written 0 (λ (r : Placing). r.level) max_listed list x n levels l s.of_levels e i refl;
        of_counts = written 0 (λ (r : Placing). length r.boxes) max_listed list x n counts (end - from) s.of_counts e i (sym (length_from from end at));
        of_vertices = rw (boxes-more list x) (all-written 0 (λ (c : BoxAt). c.vertex) max_listed (boxes_listed list) x.boxes b (b + (end - from)) vertices vertices' (numbers from (b + (end - from) - b))
            s.of_vertices f (vertices-from from end at ∙ ap (numbers from) k) (length_from from end at ∙ k) (omega arith) j tv dv);
        of_positions = rw (boxes-more list x) (all-written (pos 0) (λ (c : BoxAt). c.position) max_listed (boxes_listed list) x.boxes b (b + (end - from)) positions positions' (along (position_of at) from (b + (end - from) - b))
            s.of_positions f (positions-from from end at ∙ ap (along (position_of at) from) k) (length_from from end at ∙ k) (omega arith) j tp dp);
      }

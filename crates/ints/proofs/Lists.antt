-- Laws of lists that the kit does not have: `over`, `sum`, `concat`, and `map` with a part, a store and a load. Assumes nothing.
-- Elsewhere: `length-map`, `get_or-map` (lib.ListN), `map-append`, `map-map` (mathlib.Core.List), and of `over` itself,
-- which is an append, `take-append_seam`, `drop-append_seam`, `set-append_left` (lib.Seq), `get_or-append` (lib.ListN).
use Prim.Native.Nat.{ℕ, zero, suc, ◌+◌, ◌-◌, ◌<◌, ◌≤◌}
use mathlib.Core.Path.{◌≡◌, refl, sym, ◌∙◌, ap}
use mathlib.Core.List.{List, [], ◌∷◌, ◌++◌, map, append_assoc, append-nil, map-append}
use native.Mathlib.Omega.{arith}
use native.Mathlib.Numerals.{add-one}
use lib.ListN.{length, take, drop, set, get_or, length-append, length-drop, length-map, drop_of_length-le}
use lib.Seq.{drop-cons, set_at, take-nil, take-suc, length-take-le}
use Rattle.ints.specs.Lists.{over, sum, concat}

-- ---- a list that a loop fills
module _ {A : Type 0} where
  -- a store at the next place makes xs one longer
  pub over-more : (xs o : List A) (i : ℕ) (v : A) → length xs ≡ i → i < length o → set (over xs o) i v ≡ over (xs ++ v ∷ []) o
  over-more xs o i v e h =
      rw (length-append, e, add-one, append_assoc, drop-cons o i v) (set_at xs (get_or o i v) (drop (suc i) o) v i e)

  pub over-long : (xs o : List A) → length xs ≤ length o → length (over xs o) ≡ length o
  over-long xs o h = simp (length-append, length-drop) (omega arith)

  -- once it is full nothing of the old is left
  pub over-all : (xs o : List A) → length o ≤ length xs → over xs o ≡ xs
  over-all xs o h = rw (drop_of_length-le o h, append-nil)

-- ---- an element that is there, whatever stands for one that is not
pub get_or-either : {A : Type 0} (l : List A) (i : ℕ) (d e : A) → i < length l → get_or l i d ≡ get_or l i e
get_or-either [] i d e h = absurd (omega arith)
get_or-either (x ∷ l) zero d e h = refl
get_or-either (x ∷ l) (suc i) d e h = get_or-either l i d e (omega arith)

-- ---- a part of a front
module _ {A : Type 0} where
  pub drop-take : (m n : ℕ) (l : List A) → drop m (take n l) ≡ take (n - m) (drop m l)
  drop-take zero n l = let e : n ≡ n - 0 = omega arith in ap (λ (k : ℕ). take k l) e
  drop-take (suc m) zero l = let e : 0 ≡ 0 - suc m = omega arith in ap (λ (k : ℕ). take k (drop (suc m) l)) e
  drop-take (suc m) (suc n) [] = sym (take-nil (suc n - suc m))
  drop-take (suc m) (suc n) (x ∷ l) = let e : n - m ≡ suc n - suc m = omega arith in drop-take m n l ∙ ap (λ (k : ℕ). take k (drop m l)) e

  pub drop-part : (m n : ℕ) (l : List A) → drop m (take (m + n) l) ≡ take n (drop m l)
  drop-part m n l = let e : m + n - m ≡ n = omega arith in drop-take m (m + n) l ∙ ap (λ (k : ℕ). take k (drop m l)) e

-- ---- the sum of what is left after the first i
module _ (xs : List ℕ) (i : ℕ) where
  pub sum-on : i < length xs → sum (drop i xs) ≡ get_or xs i 0 + sum (drop (i + 1) xs)
  unfolding sum
  sum-on h = rw (add-one, drop-cons xs i 0 h)

  pub sum-end : length xs ≤ i → sum (drop i xs) ≡ 0
  unfolding sum
  sum-end h = rw (drop_of_length-le xs h)

-- ---- the sum of the first k
pub take_more : (ns : List ℕ) (k : ℕ) → sum (take (suc k) ns) ≡ sum (take k ns) + get_or ns k 0
unfolding sum
take_more [] zero = refl
take_more [] (suc k) = refl
take_more (n ∷ ns) zero = omega arith
take_more (n ∷ ns) (suc k) = omega (arith, take_more ns k)

-- ---- lists one after another
module _ {A : Type 0} where
  pub concat-append : (a b : List (List A)) → concat (a ++ b) ≡ concat a ++ concat b
  unfolding concat
  concat-append [] b = refl
  concat-append (l ∷ a) b = rw (concat-append a b) (sym (append_assoc l (concat a) (concat b)))

  pub concat-one : (l : List A) → concat (l ∷ []) ≡ l
  unfolding concat
  concat-one l = append-nil l

  pub concat-length : (ls : List (List A)) → length (concat ls) ≡ sum (map length ls)
  unfolding concat sum
  concat-length [] = refl
  concat-length (l ∷ ls) = rw (length-append l (concat ls), concat-length ls)

-- ---- map
module _ {A B : Type 0} (f : A → B) where
  pub map-take : (n : ℕ) (l : List A) → map f (take n l) ≡ take n (map f l)
  map-take zero l = refl
  map-take (suc n) [] = refl
  map-take (suc n) (x ∷ xs) = ap (λ (r : List B). f x ∷ r) (map-take n xs)

  pub map-drop : (n : ℕ) (l : List A) → map f (drop n l) ≡ drop n (map f l)
  map-drop zero l = refl
  map-drop (suc n) [] = refl
  map-drop (suc n) (x ∷ xs) = map-drop n xs

  pub map-set : (l : List A) (i : ℕ) (a : A) → map f (set l i a) ≡ set (map f l) i (f a)
  map-set [] i a = refl
  map-set (x ∷ xs) zero a = refl
  map-set (x ∷ xs) (suc i) a = ap (λ (r : List B). f x ∷ r) (map-set xs i a)

  -- within the list, whatever is read past its end
  pub map-get_or : (l : List A) (i : ℕ) (d : A) (e : B) → i < length l → get_or (map f l) i e ≡ f (get_or l i d)
  map-get_or [] i d e h = absurd (omega arith)
  map-get_or (x ∷ xs) zero d e h = refl
  map-get_or (x ∷ xs) (suc i) d e h = map-get_or xs i d e (omega arith)

  -- what a loop has mapped, one more
  pub map_more : (l : List A) (i : ℕ) (d : A) → i < length l → map f (take (i + 1) l) ≡ map f (take i l) ++ f (get_or l i d) ∷ []
  map_more l i d h = rw (add-one, take-suc l i d) (map-append f (take i l) (get_or l i d ∷ []))

  -- so a loop that fills o with the images of l
  pub over-map : (l : List A) (o : List B) (i : ℕ) (d : A) → i < length l → i < length o → set (over (map f (take i l)) o) i (f (get_or l i d)) ≡ over (map f (take (i + 1) l)) o
  over-map l o i d h k =
      rw (map_more l i d) (over-more (map f (take i l)) o i (f (get_or l i d)) (length-map (take i l) f ∙ length-take-le i l (omega arith)) k)

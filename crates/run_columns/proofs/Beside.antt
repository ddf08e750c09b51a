-- A box's ratings at a place are those at the places beside it, as far as neither its position nor a neighbour is passed. Assumes
-- nothing.
use mathlib.Core.Path.{◌≡◌, sym, ◌∙◌}
use mathlib.Core.Bool.{Bool, true}
use mathlib.Core.List.{List, [], ◌∷◌, map}
use Prim.Native.Nat.{ℕ, zero, suc, ◌-◌, ◌≤◌, ◌<◌}
use native.Mathlib.Omega.{arith}
use lib.ListN.{length, take, get_or, length-map}
use lib.IntN.{ℤ, pos, ◌+ℤ◌}
use lib.Signed.{lt_z}
use Rattle.ints.specs.Ints.{◌⊑◌, ◌⊏◌}
use Rattle.ints.proofs.Laws.{sum, cases_z, make-lt-true, make-lt-false}
use Rattle.ints.specs.Lists.{sum as total}
use Rattle.run.specs.Run.{Bound as Limit, leads_of, nondecreasing}
use Rattle.run.specs.inner.Coordinates.{less, count_up_to, rated_up_to}
use Rattle.run.proofs.Leads.{total-leads}
use Rattle.run.proofs.Sorted.{Sorted, sorted-cons, sorted, sorted-get, count-bound, count-below, count-above, count-is}
use Rattle.run_columns.specs.inner.Counts.{counted, Beside, BackTo, FarTo, Around, BoxCounts}
use Rattle.run_columns.proofs.CountLaws.{around-more}
use Rattle.run_columns.proofs.OffsetLaws.{count_less, nondecreasing-less}
use Rattle.run_columns.proofs.SumLaws.{rated-first}

same-side : (z m x : ℤ) (b f : ℕ) → BackTo z m b → FarTo z m f → Beside m b f x → lt_z x z ≡ lt_z m z
same-side z m x b f h k q = cases_z z m
    (λ i. let j = h i in make-lt-false x z (omega (arith, q.0)) ∙ sym (make-lt-false m z i))
    (λ i. let j = k i in make-lt-true x z (omega (arith, q.1)) ∙ sym (make-lt-true m z i))

same-counted : (left : Bool) (z m x : ℤ) (b f : ℕ) → BackTo z m b → FarTo z m f → Beside m b f x → counted left z x ≡ counted left z m
same-counted left z m x b f h k q = rw (same-side z m x b f h k q)

pub sorted-mono : {lo : Limit} (d : ℤ) (ns : List ℤ) (i j : ℕ) → i ≤ j → j < length ns → Sorted lo ns → get_or ns i d ⊑ get_or ns j d
sorted-mono d [] i j h k r = absurd (omega arith)
sorted-mono d (n ∷ ns) zero zero h k r = omega arith
sorted-mono d (n ∷ ns) zero (suc j) h k (sorted-cons o r) = sorted-get n d ns j (omega arith) r
sorted-mono d (n ∷ ns) (suc i) zero h k r = absurd (omega arith)
sorted-mono d (n ∷ ns) (suc i) (suc j) h k (sorted-cons o r) = sorted-mono d ns i j (omega arith) (omega arith) r

same_count : (m x : ℤ) (b f : ℕ) (ns : List ℤ) (n : ℕ) → nondecreasing ns ≡ true → n ≡ count_up_to m ns
    → (0 < n → BackTo (get_or ns (n - 1) (pos 0)) m b) → (n < length ns → FarTo (get_or ns n (pos 0)) m f) → Beside m b f x → count_up_to x ns ≡ n
same_count m x b f ns n s e h k q = let r = sorted ns s in let l = count-bound m ns in
    count-is x (pos 0) ns n (omega arith) r
    (λ i j. let p = get_or ns (n - 1) (pos 0) in
    let o : p ⊑ m = cases_z p m (λ g. g) (λ g. absurd (omega (arith, count-below m (pos 0) ns (n - 1) (omega arith) r g))) in
    omega (arith, q.0, h (omega arith) o, sorted-mono (pos 0) ns i (n - 1) (omega arith) (omega arith) r))
    (λ j. let p = get_or ns n (pos 0) in
    let o : m ⊏ p = cases_z p m (λ g. absurd (omega (arith, count-above m (pos 0) ns n j r g))) (λ g. g) in omega (arith, q.1, k j o))

module _ (left : Bool) (z : ℤ) (m : ℤ) (back far b f : ℕ) (a : Around back far b f) (h : BackTo z m b) (k : FarTo z m f) where
  -- a box that is counted, whose neighbours ns are its offset o further right and have ratings ws
  module _ (o : ℕ) (ns : List ℤ) (ws : List ℕ) (n b' f' : ℕ) (l : length ns ≡ length ws) (s : nondecreasing ns ≡ true) (e : n ≡ count_up_to (m +ℤ pos o) ns) (a' : Around b f b' f')
      (h' : 0 < n → BackTo (get_or ns (n - 1) (pos 0)) (m +ℤ pos o) b') (k' : n < length ns → FarTo (get_or ns n (pos 0)) (m +ℤ pos o) f') (t : counted left z m ≡ true) where
    is-counted : (x : ℤ) → Beside m b' f' x → counted left z x ≡ true
    is-counted x q = same-counted left z m x b' f' (λ i. omega (arith, h i, a'.left)) (λ i. omega (arith, k i, a'.right)) q ∙ t

    count-is-n : (x : ℤ) → Beside m b' f' x → count_up_to x (map (less o) ns) ≡ n
    count-is-n x q = let u = sum m (pos o) in let v = sum x (pos o) in
        count_less o x ns ∙ same_count (m +ℤ pos o) (x +ℤ pos o) b' f' ns n s e h' k' (omega (arith, q.0), omega (arith, q.1))

    rated-is-first : (x : ℤ) → Beside m b' f' x → rated_up_to x (leads_of (map (less o) ns) ws) ≡ total (take n ws)
    rated-is-first x q = rated-first x (map (less o) ns) ws n (nondecreasing-less o ns ∙ s) (length-map ns (less o) ∙ l) (count-is-n x q)

    pub box-counted : BoxCounts left z (leads_of (map (less o) ns) ws) m back far (total (take n ws)) (total ws - total (take n ws)) b' f'
    box-counted = record {
      around = around-more a a';
      ups = λ x q. rw (is-counted x q, rated-is-first x q);
      beyonds = λ x q. rw (is-counted x q, rated-is-first x q, total-leads (map (less o) ns) ws (omega (arith, length-map ns (less o))));
    }

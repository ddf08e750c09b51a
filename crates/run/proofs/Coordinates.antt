-- Between positions and run coordinates: the sum o of the distances before a box is taken from its positions, and put back.
-- A placement is a feasible list there, and the other way, at the same length. Assumes nothing.
use mathlib.Core.Path.{◌≡◌, refl, sym, ◌∙◌, ap, subst}
use mathlib.Core.Bool.{Bool, true, false, cond}
use mathlib.Core.List.{List, [], ◌∷◌, map}
use Prim.Native.Nat.{ℕ, suc, ◌+◌, ◌*◌}
use native.Mathlib.Omega.{arith}
use lib.ListN.{length}
use lib.Dec.{leb}
use lib.IntN.{ℤ, pos, ◌+ℤ◌, ◌-ℤ◌, nat_abs}
use Rattle.ints.specs.Ints.{P, N, gap}
use Rattle.ints.proofs.Laws.{sum, dif, eq-make, le-true, make-le-true}
use Rattle.run.specs.Run.{Bound, free, at, Lead, lead_positions, total_rating, Box, nondecreasing, neighbours_in_order, span, first_reaching, lower_middle, upper_middle, start_of}
use Rattle.run.specs.Words.{apart, is_placement, sideways, sideways_length}
use Rattle.run.specs.inner.Limits.{Above, Below, HasPlace}
use Rattle.run.proofs.Feasible.{below-down, Priced, AllConvex, all_nil, all_cons, total_cost, Feasible, nil, cons}
use Rattle.ints.proofs.Tests.{and_left, and_right, ◌and◌}
use Rattle.run.proofs.Sorted.{Sorted, sorted, sorted-less}
use Rattle.run.proofs.Rated.{positions-less, total-less}
use Rattle.run.specs.inner.Coordinates.{less, less_lead, less_box, in_run, add_offsets, left_limit, right_limit}
use Rattle.run.proofs.HalfDown.{half-less}
use Rattle.run.proofs.Median.{start-convex}

-- ---- boxes in run coordinates, and their costs

pub length-in_run : (o : ℕ) (bs : List Box) → length (in_run o bs) ≡ length bs
unfolding in_run
length-in_run o [] = refl
length-in_run o (b ∷ bs) = ap suc (length-in_run (o + b.dist) bs)

abbrev pub price : Box → Priced
price b = record { cost = sideways b.near; start = start_of b.old b.near }

unfoldable pub priced : ℕ → List Box → List Priced
priced o [] = []
priced o (b ∷ bs) = price (less_box o b) ∷ priced (o + b.dist) bs

pub priced-is : (o : ℕ) (bs : List Box) → priced o bs ≡ map price (in_run o bs)
unfolding priced in_run
priced-is o [] = refl
priced-is o (b ∷ bs) = ap (λ ps. price (less_box o b) ∷ ps) (priced-is (o + b.dist) bs)

pub length-priced : (o : ℕ) (bs : List Box) → length (priced o bs) ≡ length bs
unfolding priced
length-priced o [] = refl
length-priced o (b ∷ bs) = ap suc (length-priced (o + b.dist) bs)

pub convex-priced : (o : ℕ) (bs : List Box) → neighbours_in_order bs ≡ true → AllConvex (priced o bs)
unfolding neighbours_in_order priced
convex-priced o [] e = all_nil
convex-priced o (b ∷ bs) e = all_cons
    (start-convex (less o b.old) (map (less_lead o) b.near)
    (subst (λ xs. Sorted free xs) (sym (positions-less o b.near)) (sorted-less o {lo' = free} (λ n k. tt) (sorted (lead_positions b.near) (and_left _ _ e)))))
    (convex-priced (o + b.dist) bs (and_right (nondecreasing (lead_positions b.near)) _ e))

-- ---- positions into run coordinates, and back
unfoldable pub sub_offsets : ℕ → List Box → List ℤ → List ℤ
sub_offsets o [] xs = []
sub_offsets o (b ∷ bs) [] = []
sub_offsets o (b ∷ bs) (x ∷ xs) = less o x ∷ sub_offsets (o + b.dist) bs xs

pub back : (x : ℤ) (o : ℕ) → less o x +ℤ pos o ≡ x
back x o = eq-make _ _ (omega (arith, dif x (pos o), sum (less o x) (pos o)))

gap-less : (z n : ℤ) (o : ℕ) → gap (z +ℤ pos o) n ≡ gap z (less o n)
unfolding gap
gap-less z n o = let e : (z +ℤ pos o) -ℤ n ≡ z -ℤ less o n = eq-make _ _ (omega (arith, sum z (pos o), dif (z +ℤ pos o) n, dif n (pos o), dif z (less o n))) in ap nat_abs e

sideways-less : (ns : List Lead) (z : ℤ) (o : ℕ) → sideways ns (z +ℤ pos o) ≡ sideways (map (less_lead o) ns) z
unfolding sideways
sideways-less [] z o = refl
sideways-less (n ∷ ns) z o = omega (arith, ap (λ (g : ℕ). n.rating * g) (gap-less z n.at o), sideways-less ns z o)

cond-less : (c : Bool) (x y z : ℤ) (o : ℕ) → z ≡ less o y → cond c (less o x) z ≡ less o (cond c x y)
cond-less true x y z o e = refl
cond-less false x y z o e = e

reaching-less : (t a : ℕ) (old : ℤ) (ns : List Lead) (o : ℕ) → first_reaching t a (less o old) (map (less_lead o) ns) ≡ less o (first_reaching t a old ns)
unfolding first_reaching
reaching-less t a old [] o = refl
reaching-less t a old (n ∷ ns) o = let b = a + n.rating in
    cond-less (leb t (2 * b)) n.at (first_reaching t b old ns) (first_reaching t b (less o old) (map (less_lead o) ns)) o (reaching-less t b old ns o)

pub start-less : (old : ℤ) (ns : List Lead) (o : ℕ) → start_of (less o old) (map (less_lead o) ns) ≡ less o (start_of old ns)
unfolding start_of
start-less old ns o = rw (total-less o ns, reaching-less (total_rating ns) 0 old ns o, reaching-less (total_rating ns + 1) 0 old ns o) (half-less (lower_middle old ns) (upper_middle old ns) o)

pub cost-add : (o : ℕ) (bs : List Box) (zs : List ℤ) → sideways_length bs (add_offsets o bs zs) ≡ total_cost (priced o bs) zs
unfolding sideways_length add_offsets total_cost priced
cost-add o [] zs = refl
cost-add o (b ∷ bs) [] = refl
cost-add o (b ∷ bs) (z ∷ zs) = omega (arith, sideways-less b.near z o, cost-add (o + b.dist) bs zs)

pub cost-sub : (o : ℕ) (bs : List Box) (xs : List ℤ) → total_cost (priced o bs) (sub_offsets o bs xs) ≡ sideways_length bs xs
unfolding sideways_length sub_offsets total_cost priced
cost-sub o [] xs = refl
cost-sub o (b ∷ bs) [] = refl
cost-sub o (b ∷ bs) (x ∷ xs) = omega (arith, sideways-less b.near (less o x) o, ap (sideways b.near) (back x o), cost-sub (o + b.dist) bs xs)

-- ---- the bound B, o further right, is the bound b, d further right
abbrev pub Matches : Bound → ℕ → Bound → ℕ → Type 0
Matches free o free d = Unit {0}
Matches free o (at l) d = ⊥
Matches (at z) o free d = ⊥
Matches (at z) o (at l) d = P z + o + N l ≡ P l + d + N z

pub left-matches : (lb : Bound) (d : ℕ) → Matches (left_limit lb d) 0 lb d
left-matches free d = tt
left-matches (at l) d = omega (arith, sum l (pos d))

pub right-matches : (rb : Bound) (w : ℕ) → Matches (right_limit rb w) w rb 0
right-matches free w = tt
right-matches (at r) w = omega (arith, dif r (pos w))

pub matches-more : (B : Bound) (o : ℕ) (b : Bound) (d w : ℕ) → Matches B o b d → Matches B (o + w) b (d + w)
matches-more free o free d w e = tt
matches-more free o (at l) d w e = e
matches-more (at z) o free d w e = e
matches-more (at z) o (at l) d w e = omega arith

pub matches_eq : (B b : Bound) (d : ℕ) (o o' : ℕ) → o ≡ o' → Matches B o b d → Matches B o' b d
matches_eq B b d o o' e m = subst (λ w. Matches B w b d) e m

pub above_from : (L : Bound) (o : ℕ) (lb : Bound) (d : ℕ) (x : ℤ) → Matches L o lb d → apart lb d (at x) ≡ true → Above L (less o x)
above_from free o free d x m e = tt
above_from free o (at l) d x m e = absurd m
above_from (at z) o free d x m e = absurd m
above_from (at z) o (at l) d x m e = omega (arith, le-true (pos d) (x -ℤ l) e, dif x l, dif x (pos o))

above-to : (L : Bound) (o : ℕ) (lb : Bound) (d : ℕ) (z : ℤ) → Matches L o lb d → Above L z → apart lb d (at (z +ℤ pos o)) ≡ true
above-to free o free d z m a = refl
above-to free o (at l) d z m a = absurd m
above-to (at y) o free d z m a = absurd m
above-to (at y) o (at l) d z m a = make-le-true (pos d) ((z +ℤ pos o) -ℤ l) (omega (arith, sum z (pos o), dif (z +ℤ pos o) l))

-- the two bounds leave room for these distances
pub has-place-from : (L : Bound) (o : ℕ) (lb : Bound) (d : ℕ) (H rb : Bound) (w : ℕ) → Matches L o lb d → Matches H (o + w) rb 0 → apart lb (d + w) rb ≡ true → HasPlace L H
has-place-from free o lb d H rb w m k e = tt
has-place-from (at z) o free d H rb w m k e = absurd m
has-place-from (at z) o (at l) d free rb w m k e = tt
has-place-from (at z) o (at l) d (at h) free w m k e = absurd k
has-place-from (at z) o (at l) d (at h) (at r) w m k e = omega (arith, le-true (pos (d + w)) (r -ℤ l) e, dif r l)

has-place-to : (L : Bound) (o : ℕ) (lb : Bound) (d : ℕ) (H rb : Bound) (w : ℕ) → Matches L o lb d → Matches H (o + w) rb 0 → HasPlace L H → apart lb (d + w) rb ≡ true
has-place-to free o free d H rb w m k r = refl
has-place-to free o (at l) d H rb w m k r = absurd m
has-place-to (at z) o free d H rb w m k r = absurd m
has-place-to (at z) o (at l) d free free w m k r = refl
has-place-to (at z) o (at l) d free (at y) w m k r = absurd k
has-place-to (at z) o (at l) d (at h) free w m k r = absurd k
has-place-to (at z) o (at l) d (at h) (at y) w m k r = make-le-true (pos (d + w)) (y -ℤ l) (omega (arith, dif y l))

-- ---- a placement is feasible
below-from : (H rb : Bound) (o d : ℕ) (x : ℤ) (bs : List Box) (xs : List ℤ) → Matches H (o + (d + span bs)) rb 0 → is_placement (at x) d bs rb xs ≡ true → Below H (less o x)
unfolding is_placement span
below-from H rb o d x [] [] m e = has-place-from (at (less o x)) o (at x) 0 H rb (d + 0) (omega (arith, dif x (pos o))) m (ap (λ (w : ℕ). apart (at x) w rb) (omega arith) ∙ e)
below-from H rb o d x [] (y ∷ ys) m e = absurd (subst (λ (t : Bool). cond t ⊥ (Unit {0})) e tt)
below-from H rb o d x (b ∷ bs) [] m e = absurd (subst (λ (t : Bool). cond t ⊥ (Unit {0})) e tt)
below-from H rb o d x (b ∷ bs) (y ∷ ys) m e = below-down H (less o x) (less (o + d) y)
    (omega (arith, le-true (pos d) (y -ℤ x) (and_left _ _ e), dif y x, dif x (pos o), dif y (pos (o + d))))
    (below-from H rb (o + d) b.dist y bs ys (matches_eq H rb 0 _ _ (omega arith) m) (and_right (apart (at x) d (at y)) _ e))

pub to-feasible : (L H lb : Bound) (ld o : ℕ) (bs : List Box) (rb : Bound) (xs : List ℤ) → Matches L o lb ld → Matches H (o + span bs) rb 0
    → is_placement lb ld bs rb xs ≡ true → Feasible H L (priced o bs) (sub_offsets o bs xs)
unfolding is_placement span priced sub_offsets
to-feasible L H lb ld o [] rb [] m k e = nil
to-feasible L H lb ld o [] rb (x ∷ xs) m k e = nil
to-feasible L H lb ld o (b ∷ bs) rb [] m k e = absurd (subst (λ (t : Bool). cond t ⊥ (Unit {0})) e tt)
to-feasible L H lb ld o (b ∷ bs) rb (x ∷ xs) m k e = let f = and_right (apart lb ld (at x)) _ e in
    cons (above_from L o lb ld x m (and_left _ _ e)) (below-from H rb o b.dist x bs xs k f)
    (to-feasible (at (less o x)) H (at x) b.dist (o + b.dist) bs rb xs (omega (arith, dif x (pos o))) (matches_eq H rb 0 _ _ (omega arith) k) f)

-- ---- and the other way
pub from-feasible : (L H lb : Bound) (ld o : ℕ) (bs : List Box) (rb : Bound) (zs : List ℤ) → HasPlace L H → Matches L o lb ld → Matches H (o + span bs) rb 0
    → Feasible H L (priced o bs) zs → is_placement lb ld bs rb (add_offsets o bs zs) ≡ true
unfolding is_placement span priced add_offsets
from-feasible L H lb ld o [] rb zs r m k nil = ap (λ (w : ℕ). apart lb w rb) (omega arith) ∙ has-place-to L o lb ld H rb 0 m k r
from-feasible L H lb ld o (b ∷ bs) rb zs r m k (cons {x = z} {xs = zs'} a u f) = ◌and◌ (above-to L o lb ld z m a)
    (from-feasible (at z) H (at (z +ℤ pos o)) b.dist (o + b.dist) bs rb zs' u (omega (arith, sum z (pos o))) (matches_eq H rb 0 _ _ (omega arith) k) f)

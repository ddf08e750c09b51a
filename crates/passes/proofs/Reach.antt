-- How far place-run can go: where old positions, neighbours and bounds lie within ±M, its results lie within ±(M + T), T the sum of the
-- run's distances. In run coordinates a join never leaves what its halves span. Assumes nothing.
use mathlib.Core.Path.{◌≡◌}
use mathlib.Core.Bool.{true}
use mathlib.Core.List.{List, [], ◌∷◌, ◌++◌, map}
use Prim.Native.Nat.{ℕ, zero, suc, ◌+◌, ◌-◌, ◌≤◌, ◌/◌}
use native.Mathlib.Omega.{arith}
use lib.Dec.{ltb}
use lib.ListN.{length, get_or, take, drop}
use lib.IntN.{ℤ, pos, ◌+ℤ◌, ◌-ℤ◌}
use lib.Signed.{lt_z}
use Rattle.ints.specs.Ints.{P, N, ◌⊏◌}
use Rattle.ints.proofs.Laws.{sum, dif, apart, lt-false, if-ind, cases_z}
use Rattle.run.specs.Run.{Bound, free, at, Lead, lead_positions, Box, neighbours_in_order, span, half_down, start_of, first_of, last_of}
use Rattle.run.specs.Place.{place_run}
use Rattle.run.specs.Words.{is_possible}
use Rattle.run.specs.inner.Coordinates.{less, less_lead, add_offsets, left_limit, right_limit}
use Rattle.run.proofs.Feasible.{Priced, total_cost}
use Rattle.run.proofs.Exchange.{left_step, right_step}
use Rattle.run.proofs.JoinBest.{join_steps}
use Rattle.run.specs.inner.Limits.{clamp_high, clamp}
use Rattle.run.proofs.PlaceBest.{join_halves, place_halves}
use Rattle.run.proofs.HalfDown.{half_of, start-keeps}
use Rattle.run.proofs.Coordinates.{priced, start-less}
use Rattle.run.proofs.Optimal.{place-run-is}
use Rattle.plan.proofs.All.{All, all_nil, all_cons, all_map, all_append, all_take, all_drop}

-- from -B to A
pub record Lies (A B : ℕ) (z : ℤ) : Type 0 where
  pub right : P z ≤ A
  pub left : N z ≤ B

pub lies_more : {A B : ℕ} (A' B' : ℕ) → A ≤ A' → B ≤ B' → (z : ℤ) → Lies A B z → Lies A' B' z
lies_more A' B' h k z l = record { right = omega (arith, l.right); left = omega (arith, l.left) }

abbrev pub LiesBound : ℕ → ℕ → Bound → Type 0
LiesBound A B free = Unit {0}
LiesBound A B (at x) = Lies A B x

-- ---- one box
clamp-lies : (A B : ℕ) (L H : Bound) (z : ℤ) → LiesBound A B L → LiesBound A B H → Lies A B z → Lies A B (clamp L H z)
clamp-lies A B free free z l h k = k
clamp-lies A B free (at x) z l h k = if-ind (lt_z x z) x z (Lies A B) (λ t. h) (λ t. k)
clamp-lies A B (at y) free z l h k = if-ind (lt_z z y) y z (Lies A B) (λ t. l) (λ t. k)
clamp-lies A B (at y) (at x) z l h k = if-ind (lt_z z y) y z (λ w. Lies A B (clamp_high (at x) w))
    (λ t. if-ind (lt_z x y) x y (Lies A B) (λ u. h) (λ u. l)) (λ t. if-ind (lt_z x z) x z (Lies A B) (λ u. h) (λ u. k))

-- ---- one half step
left-lies : (A B : ℕ) (a b : ℤ) → b ⊏ a → Lies A B b → {xs : List ℤ} → All (Lies A B) xs → All (Lies A B) (left_step a xs)
unfolding left_step
left-lies A B a b h l all_nil = all_nil
left-lies A B a b h l (all_cons {x = x} k ks) = all_cons (if-ind (lt_z x a) x (x -ℤ pos 1) (Lies A B) (λ t. k)
    (λ t. let g = lt-false x a t in let y = x -ℤ pos 1 in record { right = omega (arith, dif x (pos 1), k.right); left = omega (arith, dif x (pos 1), apart (x -ℤ pos 1), l.left) })) (left-lies A B a b h l ks)

right-lies : (A B : ℕ) (a b : ℤ) → b ⊏ a → Lies A B a → {xs : List ℤ} → All (Lies A B) xs → All (Lies A B) (right_step b xs)
unfolding right_step
right-lies A B a b h l all_nil = all_nil
right-lies A B a b h l (all_cons {x = x} k ks) = all_cons (if-ind (lt_z b x) x (x +ℤ pos 1) (Lies A B) (λ t. k)
    (λ t. let g = lt-false b x t in record { right = omega (arith, sum x (pos 1), apart (x +ℤ pos 1), l.right); left = omega (arith, sum x (pos 1), k.left) })) (right-lies A B a b h l ks)

-- ---- the join
join-lies : (A B n : ℕ) (a b : ℤ) (cs bs : List Priced) (xs ys : List ℤ) → P a + N b ≡ P b + N a + n → Lies A B a → Lies A B b → All (Lies A B) xs → All (Lies A B) ys
    → All (Lies A B) (join_steps n a b cs bs xs ys)
unfolding join_steps
join-lies A B zero a b cs bs xs ys e la lb lx ly = all_append lx ly
join-lies A B (suc n) a b cs bs xs ys e la lb lx ly = let h : b ⊏ a = omega arith in
    if-ind (ltb (total_cost cs (left_step a xs) + total_cost bs ys) (total_cost cs xs + total_cost bs (right_step b ys)))
    (join_steps n (a -ℤ pos 1) b cs bs (left_step a xs) ys) (join_steps n a (b +ℤ pos 1) cs bs xs (right_step b ys)) (All (Lies A B))
    (λ t. join-lies A B n (a -ℤ pos 1) b cs bs (left_step a xs) ys (omega (arith, dif a (pos 1)))
    (record { right = omega (arith, dif a (pos 1), la.right); left = omega (arith, dif a (pos 1), apart (a -ℤ pos 1), lb.left) }) lb (left-lies A B a b h lb lx) ly)
    (λ t. join-lies A B n a (b +ℤ pos 1) cs bs xs (right_step b ys) (omega (arith, sum b (pos 1))) la
    (record { right = omega (arith, sum b (pos 1), apart (b +ℤ pos 1), la.right); left = omega (arith, sum b (pos 1), lb.left) }) lx (right-lies A B a b h la ly))

first-lies : (A B : ℕ) {xs : List ℤ} → All (Lies A B) xs → Lies A B (first_of xs)
unfolding first_of
first-lies A B all_nil = record { right = omega arith; left = omega arith }
first-lies A B (all_cons k ks) = k

last-lies : (A B : ℕ) (xs : List ℤ) → All (Lies A B) xs → Lies A B (last_of xs)
unfolding last_of
last-lies A B [] k = record { right = omega arith; left = omega arith }
last-lies A B (x ∷ []) (all_cons k ks) = k
last-lies A B (x ∷ y ∷ xs) (all_cons k ks) = last-lies A B (y ∷ xs) ks

none-join : (a b : ℤ) (cs bs : List Priced) (xs ys : List ℤ) (n : ℕ) → n ≡ 0 → join_steps n a b cs bs xs ys ≡ xs ++ ys
unfolding join_steps
none-join a b cs bs xs ys n e = rw e

halves-lie : (A B : ℕ) (cs bs : List Priced) (xs ys : List ℤ) → All (Lies A B) xs → All (Lies A B) ys → All (Lies A B) (join_halves cs bs xs ys)
halves-lie A B cs bs xs ys lx ly = let a = last_of xs in let b = first_of ys in cases_z a b
    (λ h. rw (none-join a b cs bs xs ys (P (a -ℤ b)) (omega (arith, dif a b, apart (a -ℤ b)))) (all_append lx ly))
    (λ h. join-lies A B (P (a -ℤ b)) a b cs bs xs ys (omega (arith, dif a b, apart (a -ℤ b))) (last-lies A B xs lx) (first-lies A B ly) lx ly)

-- ---- the run by halves
place-lies : (A B : ℕ) (L H : Bound) → LiesBound A B L → LiesBound A B H → (n : ℕ) (bs : List Priced) → All (λ b. Lies A B b.start) bs → All (Lies A B) (place_halves L H n bs)
unfolding place_halves
place-lies A B L H l h zero bs k = all_nil
place-lies A B L H l h (suc n) [] k = all_nil
place-lies A B L H l h (suc n) (b ∷ []) (all_cons k ks) = all_cons (clamp-lies A B L H b.start l h k) all_nil
place-lies A B L H l h (suc n) (b ∷ c ∷ bs) ks = let s = b ∷ c ∷ bs in let k = length s / 2 in
    halves-lie A B (take k s) (drop k s) (place_halves L H n (take k s)) (place_halves L H n (drop k s))
    (place-lies A B L H l h n (take k s) (all_take k ks)) (place-lies A B L H l h n (drop k s) (all_drop k ks))

-- ---- into run coordinates, and back
pub record BoxLies (M : ℕ) (b : Box) : Type 0 where
  pub old : Lies M M b.old
  pub near : All (Lies M M) (lead_positions b.near)

get-lies : (M : ℕ) (d : ℤ) {ns : List ℤ} (k : ℕ) → Lies M M d → All (Lies M M) ns → Lies M M (get_or ns k d)
get-lies M d k l all_nil = l
get-lies M d zero l (all_cons q qs) = q
get-lies M d (suc k) l (all_cons q qs) = get-lies M d k l qs

starts : (M : ℕ) (old : ℤ) (ns : List Lead) → Lies M M old → All (Lies M M) (lead_positions ns) → Lies M M (start_of old ns)
starts M old ns l k = start-keeps (Lies M M) halved old ns (λ i. get-lies M old i l k)
  where
    halved : (x y : ℤ) → Lies M M x → Lies M M y → Lies M M (half_down (x +ℤ y))
    halved x y p q = let s = sum x y in let h = half_of (x +ℤ y) in let a = apart (half_down (x +ℤ y)) in record { right = omega (arith, p.right, q.right); left = omega (arith, p.left, q.left) }

start-lies : (M S o : ℕ) (b : Box) → o ≤ S → BoxLies M b → Lies M (M + S) (start_of (less o b.old) (map (less_lead o) b.near))
start-lies M S o b h l = rw (start-less b.old b.near o) (lower (start_of b.old b.near) (starts M b.old b.near l.old l.near))
  where
    lower : (z : ℤ) → Lies M M z → Lies M (M + S) (less o z)
    lower z k = record { right = omega (arith, dif z (pos o), k.right); left = omega (arith, dif z (pos o), k.left) }

priced-lie : (M S o : ℕ) {bs : List Box} → o + span bs ≤ S → All (BoxLies M) bs → All (λ c. Lies M (M + S) c.start) (priced o bs)
unfolding priced span
priced-lie M S o h all_nil = all_nil
priced-lie M S o h (all_cons {x = b} l ls) = all_cons (start-lies M S o b (omega arith) l) (priced-lie M S (o + b.dist) (omega arith) ls)

offsets-lie : (A B S o : ℕ) (bs : List Box) {zs : List ℤ} → o + span bs ≤ S → All (Lies A B) zs → All (Lies (A + S) B) (add_offsets o bs zs)
unfolding add_offsets span
offsets-lie A B S o [] h ls = all_nil
offsets-lie A B S o (b ∷ bs) h all_nil = all_nil
offsets-lie A B S o (b ∷ bs) h (all_cons {x = z} l ls) =
    all_cons {x = z +ℤ pos o} (record { right = omega (arith, sum z (pos o), l.right); left = omega (arith, sum z (pos o), l.left) }) (offsets-lie A B S (o + b.dist) bs (omega arith) ls)

left-limit : (M ld S : ℕ) (lb : Bound) → LiesBound M M lb → LiesBound (M + ld) (M + S) (left_limit lb ld)
left-limit M ld S free l = tt
left-limit M ld S (at x) l = record { right = omega (arith, sum x (pos ld), l.right); left = omega (arith, sum x (pos ld), l.left) }

right-limit : (M ld S : ℕ) (rb : Bound) → LiesBound M M rb → LiesBound (M + ld) (M + S) (right_limit rb S)
right-limit M ld S free l = tt
right-limit M ld S (at x) l = record { right = omega (arith, dif x (pos S), l.right); left = omega (arith, dif x (pos S), l.left) }

-- ---- the law
pub run-reach : (M : ℕ) (lb : Bound) (ld : ℕ) (bs : List Box) (rb : Bound) → neighbours_in_order bs ≡ true → is_possible lb ld bs rb ≡ true
    → LiesBound M M lb → LiesBound M M rb → All (BoxLies M) bs → All (Lies (M + (ld + span bs)) (M + (ld + span bs))) (place_run lb ld bs rb)
run-reach M lb ld bs rb q e l h ks = let S = span bs in
    rw (place-run-is lb ld bs rb q e) (all_map (lies_more (M + (ld + S)) (M + (ld + S)) (omega arith) (omega arith))
    (offsets-lie (M + ld) (M + S) S 0 bs (omega arith) (place-lies (M + ld) (M + S) (left_limit lb ld) (right_limit rb S) (left-limit M ld S lb l) (right-limit M ld S rb h) (length bs) (priced 0 bs)
    (all_map (λ c k. lies_more (M + ld) (M + S) (omega arith) (omega arith) c.start k) (priced-lie M S 0 (omega arith) ks)))))

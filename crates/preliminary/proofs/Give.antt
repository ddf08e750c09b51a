-- Writing a number, or a mark, at every vertex of a strand, and counting the vertices with no mark. Assumes nothing.
use mathlib.Core.Path.{◌≡◌, refl, ◌∙◌, ap}
use mathlib.Core.Logic.{inl, inr}
use mathlib.Core.Bool.{Bool, true, false, true≢false}
use mathlib.Core.List.{List, [], ◌∷◌}
use Prim.Native.Nat.{ℕ, zero, suc, ◌+◌, ◌≤◌, ◌<◌}
use native.Mathlib.Omega.{arith}
use lib.Dec.{eqb}
use lib.ListN.{length, get_or, set, length-set, replicate}
use lib.Seq.{get_or-set_same, get_or-set_other}
use borrow.Author.Tests.{eqb-true, eqb-false}
use Rattle.plan.specs.Plan.{PlanData, vertex_count, level_of}
use Rattle.ints.specs.inner.Members.{Mem}
use Rattle.plan.proofs.Sound.{Sound}
use Rattle.preliminary.specs.Classes.{give}
use Rattle.preliminary.specs.Place.{mark_all}
use Rattle.preliminary.proofs.Strands.{top_of, strand_at, in-strand, strand-in, Descends, no_more, then}

-- by whether two numbers are equal
pub alike : (a b : ℕ) {G : Type 0} → (a ≡ b → G) → ((a ≡ b → ⊥) → G) → G
alike a b {G} f g = go (eqb a b) refl
  where
    go : (t : Bool) → eqb a b ≡ t → G
    go true e = f (eqb-true a b e)
    go false e = g (eqb-false a b e)

-- by a test
pub either : (b : Bool) {G : Type 0} → (b ≡ true → G) → (b ≡ false → G) → G
either true f g = f refl
either false f g = g refl

pub give-long : (c : ℕ) (vs xs : List ℕ) → length (give c vs xs) ≡ length xs
unfolding give
give-long c [] xs = refl
give-long c (v ∷ vs) xs = give-long c vs (set xs v c) ∙ length-set xs v c

set_keeps : {A : Type 0} (xs : List A) (v w : ℕ) (a d : A) → w < length xs → get_or xs w d ≡ a → get_or (set xs v a) w d ≡ a
set_keeps xs v w a d h e = alike w v (λ q. rw q (get_or-set_same xs v a d (omega arith))) (λ q. get_or-set_other xs v w a d q ∙ e)

give-keeps : (c w : ℕ) (vs xs : List ℕ) → w < length xs → get_or xs w 0 ≡ c → get_or (give c vs xs) w 0 ≡ c
unfolding give
give-keeps c w [] xs h e = e
give-keeps c w (v ∷ vs) xs h e = give-keeps c w vs (set xs v c) (omega (arith, length-set xs v c)) (set_keeps xs v w c 0 h e)

pub give-in : (c w : ℕ) (vs xs : List ℕ) → w < length xs → Mem w vs → get_or (give c vs xs) w 0 ≡ c
unfolding give
give-in c w [] xs h m = absurd m
give-in c w (v ∷ vs) xs h (inl e) = give-keeps c w vs (set xs v c) (omega (arith, length-set xs v c)) (rw e (get_or-set_same xs v c 0 (omega arith)))
give-in c w (v ∷ vs) xs h (inr m) = give-in c w vs (set xs v c) (omega (arith, length-set xs v c)) m

pub give-out : (c w : ℕ) (vs xs : List ℕ) → (Mem w vs → ⊥) → get_or (give c vs xs) w 0 ≡ get_or xs w 0
unfolding give
give-out c w [] xs f = refl
give-out c w (v ∷ vs) xs f = give-out c w vs (set xs v c) (λ m. f (inr m)) ∙ get_or-set_other xs v w c 0 (λ e. f (inl e))

-- the same of marks
pub mark-long : (vs : List ℕ) (bs : List Bool) → length (mark_all vs bs) ≡ length bs
unfolding mark_all
mark-long [] bs = refl
mark-long (v ∷ vs) bs = mark-long vs (set bs v true) ∙ length-set bs v true

pub mark-keeps : (w : ℕ) (vs : List ℕ) (bs : List Bool) → w < length bs → get_or bs w false ≡ true → get_or (mark_all vs bs) w false ≡ true
unfolding mark_all
mark-keeps w [] bs h e = e
mark-keeps w (v ∷ vs) bs h e = mark-keeps w vs (set bs v true) (omega (arith, length-set bs v true)) (set_keeps bs v w true false h e)

pub mark-in : (w : ℕ) (vs : List ℕ) (bs : List Bool) → w < length bs → Mem w vs → get_or (mark_all vs bs) w false ≡ true
unfolding mark_all
mark-in w [] bs h m = absurd m
mark-in w (v ∷ vs) bs h (inl e) = mark-keeps w vs (set bs v true) (omega (arith, length-set bs v true)) (rw e (get_or-set_same bs v true false (omega arith)))
mark-in w (v ∷ vs) bs h (inr m) = mark-in w vs (set bs v true) (omega (arith, length-set bs v true)) m

pub mark-out : (w : ℕ) (vs : List ℕ) (bs : List Bool) → (Mem w vs → ⊥) → get_or (mark_all vs bs) w false ≡ get_or bs w false
unfolding mark_all
mark-out w [] bs f = refl
mark-out w (v ∷ vs) bs f = mark-out w vs (set bs v true) (λ m. f (inr m)) ∙ get_or-set_other bs v w true false (λ e. f (inl e))

-- of a strand: at the vertices with its top and nowhere else
module _ (p : PlanData) (S : Sound p) (v : ℕ) (h : v < vertex_count p) where
  pub strand-given : (c w : ℕ) (xs : List ℕ) → length xs ≡ vertex_count p → w < vertex_count p → top_of p w ≡ top_of p v → get_or (give c (strand_at p v) xs) w 0 ≡ c
  strand-given c w xs l k e = give-in c w (strand_at p v) xs (omega arith) (in-strand p S v w k e)

  pub strand-kept : (c w : ℕ) (xs : List ℕ) → (top_of p w ≡ top_of p v → ⊥) → get_or (give c (strand_at p v) xs) w 0 ≡ get_or xs w 0
  strand-kept c w xs f = give-out c w (strand_at p v) xs (λ m. f (strand-in p S v w h m).1)

  pub strand-marked : (w : ℕ) (bs : List Bool) → length bs ≡ vertex_count p → w < vertex_count p → top_of p w ≡ top_of p v → get_or (mark_all (strand_at p v) bs) w false ≡ true
  strand-marked w bs l k e = mark-in w (strand_at p v) bs (omega arith) (in-strand p S v w k e)

  pub strand-unmarked : (w : ℕ) (bs : List Bool) → (top_of p w ≡ top_of p v → ⊥) → get_or (mark_all (strand_at p v) bs) w false ≡ get_or bs w false
  strand-unmarked w bs f = mark-out w (strand_at p v) bs (λ m. f (strand-in p S v w h m).1)

-- ---- how many vertices have no mark
unfoldable pub waiting : List Bool → ℕ
waiting [] = 0
waiting (true ∷ bs) = waiting bs
waiting (false ∷ bs) = suc (waiting bs)

pub waiting_none : (n : ℕ) → waiting (replicate n false) ≡ n
unfolding waiting
waiting_none zero = refl
waiting_none (suc n) = ap suc (waiting_none n)

waiting-set : (bs : List Bool) (v : ℕ) → v < length bs → get_or bs v false ≡ false → suc (waiting (set bs v true)) ≡ waiting bs
unfolding waiting
waiting-set [] v h e = absurd (omega arith)
waiting-set (true ∷ bs) zero h e = absurd (true≢false e)
waiting-set (false ∷ bs) zero h e = refl
waiting-set (true ∷ bs) (suc v) h e = waiting-set bs v (omega arith) e
waiting-set (false ∷ bs) (suc v) h e = ap suc (waiting-set bs v (omega arith) e)

descends-in : (p : PlanData) {k : ℕ} {vs : List ℕ} (w : ℕ) → Descends p k vs → Mem w vs → k ≤ level_of p w
descends-in p w no_more m = absurd m
descends-in p w (then h d) (inl e) = omega (arith, ap (level_of p) e)
descends-in p w (then h d) (inr m) = omega (arith, descends-in p w d m)

-- marking vertices of different levels, none marked before
pub mark-waiting : (p : PlanData) {k : ℕ} {vs : List ℕ} (bs : List Bool) → Descends p k vs → ((w : ℕ) → Mem w vs → (w < length bs) × (get_or bs w false ≡ false)) → waiting (mark_all vs bs) + length vs ≡ waiting bs
unfolding mark_all
mark-waiting p bs no_more f = omega arith
mark-waiting p bs (then {v = v} {vs = vs} h d) f =
    let a = f v (inl refl) in
    omega (
      arith,
      waiting-set bs v a.0 a.1,
      mark-waiting p (set bs v true) d (λ w m.
          (omega (arith, length-set bs v true, (f w (inr m)).0), get_or-set_other bs v w true false (λ e. omega (arith, descends-in p w d m, ap (level_of p) e)) ∙ (f w (inr m)).1)),
    )

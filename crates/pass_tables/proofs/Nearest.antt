-- The nearest joined vias that the tables hold are those of the definition of ready. Assumes nothing.
use Prim.Native.Nat.{ℕ, zero, suc, ◌+◌, ◌-◌, ◌<◌, ◌≤◌}
use mathlib.Core.Path.{◌≡◌, refl, sym, ◌∙◌, ap}
use mathlib.Core.List.{List, [], ◌∷◌}
use mathlib.Core.Option.{Option, none, some}
use native.Mathlib.Omega.{arith}
use borrow.Author.Tests.{eq-eqb, ne_eqb, le-leb, lt-leb, eqb-true}
use lib.Dec.{eqb, leb}
use Rattle.ints.proofs.Laws.{if-ind, cases}
use Rattle.plan.specs.Plan.{PlanData, is_via, numbers}
use Rattle.plan.proofs.CountLaws.{by-same}
use Rattle.passes.specs.Ready.{preceding, first_via, joined_via, nearest_left, nearest_right, or_else as or_other}
use Rattle.passes.proofs.Sound.{Sound, via-vertex}
use Rattle.pass_tables.proofs.JoinLaws.{last_none}
use Rattle.pass_tables.specs.inner.Joins.{or_none, or_else, last_in, first_in}

-- ---- or_else
pub else-none : (x : ℕ) → or_else x 2048 ≡ x
else-none x = if-ind (eqb x 2048) 2048 x (λ z. z ≡ x) (λ h. sym (eqb-true x 2048 h)) (λ h. refl)

pub else-assoc : (x y z : ℕ) → or_else (or_else x y) z ≡ or_else x (or_else y z)
else-assoc x y z = by-same x 2048
    (λ e. rw (eq-eqb x 2048 e))
    (λ e. rw (ne_eqb x 2048 e, ne_eqb x 2048 e))

-- the last of a stretch, from its left end
last-left : (f : ℕ → ℕ) (c m : ℕ) → last_in f c (suc m) ≡ or_else (last_in f (c + 1) m) (f c)
unfolding last_in
last-left f c zero = let e : c + 0 ≡ c = omega arith in ap (λ (v : ℕ). or_else (f v) 2048) e ∙ else-none (f c)
last-left f c (suc m) = let e : c + suc m ≡ c + 1 + m = omega arith in
    ap (λ (n : ℕ). or_else (f (c + suc m)) n) (last-left f c m)
    ∙ ap (λ (v : ℕ). or_else (f v) (or_else (last_in f (c + 1) m) (f c))) e
    ∙ sym (else-assoc (f (c + 1 + m)) (last_in f (c + 1) m) (f c))

-- ---- vertices have small numbers
abbrev Small : Option ℕ → Type 0
Small o = (w : ℕ) → o ≡ some w → w < 2048

none-small : Small none
none-small w e = let z : ◌≡◌ {A = ℕ} 0 1 = cc in absurd (omega arith)

or-else : (a b : Option ℕ) → Small a → or_none (or_other a b) ≡ or_else (or_none a) (or_none b)
or-else none b s = refl
or-else (some w) b s = rw (ne_eqb w 2048 (λ e. omega (arith, s w refl)))

or-small : (a b : Option ℕ) → Small a → Small b → Small (or_other a b)
or-small none b s t = t
or-small (some w) b s t = s

module _ {p : PlanData} (so : Sound p) (q : ℕ) where
  first_small : (ws : List ℕ) → Small (first_via p ws)
  unfolding first_via
  first_small [] = none-small
  first_small (w ∷ ws) = if-ind (is_via p w) (some w) (first_via p ws) Small
      (λ t v e. let z : w ≡ v = cc in omega (arith, via-vertex p w t, so.vertices))
      (λ t. first_small ws)

  joined_small : (v : ℕ) → Small (joined_via p q v)
  unfolding joined_via
  joined_small v = if-ind (is_via p v) (first_via p (preceding p q v)) none Small (λ t. first_small (preceding p q v)) (λ t. none-small)

  left-small : (b : ℕ) (vs : List ℕ) → Small (nearest_left p q b vs)
  unfolding nearest_left
  left-small b [] = none-small
  left-small b (v ∷ vs) = if-ind (leb v b) (or_other (nearest_left p q b vs) (joined_via p q v)) none Small
      (λ t. or-small (nearest_left p q b vs) (joined_via p q v) (left-small b vs) (joined_small v)) (λ t. none-small)

  left-past : (b c n : ℕ) → b < c → nearest_left p q b (numbers c n) ≡ none
  unfolding nearest_left numbers
  left-past b c zero h = refl
  left-past b c (suc n) h = rw (lt-leb c b h)

  module _ (f : ℕ → ℕ) (top : ℕ) (j : (v : ℕ) → v < top → or_none (joined_via p q v) ≡ f v) where
    pub left_is : (b c n : ℕ) → c + n ≤ top → c ≤ b → b < c + n → or_none (nearest_left p q b (numbers c n)) ≡ last_in f c (b + 1 - c)
    unfolding nearest_left numbers
    left_is b c zero t h k = absurd (omega arith)
    left_is b c (suc n) t h k =
        let m : b + 1 - c ≡ suc (b - c) = omega arith in
        rw (le-leb c b h) (or-else (nearest_left p q b (numbers (c + 1) n)) (joined_via p q c) (left-small b (numbers (c + 1) n))
        ∙ ap (λ (x : ℕ). or_else (or_none (nearest_left p q b (numbers (c + 1) n))) x) (j c (omega arith))
        ∙ ap (λ (x : ℕ). or_else x (f c)) (cases (c + 1) b
        (λ i. let s : b + 1 - (c + 1) ≡ b - c = omega arith in left_is b (c + 1) n (omega arith) i (omega arith) ∙ ap (last_in f (c + 1)) s)
        (λ i. let s : b - c ≡ 0 = omega arith in ap or_none (left-past b (c + 1) n i) ∙ sym (last_none f (c + 1) (b - c) s)))
        ∙ sym (last-left f c (b - c)) ∙ sym (ap (last_in f c) m))

    right-all : (b c n : ℕ) → c + n ≤ top → b ≤ c → or_none (nearest_right p q b (numbers c n)) ≡ first_in f c n
    unfolding nearest_right numbers first_in
    right-all b c zero t h = refl
    right-all b c (suc n) t h =
        rw (le-leb b c h) (or-else (joined_via p q c) (nearest_right p q b (numbers (c + 1) n)) (joined_small c)
        ∙ ap (λ (x : ℕ). or_else x (or_none (nearest_right p q b (numbers (c + 1) n)))) (j c (omega arith))
        ∙ ap (λ (x : ℕ). or_else (f c) x) (right-all b (c + 1) n (omega arith) (omega arith)))

    pub right_is : (b c n : ℕ) → c + n ≤ top → c ≤ b → b < c + n → or_none (nearest_right p q b (numbers c n)) ≡ first_in f b (c + n - b)
    unfolding nearest_right numbers
    right_is b c zero t h k = absurd (omega arith)
    right_is b c (suc n) t h k = cases b c
        (λ i. let e : b ≡ c = omega arith in let s : c + suc n - b ≡ suc n = omega arith in
        right-all b c (suc n) t i ∙ ap (λ (v : ℕ). first_in f v (suc n)) (sym e) ∙ ap (first_in f b) (sym s))
        (λ i. let s : c + 1 + n - b ≡ c + suc n - b = omega arith in
        rw (lt-leb b c i) (right_is b (c + 1) n (omega arith) (omega arith) (omega arith) ∙ ap (first_in f b) s))

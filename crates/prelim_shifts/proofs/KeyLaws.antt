-- Laws of the keys by which pairs and segments are linked for each class. Assumes nothing.
use Prim.Native.Nat.{ℕ, zero, suc, ◌+◌, ◌-◌, ◌<◌, ◌≤◌}
use mathlib.Core.Path.{◌≡◌, refl, sym, ◌∙◌, ap, subst}
use mathlib.Core.Bool.{true, cond}
use mathlib.Core.List.{List, [], ◌∷◌}
use native.Mathlib.Omega.{arith}
use borrow.Author.Tests.{eq-eqb, ne_eqb}
use lib.Dec.{ltb, eqb}
use lib.ListN.{length, get_or, set, replicate, length-replicate, get_or-replicate}
use Rattle.ints.proofs.Laws.{if-ind}
use Rattle.plan.proofs.CountLaws.{by-same}
use Rattle.prelim_classes.specs.inner.Links.{among, positions, Bucketed}
use Rattle.prelim_classes.proofs.ChainLaws.{among-more, among_none, never, Linking, linking-start, linking-next, linking-end}
use Rattle.prelim_shifts.specs.inner.Shifts.{gap_key, offset_key, keys_by}

-- ---- keys as a list
pub keys_long : (key : ℕ → ℕ → ℕ) (vs ws : List ℕ) → length ws ≡ length vs → length (keys_by key vs ws) ≡ length vs
unfolding keys_by
keys_long key [] ws e = refl
keys_long key (v ∷ vs) [] e = absurd (omega arith)
keys_long key (v ∷ vs) (w ∷ ws) e = ap suc (keys_long key vs ws (omega arith))

pub keys-at : (key : ℕ → ℕ → ℕ) (vs ws : List ℕ) (i : ℕ) → length ws ≡ length vs → i < length vs → get_or (keys_by key vs ws) i 0 ≡ key (get_or vs i 0) (get_or ws i 0)
unfolding keys_by
keys-at key [] ws i e h = absurd (omega arith)
keys-at key (v ∷ vs) [] i e h = absurd (omega arith)
keys-at key (v ∷ vs) (w ∷ ws) zero e h = refl
keys-at key (v ∷ vs) (w ∷ ws) (suc i) e h = keys-at key vs ws i (omega arith) (omega arith)

-- a loop that links the places of each key, from the last up
module _ (key : ℕ → ℕ → ℕ) (vs ws head link : List ℕ) (e : length ws ≡ length vs) (l : length link ≡ length vs) where
  pub keyed-start : length vs ≤ 2048 → ((c : ℕ) → c < length head → get_or head c 0 ≡ 2048) → Linking (keys_by key vs ws) head link (length vs)
  keyed-start h n =
      let k = keys_long key vs ws e in
      subst (λ (m : ℕ). Linking (keys_by key vs ws) head link m) k (linking-start (keys_by key vs ws) head link (l ∙ sym k) (omega arith) n)

  pub keyed-next : (i : ℕ) → 0 < i → i ≤ length vs → Linking (keys_by key vs ws) head link i → (k : ℕ) → k ≡ key (get_or vs (i - 1) 0) (get_or ws (i - 1) 0) → k < length head
      → (head' link' : List ℕ) → head' ≡ set head k (i - 1) → link' ≡ set link (i - 1) (get_or head k 0) → Linking (keys_by key vs ws) head' link' (i - 1)
  keyed-next i z h w k q b head' link' f g =
      let n = keys_long key vs ws e in
      linking-next (keys_by key vs ws) head link i z w k (omega arith) (l ∙ sym n) (q ∙ sym (keys-at key vs ws (i - 1) e (omega arith))) b head' link' f g

  pub keyed-end : Linking (keys_by key vs ws) head link 0 → Bucketed (keys_by key vs ws) head link
  keyed-end w = linking-end (keys_by key vs ws) head link w (l ∙ sym (keys_long key vs ws e))

-- where c is at a place, the key is c
pub record AtKey (c i k : ℕ) (ks : List ℕ) : Type 0 where
  pub from : i ≤ k
  pub below : k < i + length ks
  pub same : get_or ks (k - i) 0 ≡ c

pub positions-at : (c i : ℕ) (ks : List ℕ) (k : ℕ) → among k (positions c i ks) ≡ true → AtKey c i k ks
unfolding positions
positions-at c i [] k h = never (sym h ∙ among_none k)
positions-at c i (x ∷ ks) k h = by-same x c
    (λ s. by-same i k
    (λ q. let z : k - i ≡ 0 = omega arith in record { from = omega arith; below = omega arith; same = rw z s })
    (λ q. later (positions-at c (i + 1) ks k (sym (among-more k i (positions c (i + 1) ks) q) ∙ rw (eq-eqb x c s) at h))))
    (λ s. later (positions-at c (i + 1) ks k (rw (ne_eqb x c s) at h)))
  where
    later : AtKey c (i + 1) k ks → AtKey c i k (x ∷ ks)
    later a = let z : k - i ≡ suc (k - (i + 1)) = omega (arith, a.from) in record { from = omega (arith, a.from); below = omega (arith, a.below); same = rw z a.same }

-- ---- keys are classes
pub gap-key-small : (m : ℕ) (classes : List ℕ) → ((v : ℕ) → get_or classes v 0 ≤ m) → (v w : ℕ) → gap_key classes v w ≤ m
gap-key-small m classes h v w = if-ind (ltb w (length classes)) (cond (eqb (get_or classes w 0) (get_or classes v 0)) 0 (get_or classes v 0)) 0 (λ x. x ≤ m)
    (λ t. if-ind (eqb (get_or classes w 0) (get_or classes v 0)) 0 (get_or classes v 0) (λ x. x ≤ m) (λ q. omega arith) (λ q. h v)) (λ t. omega arith)

pub offset-key-small : (m : ℕ) (classes : List ℕ) → ((v : ℕ) → get_or classes v 0 ≤ m) → (a b : ℕ) → offset_key classes a b ≤ m
offset-key-small m classes h a b = if-ind (ltb (get_or classes b 0) (get_or classes a 0)) (get_or classes a 0) (cond (ltb (get_or classes a 0) (get_or classes b 0)) (get_or classes b 0) 0) (λ x. x ≤ m)
    (λ t. h a) (λ t. if-ind (ltb (get_or classes a 0) (get_or classes b 0)) (get_or classes b 0) 0 (λ x. x ≤ m) (λ q. h b) (λ q. omega arith))

pub heads-none : (head : List ℕ) → head ≡ replicate 65 2048 → (c : ℕ) → c < length head → get_or head c 0 ≡ 2048
heads-none head e c h = ap (λ (l : List ℕ). get_or l c 0) e ∙ get_or-replicate {A = ℕ} 65 c 2048 0 (omega (arith, ap length e, length-replicate {A = ℕ} 65 2048))

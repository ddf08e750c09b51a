-- Laws of chains, as a walk along one and a loop that links them meet them. Assumes nothing.
use Prim.Native.Nat.{ℕ, zero, suc, ◌+◌, ◌-◌, ◌<◌, ◌≤◌}
use mathlib.Core.Path.{◌≡◌, refl, sym, ◌∙◌, ap, subst}
use mathlib.Core.Bool.{Bool, true, false}
use mathlib.Core.List.{List, [], ◌∷◌}
use native.Mathlib.Omega.{arith}
use native.Mathlib.Numerals.{add-one}
use borrow.Author.Tests.{lt-ltb, le-ltb, eq-eqb, ne_eqb}
use lib.ListN.{length, get_or, set, drop, length-set, drop_of_length-le}
use lib.Seq.{drop-cons, get_or-set_same, get_or-set_other}
use Rattle.std.specs.List.{fold}
use Rattle.ints.proofs.Laws.{cases}
use Rattle.plan.proofs.CountLaws.{by-same}
use Rattle.prelim_classes.specs.inner.Links.{along, chain, RisingFrom, Rising, among, positions, Bucketed}

-- by a test
pub by-test : (b : Bool) {G : Type 0} → (b ≡ true → G) → (b ≡ false → G) → G
by-test true f g = f refl
by-test false f g = g refl

module _ (link : List ℕ) where
  pub along-end : (f v : ℕ) → length link ≤ v → along link f v ≡ []
  unfolding along
  along-end zero v h = refl
  along-end (suc f) v h = rw (le-ltb v (length link) h)

  pub along-on : (f v : ℕ) → v < length link → along link (suc f) v ≡ v ∷ along link f (get_or link v 0)
  unfolding along
  along-on f v h = rw (lt-ltb v (length link) h)

  -- where links rise, a chain is whole once as many numbers are allowed as are left
  pub along-enough : (i : ℕ) → RisingFrom i link → (f g v : ℕ) → i ≤ v → length link ≤ f + v → length link ≤ g + v → along link f v ≡ along link g v
  along-enough i r zero g v m h k = let e : length link ≤ v = omega arith in along-end zero v e ∙ sym (along-end g v e)
  along-enough i r (suc f) zero v m h k = let e : length link ≤ v = omega arith in along-end (suc f) v e ∙ sym (along-end zero v e)
  along-enough i r (suc f) (suc g) v m h k = cases (length link) v
      (λ e. along-end (suc f) v e ∙ sym (along-end (suc g) v e))
      (λ e. let u = r.rises v m e in
      along-on f v e ∙ ap (λ (l : List ℕ). v ∷ l) (along-enough i r f g (get_or link v 0) (omega arith) (omega arith) (omega arith)) ∙ sym (along-on g v e))

  pub chain-on : (i : ℕ) → RisingFrom i link → (v : ℕ) → i ≤ v → v < length link → chain link v ≡ v ∷ chain link (get_or link v 0)
  chain-on i r v m h =
      let u = r.rises v m h in
      along-enough i r (length link) (suc (length link)) v m (omega arith) (omega arith) ∙ along-on (length link) v h

-- a link that stands before a chain is none of its own
pub along-set : (link : List ℕ) (j x : ℕ) → RisingFrom (j + 1) link → (f v : ℕ) → j < v → along (set link j x) f v ≡ along link f v
unfolding along
along-set link j x r zero v h = refl
along-set link j x r (suc f) v h = cases (length link) v
    (λ e. along-end (set link j x) (suc f) v (rw length-set e) ∙ sym (along-end link (suc f) v e))
    (λ e. let u = r.rises v (omega arith) e in
    along-on (set link j x) f v (rw length-set e)
    ∙ ap (λ (l : List ℕ). v ∷ l) (ap (along (set link j x) f) (get_or-set_other link j v x 0 (λ q. omega arith)) ∙ along-set link j x r f (get_or link v 0) (omega arith))
    ∙ sym (along-on link f v e))

-- ---- members
pub among-here : (v : ℕ) (ws : List ℕ) → among v (v ∷ ws) ≡ true
unfolding among
among-here v ws = rw (eq-eqb v v refl)

pub among-more : (v w : ℕ) (ws : List ℕ) → (w ≡ v → ⊥) → among v (w ∷ ws) ≡ among v ws
unfolding among
among-more v w ws h = rw (ne_eqb w v h)

pub among_none : (v : ℕ) → among v [] ≡ false
unfolding among
among_none v = refl

pub never : {G : Type 0} → true ≡ false → G
never e = let z : ◌≡◌ {A = ℕ} 0 1 = cc in absurd (omega arith)

pub among_later : (v w : ℕ) (ws : List ℕ) → among v ws ≡ true → among v (w ∷ ws) ≡ true
among_later v w ws h = by-same w v (λ e. ap (λ (x : ℕ). among v (x ∷ ws)) e ∙ among-here v ws) (λ e. among-more v w ws e ∙ h)

-- a chain's members are indices, none before its first
pub record Inside (v w n : ℕ) : Type 0 where
  pub from : v ≤ w
  pub below : w < n

pub along-inside : (next : List ℕ) → Rising next → (f v w : ℕ) → among w (along next f v) ≡ true → Inside v w (length next)
unfolding along
along-inside next r zero v w h = never (sym h ∙ among_none w)
along-inside next r (suc f) v w h = cases (length next) v
    (λ e. never (sym h ∙ ap (among w) (along-end next (suc f) v e) ∙ among_none w))
    (λ e. by-same v w (λ s. record { from = omega arith; below = omega arith })
    (λ s. let i = along-inside next r f (get_or next v 0) w (sym (among-more w v (along next f (get_or next v 0)) s) ∙ sym (ap (among w) (along-on next f v e)) ∙ h) in
    let u = r.rises v (omega arith) e in record { from = omega (arith, i.from); below = i.below }))

-- ---- walks
module _ {B : Type 0} (f : B → ℕ → B) (next : List ℕ) (r : Rising next) (v : ℕ) (a b : B) (e : fold f a (chain next v) ≡ b) where
  pub walk-on : v < length next → fold f (f a v) (chain next (get_or next v 0)) ≡ b
  walk-on h = rw (chain-on next 0 r v (omega arith) h) at e

  pub walk-end : length next ≤ v → a ≡ b
  walk-end h = rw (along-end next (length next) v h) at e

pub other-above : (i v : ℕ) → i ≤ v → (v ≡ i → ⊥) → i + 1 ≤ v
other-above i v m s = cases v i (λ h. absurd (s (omega arith))) (λ h. omega arith)

-- ---- positions, from the last key up
module _ (c : ℕ) (keys : List ℕ) (i : ℕ) where
  pub positions-end : length keys ≤ i → positions c i (drop i keys) ≡ []
  unfolding positions
  positions-end h = rw (drop_of_length-le keys h)

  pub positions-here : i < length keys → get_or keys i 0 ≡ c → positions c i (drop i keys) ≡ i ∷ positions c (i + 1) (drop (i + 1) keys)
  unfolding positions
  positions-here h e = rw (drop-cons keys i 0 h, eq-eqb _ _ e) (ap (λ (n : ℕ). i ∷ positions c (i + 1) (drop n keys)) (sym (add-one i)))

  pub positions-other : i < length keys → (get_or keys i 0 ≡ c → ⊥) → positions c i (drop i keys) ≡ positions c (i + 1) (drop (i + 1) keys)
  unfolding positions
  positions-other h e = rw (drop-cons keys i 0 h, ne_eqb _ _ e) (ap (λ (n : ℕ). positions c (i + 1) (drop n keys)) (sym (add-one i)))

-- a loop that links the places from i on
pub record Linking (keys head link : List ℕ) (i : ℕ) : Type 0 where
  pub rising : RisingFrom i link
  pub starts : (c : ℕ) → c < length head → i ≤ get_or head c 0
  pub each : (c : ℕ) → c < length head → chain link (get_or head c 0) ≡ positions c i (drop i keys)

module _ (keys head link : List ℕ) where
  pub linking-start : length link ≡ length keys → length keys ≤ 2048 → ((c : ℕ) → c < length head → get_or head c 0 ≡ 2048) → Linking keys head link (length keys)
  linking-start e h n = record {
    rising = record { rises = λ v a b. absurd (omega arith) };
    starts = λ c k. omega (arith, n c k);
    each = λ c k. along-end link (length link) (get_or head c 0) (omega (arith, n c k)) ∙ sym (positions-end c keys (length keys) (omega arith));
  }

  module _ (i : ℕ) (w : Linking keys head link (i + 1)) where
    pub linking-on : (k : ℕ) → i < length keys → length link ≡ length keys → k ≡ get_or keys i 0 → k < length head
        → Linking keys (set head k i) (set link i (get_or head k 0)) i
    linking-on k h e q b =
        let link' = set link i (get_or head k 0) in
        let up : RisingFrom i link' = record {
          rises = λ v m n. let n' : v < length link = rw length-set at n in by-same v i
              (λ s. rw s (rw (get_or-set_same link i (get_or head k 0) 0 (omega arith)) (omega (arith, w.starts k b))))
              (λ s. rw (get_or-set_other link i v (get_or head k 0) 0 s) (w.rising.rises v (other-above i v m s) n'));
        } in
        record {
          rising = up;
          starts = λ c n. let n' : c < length head = rw length-set at n in by-same c k
              (λ s. rw s (rw (get_or-set_same head k i 0 b) (omega arith)))
              (λ s. rw (get_or-set_other head k c i 0 s) (omega (arith, w.starts c n')));
          each = λ c n. let n' : c < length head = rw length-set at n in by-same c k
              (λ s. ap (λ (a : ℕ). chain link' (get_or (set head k i) a 0)) s ∙ ap (chain link') (get_or-set_same head k i 0 b)
              ∙ chain-on link' i up i (omega arith) (rw length-set (omega arith))
              ∙ ap (λ (l : List ℕ). i ∷ l) (ap (chain link') (get_or-set_same link i (get_or head k 0) 0 (omega arith))
              ∙ ap (λ (f : ℕ). along link' f (get_or head k 0)) (length-set link i (get_or head k 0))
              ∙ along-set link i (get_or head k 0) w.rising (length link) (get_or head k 0) (omega (arith, w.starts k b))
              ∙ w.each k b)
              ∙ sym (positions-here c keys i h (sym q ∙ sym s) ∙ ap (λ (a : ℕ). i ∷ positions a (i + 1) (drop (i + 1) keys)) s))
              (λ s. ap (chain link') (get_or-set_other head k c i 0 s)
              ∙ ap (λ (f : ℕ). along link' f (get_or head c 0)) (length-set link i (get_or head k 0))
              ∙ along-set link i (get_or head k 0) w.rising (length link) (get_or head c 0) (omega (arith, w.starts c n'))
              ∙ w.each c n' ∙ sym (positions-other c keys i h (λ z. s (sym z ∙ sym q))));
        }

  -- a turn of that loop
  pub linking-next : (i : ℕ) → 0 < i → Linking keys head link i → (k : ℕ) → i ≤ length keys → length link ≡ length keys → k ≡ get_or keys (i - 1) 0 → k < length head
      → (head' link' : List ℕ) → head' ≡ set head k (i - 1) → link' ≡ set link (i - 1) (get_or head k 0) → Linking keys head' link' (i - 1)
  linking-next i z w k h e q b head' link' f g =
      let s : i ≡ i - 1 + 1 = omega arith in
      rw (f, g) (linking-on (i - 1) (subst (λ (n : ℕ). Linking keys head link n) s w) k (omega arith) e q b)

  pub linking-end : Linking keys head link 0 → length link ≡ length keys → Bucketed keys head link
  linking-end w e = record { long = e; rising = w.rising; each = λ c h. w.each c h }

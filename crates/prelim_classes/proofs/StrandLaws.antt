-- Strands as chains: where each via is linked to the one below it and to the one above it, following the links down from the
-- topmost vertex gives the strand, each vertex is in its own, and its members have one topmost vertex. Assumes nothing.
use Prim.Native.Nat.{ℕ, zero, suc, ◌+◌, ◌<◌, ◌≤◌}
use mathlib.Core.Path.{◌≡◌, refl, sym, ◌∙◌, ap}
use mathlib.Core.Bool.{true}
use mathlib.Core.List.{List, []}
use native.Mathlib.Omega.{arith}
use lib.ListN.{length, get_or}
use Rattle.ints.proofs.Laws.{cases}
use Rattle.plan.proofs.CountLaws.{by-same}
use Rattle.prelim_classes.specs.inner.Links.{along, chain, Rising, among}
use Rattle.prelim_classes.specs.inner.Strands.{Strung, Tops}
use Rattle.prelim_classes.proofs.ChainLaws.{along-end, along-on, chain-on, among-here, among-more, among_none, among_later, never}

along-zero : (link : List ℕ) (a : ℕ) → along link zero a ≡ []
unfolding along
along-zero link a = refl

first_in : (next : List ℕ) (f b : ℕ) → b < length next → length next ≤ f + b → among b (along next f b) ≡ true
first_in next zero b k e = absurd (omega arith)
first_in next (suc f) b k e = ap (among b) (along-on next f b k) ∙ among-here b (along next f (get_or next b 0))

-- links down and up that are each other's inverse; a number that is no index is none
pub record Mutual (next prev : List ℕ) : Type 0 where
  pub long : length prev ≡ length next
  pub rising : Rising next
  pub falls : (v : ℕ) → v < length next → get_or prev v 0 < length next → get_or prev v 0 < v
  pub back : (v : ℕ) → v < length next → get_or next v 0 < length next → get_or prev (get_or next v 0) 0 ≡ v
  pub forth : (v : ℕ) → v < length next → get_or prev v 0 < length next → get_or next (get_or prev v 0) 0 ≡ v

module _ (next prev top : List ℕ) (m : Mutual next prev) (t : Tops prev top) where
  -- v is linked from above exactly if the link leads to a lower number
  module _ (v : ℕ) (h : v < length next) where
    top-more : get_or prev v 0 < length next → get_or top v 0 ≡ get_or top (get_or prev v 0) 0
    top-more k = t.more v (omega (arith, m.long)) (m.falls v h k)

    top-first : length next ≤ get_or prev v 0 → get_or top v 0 ≡ v
    top-first k = t.first v (omega (arith, m.long)) (omega arith)

  -- by numbers: all below n
  tops-below : (n v : ℕ) → v < n → v < length next → get_or top v 0 < length next
  tops-below zero v k h = absurd (omega arith)
  tops-below (suc n) v k h = cases (length next) (get_or prev v 0)
      (λ o. rw (top-first v h o) h)
      (λ o. let f = m.falls v h o in rw (top-more v h o) (tops-below n (get_or prev v 0) (omega arith) o))

  -- the topmost vertex is its own
  top-top : (n v : ℕ) → v < n → v < length next → get_or top (get_or top v 0) 0 ≡ get_or top v 0
  top-top zero v k h = absurd (omega arith)
  top-top (suc n) v k h = cases (length next) (get_or prev v 0)
      (λ o. ap (λ (x : ℕ). get_or top x 0) (top-first v h o))
      (λ o. let f = m.falls v h o in ap (λ (x : ℕ). get_or top x 0) (top-more v h o) ∙ top-top n (get_or prev v 0) (omega arith) o ∙ sym (top-more v h o))

  -- a chain that has u has what follows u
  follows : (f a u : ℕ) → length next ≤ f + a → among u (along next f a) ≡ true → get_or next u 0 < length next → among (get_or next u 0) (along next f a) ≡ true
  unfolding along
  follows zero a u e h k = never (sym h ∙ ap (among u) (along-zero next a) ∙ among_none u)
  follows (suc f) a u e h k = cases (length next) a
      (λ o. never (sym h ∙ ap (among u) (along-end next (suc f) a o) ∙ among_none u))
      (λ o. let r = m.rising.rises a (omega arith) o in
      let on = along-on next f a o in
      by-same a u
      (λ s. let b : get_or next a 0 < length next = rw (sym s) at k in
      ap (λ (x : ℕ). among (get_or next x 0) (along next (suc f) a)) (sym s) ∙ ap (among (get_or next a 0)) on
      ∙ among_later (get_or next a 0) a (along next f (get_or next a 0)) (first_in next f (get_or next a 0) b (omega arith)))
      (λ s. ap (among (get_or next u 0)) on ∙ among_later (get_or next u 0) a (along next f (get_or next a 0))
      (follows f (get_or next a 0) u (omega arith) (sym (among-more u a (along next f (get_or next a 0)) s) ∙ ap (among u) (sym on) ∙ h) k)))

  -- each vertex is in the chain from its topmost
  own : (n v : ℕ) → v < n → v < length next → among v (chain next (get_or top v 0)) ≡ true
  own zero v k h = absurd (omega arith)
  own (suc n) v k h = cases (length next) (get_or prev v 0)
      (λ o. ap (λ (x : ℕ). among v (chain next x)) (top-first v h o) ∙ ap (among v) (chain-on next 0 m.rising v (omega arith) h) ∙ among-here v (chain next (get_or next v 0)))
      (λ o. let f = m.falls v h o in
      let e = m.forth v h o in
      let u = get_or prev v 0 in
      ap (λ (x : ℕ). among v (chain next x)) (top-more v h o) ∙ ap (λ (x : ℕ). among x (chain next (get_or top u 0))) (sym e)
      ∙ follows (length next) (get_or top u 0) u (omega arith) (own n u (omega arith) o) (rw e h))

  -- along a chain the topmost vertex stays the same
  same-top : (f a w : ℕ) → a < length next → among w (along next f a) ≡ true → get_or top w 0 ≡ get_or top a 0
  same-top zero a w h k = never (sym k ∙ ap (among w) (along-zero next a) ∙ among_none w)
  same-top (suc f) a w h k =
      let on = along-on next f a h in
      by-same a w
      (λ s. ap (λ (x : ℕ). get_or top x 0) (sym s))
      (λ s. let q = sym (among-more w a (along next f (get_or next a 0)) s) ∙ ap (among w) (sym on) ∙ k in
      cases (length next) (get_or next a 0)
      (λ o. never (sym q ∙ ap (among w) (along-end next f (get_or next a 0) o) ∙ among_none w))
      (λ o. let b = m.back a h o in
      same-top f (get_or next a 0) w o q ∙ top-more (get_or next a 0) o (rw b h) ∙ ap (λ (x : ℕ). get_or top x 0) b))

  pub strung : Strung next top
  strung = record {
    long = t.long ∙ m.long;
    rising = m.rising;
    tops = λ v h. tops-below (suc v) v (omega arith) h;
    own = λ v h. own (suc v) v (omega arith) h;
    same = λ v w h k. same-top (length next) (get_or top v 0) w (tops-below (suc v) v (omega arith) h) k ∙ top-top (suc v) v (omega arith) h;
  }

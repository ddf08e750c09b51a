-- Laws of loops that collect what stands at the places of a chain. Assumes nothing.
use Prim.Native.Nat.{ℕ, zero, suc, ◌+◌, ◌<◌, ◌≤◌}
use mathlib.Core.Path.{◌≡◌, refl, sym, ◌∙◌, ap}
use mathlib.Core.Bool.{true}
use mathlib.Core.List.{List, [], ◌∷◌, map}
use native.Mathlib.Omega.{arith}
use lib.ListN.{length, get_or, set, take, drop, length-drop, drop_of_length-le}
use lib.Seq.{get_or-drop, take_all, drop-drop}
use lib.IntN.{ℤ}
use Rattle.ints.specs.Lists.{over}
use Rattle.ints.proofs.Laws.{cases}
use Rattle.ints.proofs.Lists.{over-map}
use Rattle.prelim_classes.specs.inner.Links.{along, chain, Rising, among}
use Rattle.prelim_classes.proofs.ChainLaws.{along-end, along-on, chain-on, among-here, among_later}

along-short : (link : List ℕ) (f v : ℕ) → length (along link f v) ≤ f
unfolding along
along-short link zero v = omega arith
along-short link (suc f) v = cases (length link) v
    (λ h. rw (along-end link (suc f) v h) (omega arith))
    (λ h. rw (along-on link f v h) (omega (arith, along-short link f (get_or link v 0))))

pub chain-short : (link : List ℕ) (v : ℕ) → length (chain link v) ≤ length link
chain-short link v = along-short link (length link) v

among-drop : (v s : ℕ) (xs : List ℕ) → among v (drop s xs) ≡ true → among v xs ≡ true
among-drop v zero xs h = h
among-drop v (suc s) [] h = h
among-drop v (suc s) (x ∷ xs) h = among_later v x xs (among-drop v s xs h)

-- s of them are collected, and the chain goes on at i
pub record Collecting (f : ℕ → ℤ) (link : List ℕ) (first s i : ℕ) (out out₀ : List ℤ) : Type 0 where
  pub few : s ≤ length (chain link first)
  pub ahead : drop s (chain link first) ≡ chain link i
  pub done : out ≡ over (map f (take s (chain link first))) out₀

pub collect-start : (f : ℕ → ℤ) (link : List ℕ) (first : ℕ) (out : List ℤ) → Collecting f link first 0 first out out
collect-start f link first out = record { few = omega arith; ahead = refl; done = refl }

module _ (f : ℕ → ℤ) (link : List ℕ) (first s i : ℕ) (out out₀ : List ℤ) (r : Rising link) (w : Collecting f link first s i out out₀) where
  module _ (h : i < length link) where
    here : drop s (chain link first) ≡ i ∷ chain link (get_or link i 0)
    here = w.ahead ∙ chain-on link 0 r i (omega arith) h

    pub collect-less : s < length (chain link first)
    collect-less = cases (length (chain link first)) s
        (λ k. absurd (omega (arith, ap length (sym here ∙ drop_of_length-le (chain link first) k))))
        (λ k. k)

    pub collect-room : length link ≤ length out₀ → s < length out₀
    collect-room k = omega (arith, collect-less, chain-short link first)

    at-s : get_or (chain link first) s 0 ≡ i
    at-s = ap (λ (x : ℕ). get_or (chain link first) x 0) (omega arith) ∙ sym (get_or-drop s (chain link first) 0 0) ∙ ap (λ (l : List ℕ). get_or l 0 0) here

    pub collect-member : among i (chain link first) ≡ true
    collect-member = among-drop i s (chain link first) (ap (among i) here ∙ among-here i (chain link (get_or link i 0)))

    pub collect-on : length link ≤ length out₀ → (x : ℤ) → x ≡ f i → Collecting f link first (s + 1) (get_or link i 0) (set out s x) out₀
    collect-on k x e = record {
      few = omega (arith, collect-less);
      ahead = sym (drop-drop 1 s (chain link first)) ∙ ap (drop 1) here;
      done = ap (λ (l : List ℤ). set l s x) w.done ∙ ap (set (over (map f (take s (chain link first))) out₀) s) (e ∙ ap f (sym at-s))
          ∙ over-map f (chain link first) out₀ s 0 collect-less (collect-room k);
    }

  module _ (h : length link ≤ i) where
    pub collect-count : s ≡ length (chain link first)
    collect-count = omega (arith, w.few, length-drop s (chain link first), ap length (w.ahead ∙ along-end link (length link) i h))

    pub collect-end : out ≡ over (map f (chain link first)) out₀
    collect-end = w.done ∙ ap (λ (l : List ℕ). over (map f l) out₀) (take_all s (chain link first) (omega (arith, collect-count)))

-- A loop that follows `many`: what it has found so far, where it stands, and what the rule still finds from there on.
use mathlib.Core.Path.{◌≡◌, refl, sym, ◌∙◌, ap}
use mathlib.Core.List.{List, [], ◌∷◌, ◌++◌, append_assoc, append-nil}
use Prim.Native.Nat.{ℕ, zero, suc, ◌+◌, ◌-◌, ◌≤◌, ◌<◌}
use native.Mathlib.Omega.{arith}
use lib.ListN.{length, drop, length-append}
use Rattle.text.specs.Parser.{Got, got, nothing, Rule, then, many}

-- xs before what a repetition finds
abbrev pub after : {A : Type 0} → List A → Got (List A) → Got (List A)
after xs g = then g (λ l u. got (xs ++ l) u)

after_none : {A : Type 0} (g : Got (List A)) → after [] g ≡ g
after_none (got l s) = refl
after_none nothing = refl

after_more : {A : Type 0} (xs : List A) (a : A) (g : Got (List A)) → after xs (then g (λ l u. got (a ∷ l) u)) ≡ after (xs ++ a ∷ []) g
after_more xs a (got l s) = rw append_assoc
after_more xs a nothing = refl

module _ {A : Type 0} (r : Rule A) where
  pub many-done : (n : ℕ) (s : List ℕ) → r s ≡ nothing → many n r s ≡ got [] s
  unfolding many
  many-done zero s e = refl
  many-done (suc n) s e = rw e

  pub many_more : (n : ℕ) (s t : List ℕ) (a : A) → 0 < n → r s ≡ got a t → many n r s ≡ then (many (n - 1) r t) (λ l u. got (a ∷ l) u)
  unfolding many
  many_more zero s t a h e = absurd (omega arith)
  many_more (suc n) s t a h e = let k : suc n - 1 ≡ n = omega arith in rw (e, k)

-- From `from` on the rule has found xs, count of them, and stands at `at`.
pub record Reached {A : Type 0} (r : Rule A) (n : ℕ) (s : List ℕ) (from count at : ℕ) (xs : List A) : Type 0 where
  pub gives : many n r (drop from s) ≡ after xs (many (n - count) r (drop at s))
  pub counted : count ≡ length xs
  pub onward : from + count ≤ at
  pub inside : at ≤ length s

module _ {A : Type 0} (r : Rule A) (n : ℕ) (s : List ℕ) (from : ℕ) where
  pub reached-none : from ≤ length s → Reached r n s from 0 from []
  reached-none h = let e : n - 0 ≡ n = omega arith in
      record { gives = rw e (sym (after_none (many n r (drop from s)))); counted = refl; onward = omega arith; inside = h }

  -- each turn takes a byte at least, so n turns are enough
  pub reached-more : (count at next : ℕ) (xs : List A) (a : A) → length s ≤ n → Reached r n s from count at xs
      → r (drop at s) ≡ got a (drop next s) → at < next → next ≤ length s → Reached r n s from (count + 1) next (xs ++ a ∷ [])
  reached-more count at next xs a l h e up «in» =
      let k : n - count - 1 ≡ n - (count + 1) = omega arith in
      let pos : 0 < n - count = omega arith in
      record {
        gives = h.gives ∙ ap (after xs) (many_more r (n - count) (drop at s) (drop next s) a pos e) ∙ after_more xs a (many (n - count - 1) r (drop next s)) ∙ rw k;
        counted = simp length-append (omega (arith, h.counted));
        onward = omega arith;
        inside = «in»;
      }

  pub reached-end : (count at : ℕ) (xs : List A) → Reached r n s from count at xs → r (drop at s) ≡ nothing → many n r (drop from s) ≡ got xs (drop at s)
  reached-end count at xs h e = h.gives ∙ ap (after xs) (many-done r (n - count) (drop at s) e) ∙ rw append-nil

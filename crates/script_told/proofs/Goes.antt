-- Answers up to a refusal: those from the n-th on are again such answers, from n on.
use mathlib.Core.Path.{◌≡◌, sym, ◌∙◌, ap}
use mathlib.Core.Bool.{false, cond}
use mathlib.Core.List.{[], ◌∷◌}
use Prim.Native.Nat.{ℕ, zero, suc, ◌+◌, ◌-◌, ◌≤◌, ◌<◌}
use native.Mathlib.Omega.{arith}
use borrow.Author.Tests.{lt-ltb, le-ltb}
use lib.Dec.{ltb}
use lib.ListN.{length, take, drop, length-drop}
use Rattle.ints.proofs.Tests.{test}
use Rattle.ints.proofs.Laws.{cases}
use Rattle.script_answers.specs.Answers.{Said}
use Rattle.script_told.specs.Turns.{is_refused, up_to_refusal}

module _ (f : ℕ → Said) where
  pub first : (k m : ℕ) → 0 < m → up_to_refusal f k m ≡ f k ∷ cond (is_refused (f k)) [] (up_to_refusal f (suc k) (m - 1))
  unfolding up_to_refusal
  first k zero l = absurd (omega arith)
  first k (suc m) l = let e : suc m - 1 ≡ m = omega arith in rw e

  pub some : (k m : ℕ) → 0 < m → 0 < length (up_to_refusal f k m)
  some k m l = rw (first k m l) (omega arith)

  pub most : (k m : ℕ) → length (up_to_refusal f k m) ≤ m
  unfolding up_to_refusal
  most k zero = omega arith
  most k (suc m) =
      test (is_refused (f k)) (λ e. rw e (omega arith)) (λ e. rw e (omega (arith, most (suc k) m)))

  from : (n k m : ℕ) → n < length (up_to_refusal f k m) → drop n (up_to_refusal f k m) ≡ up_to_refusal f (k + n) (m - n)
  unfolding up_to_refusal
  from zero k m l = let e : k + 0 ≡ k = omega arith in let d : m - 0 ≡ m = omega arith in rw (e, d)
  from (suc n) k zero l = absurd (omega arith)
  from (suc n) k (suc m) l =
      let e : k + suc n ≡ suc k + n = omega arith in
      let d : suc m - suc n ≡ m - n = omega arith in
      test (is_refused (f k)) (λ h. absurd (omega (arith, rw h at l))) (λ h. rw (h, e, d) (from n (suc k) m (omega (arith, rw h at l))))

  module _ (n m : ℕ) (l : n < length (up_to_refusal f 0 m)) where
    rest : drop n (up_to_refusal f 0 m) ≡ f n ∷ cond (is_refused (f n)) [] (up_to_refusal f (suc n) (m - n - 1))
    rest = let e : 0 + n ≡ n = omega arith in from n 0 m l ∙ rw e (first n (m - n) (omega (arith, most 0 m)))

    pub nth : take 1 (drop n (up_to_refusal f 0 m)) ≡ f n ∷ []
    nth = rw rest

    long : length (up_to_refusal f 0 m) ≡ n + 1 + length (cond (is_refused (f n)) [] (up_to_refusal f (suc n) (m - n - 1)))
    long = omega (arith, length-drop n (up_to_refusal f 0 m), ap length rest)

    pub goes_on : cond (is_refused (f n)) false (ltb (n + 1) m) ≡ ltb (n + 1) (length (up_to_refusal f 0 m))
    goes_on =
        test (is_refused (f n))
        (λ h. rw h (sym (le-ltb (n + 1) (length (up_to_refusal f 0 m)) (omega (arith, rw h at long)))))
        (λ h.
        rw h
        (cases m (n + 1)
        (λ p. le-ltb (n + 1) m p ∙ sym (le-ltb (n + 1) (length (up_to_refusal f 0 m)) (omega (arith, most 0 m))))
        (λ p. lt-ltb (n + 1) m p ∙ sym (lt-ltb (n + 1) (length (up_to_refusal f 0 m)) (omega (arith, rw h at long, some (suc n) (m - n - 1) (omega arith)))))))

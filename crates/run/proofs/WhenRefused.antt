-- When place-run is refused, both ways: exactly if a test of refusal 8 refuses. A refusal changes nothing.
use mathlib.Core.Path.{◌≡◌, refl}
use mathlib.Core.Bool.{Bool, true, false, cond, not, ◌&&◌, false≢true}
use mathlib.Core.List.{List, [], ◌∷◌}
use mathlib.Core.Logic.{◌↔◌}
use native.Mathlib.Omega.{arith}
use lib.IntN.{ℤ}
use Rattle.ints.specs.Refusals.{check, is_first, none_refuses}
use Rattle.run.specs.Call.{Request, is_small, is_fitting, is_in_reach, is_sound, run_tests, is_taken, out, placed_of, call_of}

four : (a b c d : Bool) → none_refuses (check 8 a ∷ check 8 b ∷ check 8 c ∷ check 8 d ∷ []) ≡ (a && b && c && d)
unfolding none_refuses
four true true true true = refl
four true true true false = refl
four true true false d = refl
four true false c d = refl
four false b c d = refl

eight : (a b c d : Bool) → is_first 8 (check 8 a ∷ check 8 b ∷ check 8 c ∷ check 8 d ∷ []) ≡ not (a && b && c && d)
unfolding is_first
eight true true true true = refl
eight true true true false = refl
eight true true false d = refl
eight true false c d = refl
eight false b c d = refl

module _ (q : Request) (answer : List ℤ) where
  pub taken-row : is_taken q answer ≡ (is_small q && is_fitting q answer && is_in_reach q && is_sound q)
  unfolding is_taken run_tests
  taken-row = four (is_small q) (is_fitting q answer) (is_in_reach q) (is_sound q)

  pub first-8 : is_first 8 (run_tests q answer) ≡ not (is_taken q answer)
  unfolding run_tests
  first-8 = rw taken-row (eight (is_small q) (is_fitting q answer) (is_in_reach q) (is_sound q))

  pub place-run-8 : ((call_of q answer).number ≡ 8) ↔ (is_first 8 (run_tests q answer) ≡ true)
  unfolding call_of
  place-run-8 = rw first-8 (by (is_taken q answer))
    where
      by : (t : Bool) → ((cond t (out 0 (placed_of q)) (out 8 answer)).number ≡ 8) ↔ (not t ≡ true)
      by true = (λ e. absurd (omega arith), λ e. absurd (false≢true e))
      by false = (λ e. refl, λ e. refl)

  pub place-run-given : ((call_of q answer).number ≡ 0) ↔ (is_taken q answer ≡ true)
  unfolding call_of
  place-run-given = by (is_taken q answer)
    where
      by : (t : Bool) → ((cond t (out 0 (placed_of q)) (out 8 answer)).number ≡ 0) ↔ (t ≡ true)
      by true = (λ e. refl, λ e. refl)
      by false = (λ e. absurd (omega arith), λ e. absurd (false≢true e))

  pub place-run-kept : (call_of q answer).number ≡ 8 → (call_of q answer).buffer ≡ answer
  unfolding call_of
  place-run-kept = by (is_taken q answer)
    where
      by : (t : Bool) → (cond t (out 0 (placed_of q)) (out 8 answer)).number ≡ 8 → (cond t (out 0 (placed_of q)) (out 8 answer)).buffer ≡ answer
      by true e = absurd (omega arith)
      by false e = refl

-- Laws of a test of every member of a list.
use mathlib.Core.Path.{◌≡◌, refl}
use mathlib.Core.Bool.{Bool, true, ◌&&◌}
use mathlib.Core.List.{List, [], ◌∷◌, ◌++◌}
use Rattle.ints.proofs.Tests.{test, ◌and◌}
use Rattle.plan.specs.Checks.{every}
use Rattle.text.proofs.Words.{never}

-- ---- tests of every member
module _ {A : Type 0} (t : A → Bool) where
  pub every_one : (x : A) (xs : List A) → every t (x ∷ xs) ≡ true → (t x ≡ true) × (every t xs ≡ true)
  unfolding every
  every_one x xs h = test (t x) (λ e. (e, rw e at h)) (λ e. never (rw e at h))

  pub every-cons : (x : A) (xs : List A) → t x ≡ true → every t xs ≡ true → every t (x ∷ xs) ≡ true
  unfolding every
  every-cons x xs e h = rw (e, h)

  pub every_append : (xs ys : List A) → every t xs ≡ true → every t ys ≡ true → every t (xs ++ ys) ≡ true
  every_append [] ys h k = k
  every_append (x ∷ xs) ys h k = let r = every_one x xs h in every-cons x (xs ++ ys) r.0 (every_append xs ys r.1 k)

  pub every-both : (xs ys : List A) → every t (xs ++ ys) ≡ true → (every t xs ≡ true) × (every t ys ≡ true)
  unfolding every
  every-both [] ys h = (refl, h)
  every-both (x ∷ xs) ys h = let r = every_one x (xs ++ ys) h in let q = every-both xs ys r.1 in (every-cons x xs r.0 q.0, q.1)

  pub every-so : (u : A → Bool) → ((x : A) → t x ≡ true → u x ≡ true) → (xs : List A) → every t xs ≡ true → every u xs ≡ true
  unfolding every
  every-so u f [] h = refl
  every-so u f (x ∷ xs) h = let r = every_one x xs h in rw (f x r.0, every-so u f xs r.1)

pub every-and : {A : Type 0} (t u : A → Bool) (xs : List A) → every t xs ≡ true → every u xs ≡ true → every (λ x. t x && u x) xs ≡ true
unfolding every
every-and t u [] h k = refl
every-and t u (x ∷ xs) h k =
    let a = every_one t x xs h in
    let b = every_one u x xs k in
    every-cons (λ x. t x && u x) x xs (a.0 and b.0) (every-and t u xs a.1 b.1)

-- When a list of tests refuses, and by which number, both ways. All that is asked of the tests is that none has the number 0, which
-- stands for no refusal; where their numbers are literals `refl` says so.
use mathlib.Core.Path.{◌≡◌, refl, sym, ◌∙◌, ap}
use mathlib.Core.Bool.{Bool, true, false, cond, ◌&&◌, false≢true}
use mathlib.Core.List.{List, [], ◌∷◌, ◌++◌}
use mathlib.Core.Logic.{◌↔◌}
use Prim.Native.Nat.{ℕ, zero, suc}
use borrow.Author.Tests.{eqb-true, eq-eqb, ne_eqb, not-false}
use Rattle.std.specs.Prelude.{Result, Ok, Err}
use Rattle.std.specs.Result.{is_ok}
use lib.Dec.{eqb}
use lib.ListN.{get_or}
use native.Mathlib.Omega.{arith}
use Rattle.ints.specs.Refusals.{Test, test, check, first_refusal, is_first, none_refuses, number_of, refused_by}
use Rattle.ints.specs.declared.refusal.Refusal.{Refusal}
use Rattle.ints.specs.declared.refusal.Refusal.TheVariants.{Form, Limit, Ends, Order, Via, Crossing, Missing, Run, Empty, Undrawn, Unsound, Room, Untangled}

-- Whether no test has the number m; and whether none has the number 0.
abbrev pub lacks : ℕ → List Test → Bool
lacks m [] = true
lacks m (t ∷ ts) = cond (eqb t.number m) false (lacks m ts)

abbrev pub numbered : List Test → Bool
numbered ts = lacks 0 ts

not_first : (b c : Bool) → cond b false c ≡ true → (b ≡ false) × (c ≡ true)
not_first true c e = absurd (false≢true e)
not_first false c e = (refl, e)

-- ---- no test refuses exactly if the number is 0, and then each of them passes
pub none-0 : (ts : List Test) → numbered ts ≡ true → eqb (first_refusal ts) 0 ≡ none_refuses ts
unfolding first_refusal none_refuses
none-0 [] h = refl
none-0 (t ∷ ts) h = let n = not_first (eqb t.number 0) (numbered ts) h in by t.refuses n.0 (none-0 ts n.1)
  where
    by : (b : Bool) → eqb t.number 0 ≡ false → eqb (first_refusal ts) 0 ≡ none_refuses ts
        → eqb (cond b t.number (first_refusal ts)) 0 ≡ cond b false (none_refuses ts)
    by true n later = n
    by false n later = later

pub none-at : (ts : List Test) → none_refuses ts ≡ true → (i : ℕ) → (get_or ts i (test 0 false)).refuses ≡ false
unfolding none_refuses
none-at [] e i = refl
none-at (t ∷ ts) e zero = (not_first t.refuses (none_refuses ts) e).0
none-at (t ∷ ts) e (suc i) = none-at ts (not_first t.refuses (none_refuses ts) e).1 i

pub none_found : (m : ℕ) (ts : List Test) → numbered ts ≡ true → m ≡ first_refusal ts → m ≡ 0 → none_refuses ts ≡ true
none_found m ts h e z = sym (none-0 ts h) ∙ eq-eqb (first_refusal ts) 0 (sym e ∙ z)

-- two checks
pub two-pass : (m n : ℕ) (a b : Bool) → let ts = check m a ∷ check n b ∷ [] in numbered ts ≡ true → first_refusal ts ≡ 0 → (a ≡ true) × (b ≡ true)
two-pass m n a b h e =
    let ts = check m a ∷ check n b ∷ [] in
    let pass = none-at ts (none_found 0 ts h (sym e) refl) in
    (not-false a (pass 0), not-false b (pass 1))

pub two_none : (m n : ℕ) (a b : Bool) → a ≡ true → b ≡ true → none_refuses (check m a ∷ check n b ∷ []) ≡ true
unfolding none_refuses
two_none m n a b e f = rw (e, f)

-- ---- the one law: what is given exactly if no test refuses, and refused by m exactly if m is the first that does
module _ {R : Type 0} (given : R) (refused : ℕ → R) (apart : (m : ℕ) → given ≡ refused m → ⊥) (same : (m n : ℕ) → refused m ≡ refused n → m ≡ n) where
  abbrev pub outcome : ℕ → R
  outcome n = cond (eqb n 0) given (refused n)

  pub refused-first : (ts : List Test) → numbered ts ≡ true → (m : ℕ) → (outcome (first_refusal ts) ≡ refused m) ↔ (is_first m ts ≡ true)
  unfolding first_refusal is_first
  refused-first [] h m = (λ e. absurd (apart m e), λ e. absurd (false≢true e))
  refused-first (t ∷ ts) h m = let n = not_first (eqb t.number 0) (numbered ts) h in by t.refuses n.0 (refused-first ts n.1 m)
    where
      by : (b : Bool) → eqb t.number 0 ≡ false → (outcome (first_refusal ts) ≡ refused m) ↔ (is_first m ts ≡ true)
          → (outcome (cond b t.number (first_refusal ts)) ≡ refused m) ↔ (cond b (eqb t.number m) (is_first m ts) ≡ true)
      by true n later = (λ e. eq-eqb t.number m (same t.number m (rw n at e)), λ e. rw n (ap refused (eqb-true t.number m e)))
      by false n later = later

  pub given-none : (ts : List Test) → numbered ts ≡ true → (outcome (first_refusal ts) ≡ given) ↔ (none_refuses ts ≡ true)
  given-none ts h = rw (none-0 ts h) (by (none_refuses ts))
    where
      by : (b : Bool) → (cond b given (refused (first_refusal ts)) ≡ given) ↔ (b ≡ true)
      by true = (λ e. refl, λ e. refl)
      by false = (λ e. absurd (apart (first_refusal ts) (sym e)), λ e. absurd (false≢true e))

-- ---- is_first in full: tests that do not refuse, a test by m that does, and any others
pub record First (m : ℕ) (ts : List Test) : Type 0 where
  pub before : List Test
  pub one : Test
  pub after : List Test
  pub split : ts ≡ before ++ (one ∷ after)
  pub passed : none_refuses before ≡ true
  pub refuses : one.refuses ≡ true
  pub number : one.number ≡ m

first_of : (m : ℕ) (ts : List Test) → is_first m ts ≡ true → First m ts
unfolding is_first none_refuses
first_of m [] e = absurd (false≢true e)
first_of m (t ∷ ts) e = by t.refuses refl e (first_of m ts)
  where
    by : (b : Bool) → t.refuses ≡ b → cond b (eqb t.number m) (is_first m ts) ≡ true → (is_first m ts ≡ true → First m ts) → First m (t ∷ ts)
    by true q e later = record { before = []; one = t; after = ts; split = refl; passed = refl; refuses = q; number = eqb-true t.number m e }
    by false q e later =
        let f = later e in
        record {
          before = t ∷ f.before;
          one = f.one;
          after = f.after;
          split = ap (λ (l : List Test). t ∷ l) f.split;
          passed = rw q f.passed;
          refuses = f.refuses;
          number = f.number;
        }

first-is : (m : ℕ) (xs : List Test) (t : Test) (ys : List Test) → none_refuses xs ≡ true → t.refuses ≡ true → t.number ≡ m
    → is_first m (xs ++ (t ∷ ys)) ≡ true
unfolding is_first none_refuses
first-is m [] t ys p r n = rw r (eq-eqb t.number m n)
first-is m (x ∷ xs) t ys p r n = let o = not_first x.refuses (none_refuses xs) p in rw o.0 (first-is m xs t ys o.1 r n)

pub is-first : (m : ℕ) (ts : List Test) → (is_first m ts ≡ true) ↔ First m ts
is-first m ts = (first_of m ts, λ f. rw f.split (first-is m f.before f.one f.after f.passed f.refuses f.number))

-- ---- tests after others: a number found among the first, and one found after them
early : (xs ys : List Test) → (first_refusal xs ≡ 0 → ⊥) → first_refusal (xs ++ ys) ≡ first_refusal xs
unfolding first_refusal
early [] ys z = absurd (z refl)
early (x ∷ xs) ys z = by x.refuses z (early xs ys)
  where
    by : (b : Bool) → (cond b x.number (first_refusal xs) ≡ 0 → ⊥) → ((first_refusal xs ≡ 0 → ⊥) → first_refusal (xs ++ ys) ≡ first_refusal xs)
        → cond b x.number (first_refusal (xs ++ ys)) ≡ cond b x.number (first_refusal xs)
    by true z later = refl
    by false z later = later z

late : (xs ys : List Test) → none_refuses xs ≡ true → first_refusal (xs ++ ys) ≡ first_refusal ys
unfolding first_refusal none_refuses
late [] ys e = refl
late (x ∷ xs) ys e = let o = not_first x.refuses (none_refuses xs) e in rw o.0 (late xs ys o.1)

module _ (m : ℕ) (xs ys : List Test) where
  pub refusal-early : m ≡ first_refusal xs → (m ≡ 0 → ⊥) → m ≡ first_refusal (xs ++ ys)
  refusal-early e z = e ∙ sym (early xs ys (λ f. z (e ∙ f)))

  pub refusal-late : none_refuses xs ≡ true → m ≡ first_refusal ys → m ≡ first_refusal (xs ++ ys)
  refusal-late n e = e ∙ sym (late xs ys n)

pub none-append : (xs ys : List Test) → none_refuses (xs ++ ys) ≡ (none_refuses xs && none_refuses ys)
unfolding none_refuses
none-append [] ys = refl
none-append (x ∷ xs) ys = rw (none-append xs ys) (by x.refuses)
  where
    by : (b : Bool) → cond b false (none_refuses xs && none_refuses ys) ≡ (cond b false (none_refuses xs) && none_refuses ys)
    by true = refl
    by false = refl

module _ (m : ℕ) where
  pub first-late : (xs ys : List Test) → lacks m xs ≡ true → is_first m (xs ++ ys) ≡ (none_refuses xs && is_first m ys)
  unfolding is_first none_refuses
  first-late [] ys h = refl
  first-late (x ∷ xs) ys h = let n = not_first (eqb x.number m) (lacks m xs) h in rw (n.0, first-late xs ys n.1) (by x.refuses)
    where
      by : (b : Bool) → cond b false (none_refuses xs && is_first m ys) ≡ (cond b false (none_refuses xs) && is_first m ys)
      by true = refl
      by false = refl

  first-never : (ys : List Test) → lacks m ys ≡ true → is_first m ys ≡ false
  unfolding is_first
  first-never [] h = refl
  first-never (y ∷ ys) h = let n = not_first (eqb y.number m) (lacks m ys) h in rw (n.0, first-never ys n.1) (by y.refuses)
    where
      by : (b : Bool) → cond b false false ≡ false
      by true = refl
      by false = refl

  pub first-early : (xs ys : List Test) → lacks m ys ≡ true → is_first m (xs ++ ys) ≡ is_first m xs
  unfolding is_first
  first-early [] ys h = first-never ys h
  first-early (x ∷ xs) ys h = rw (first-early xs ys h)

-- ---- one more test at the end: where it is the first that refuses none before it does, and other numbers are found as before
module _ (t : Test) where
  pub last-first : (ts : List Test) → lacks t.number ts ≡ true → is_first t.number (ts ++ (t ∷ [])) ≡ true → none_refuses ts ≡ true
  unfolding is_first none_refuses
  last-first [] l e = refl
  last-first (x ∷ ts) l e =
      let n = not_first (eqb x.number t.number) (lacks t.number ts) l in
      by x.refuses n.0 e (last-first ts n.1)
    where
      by : (b : Bool) → eqb x.number t.number ≡ false → cond b (eqb x.number t.number) (is_first t.number (ts ++ (t ∷ []))) ≡ true
          → (is_first t.number (ts ++ (t ∷ [])) ≡ true → none_refuses ts ≡ true) → cond b false (none_refuses ts) ≡ true
      by true n e later = absurd (false≢true (sym n ∙ e))
      by false n e later = later e

  pub last-other : (m : ℕ) → eqb t.number m ≡ false → (ts : List Test) → is_first m (ts ++ (t ∷ [])) ≡ is_first m ts
  unfolding is_first
  last-other m n [] = by t.refuses
    where
      by : (b : Bool) → cond b (eqb t.number m) false ≡ false
      by true = n
      by false = refl
  last-other m n (x ∷ ts) = rw (last-other m n ts)

-- ---- no refusal has the number 0
pub has-number : (r : Refusal) → number_of r ≡ 0 → ⊥
has-number Form e = absurd (omega arith)
has-number Limit e = absurd (omega arith)
has-number Ends e = absurd (omega arith)
has-number Order e = absurd (omega arith)
has-number Via e = absurd (omega arith)
has-number Crossing e = absurd (omega arith)
has-number Missing e = absurd (omega arith)
has-number Run e = absurd (omega arith)
has-number Empty e = absurd (omega arith)
has-number Undrawn e = absurd (omega arith)
has-number Unsound e = absurd (omega arith)
has-number Room e = absurd (omega arith)
has-number Untangled e = absurd (omega arith)

pub is-ok : {A : Type 0} (v : Result A Refusal) → is_ok v ≡ eqb (refused_by v) 0
is-ok (Ok a) = refl
is-ok (Err r) = sym (ne_eqb (number_of r) 0 (has-number r))

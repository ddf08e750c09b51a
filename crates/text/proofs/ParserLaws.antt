-- Grammar rules in both directions. `Reads`: the rule finds each value at the start of the text written of it, whatever
-- follows. `Writes`: the text written of the value that the rule found is what the rule took. Words, rules one after another
-- and repetition keep both. Where `s` is a text, `t` is what a rule leaves of it.
use mathlib.Core.Path.{◌≡◌, refl, ◌∙◌, ap}
use mathlib.Core.Bool.{Bool, true}
use mathlib.Core.List.{List, [], ◌∷◌, ◌++◌, map, append_assoc}
use Prim.Native.Nat.{ℕ, zero, suc, ◌≤◌}
use native.Mathlib.Omega.{arith}
use borrow.Author.Tests.{eq-eqb}
use lib.ListN.{length}
use Rattle.ints.specs.Lists.{concat}
use Rattle.plan.specs.Checks.{every}
use Rattle.text.specs.Parser.{Got, got, nothing, Rule, then, again, word, many}
use Rattle.text.proofs.Words.{never}
use Rattle.text.proofs.Repeats.{many-done}
use Rattle.text.proofs.TestLaws.{every_one, every-cons}

-- nothing is not something
pub never-got : {A X : Type 0} {a : A} {t : List ℕ} → ◌≡◌ {A = Got A} nothing (got a t) → X
never-got e = never (cc)

-- ---- words
pub word-reads : (w s : List ℕ) → word w (w ++ s) ≡ got tt s
unfolding word
word-reads [] s = refl
word-reads (b ∷ w) s = rw (eq-eqb b b refl) (word-reads w s)

-- ---- one rule after another
-- both found something: the first a, and the second goes on from s
pub then-both : {A B X : Type 0} (g : Got A) (f : A → Rule B) {b : B} {t : List ℕ} → then g f ≡ got b t → ((a : A) (s : List ℕ) → g ≡ got a s → f a s ≡ got b t → X) → X
then-both (got a s) f e k = k a s refl e
then-both nothing f e k = never-got e

pub then-got : {A B : Type 0} {g : Got A} {a : A} {s : List ℕ} (f : A → Rule B) → g ≡ got a s → then g f ≡ f a s
then-got f e = ap (λ g. then g f) e

pub then-word : {B : Type 0} (w s : List ℕ) (f : Unit {0} → Rule B) → then (word w (w ++ s)) f ≡ f tt s
then-word w s f = then-got f (word-reads w s)

-- a text in parts: what is written first, and the rest
pub before : (w : List ℕ) {s u x : List ℕ} → s ≡ w ++ u → u ≡ x → s ≡ w ++ x
before w p q = p ∙ ap (λ (l : List ℕ). w ++ l) q

pub parts-3 : (a b c t : List ℕ) → a ++ b ++ c ++ t ≡ a ++ (b ++ (c ++ t))
parts-3 a b c t = simp append_assoc

pub parts-6 : (a b c d e f t : List ℕ) → a ++ b ++ c ++ d ++ e ++ f ++ t ≡ a ++ (b ++ (c ++ (d ++ (e ++ (f ++ t)))))
parts-6 a b c d e f t = simp append_assoc

pub parts-7 : (a b c d e f g t : List ℕ) → a ++ b ++ c ++ d ++ e ++ f ++ g ++ t ≡ a ++ (b ++ (c ++ (d ++ (e ++ (f ++ (g ++ t))))))
parts-7 a b c d e f g t = simp append_assoc

-- ---- repetition
module _ {A : Type 0} (r : Rule A) (w : A → List ℕ) (ok : A → Bool) where
  -- the rule reads what is written of every value that is ok
  abbrev pub Reads : Type 0
  Reads = (a : A) (t : List ℕ) → ok a ≡ true → r (w a ++ t) ≡ got a t

  -- and finds nothing else
  abbrev pub Writes : Type 0
  Writes = (a : A) (s t : List ℕ) → r s ≡ got a t → (s ≡ w a ++ t) × (ok a ≡ true)

  pub many-reads : Reads → (n : ℕ) (xs : List A) (t : List ℕ) → length xs ≤ n → every ok xs ≡ true → r t ≡ nothing → many n r (concat (map w xs) ++ t) ≡ got xs t
  unfolding many concat
  many-reads h n [] t l e z = many-done r n t z
  many-reads h zero (x ∷ xs) t l e z = absurd (omega arith)
  many-reads h (suc n) (x ∷ xs) t l e z =
      let k = every_one ok x xs e in
      rw (append_assoc, h x (concat (map w xs) ++ t) k.0, many-reads h n xs t (omega arith) k.1 z)

  pub many-writes : Writes → (n : ℕ) (xs : List A) (s t : List ℕ) → many n r s ≡ got xs t → (s ≡ concat (map w xs) ++ t) × (every ok xs ≡ true)
  unfolding many concat every
  many-writes h zero xs s t e = let q : [] ≡ xs = cc in (rw (← q) (cc), rw (← q))
  many-writes h (suc n) xs s t e = go (r s) refl e (many-writes h n)
    where
      go : (g : Got A) → r s ≡ g → again g s (λ u. many n r u) ≡ got xs t
          → ((l : List A) (u v : List ℕ) → many n r u ≡ got l v → (u ≡ concat (map w l) ++ v) × (every ok l ≡ true))
          → (s ≡ concat (map w xs) ++ t) × (every ok xs ≡ true)
      go nothing q f more = let q : [] ≡ xs = cc in (rw (← q) (cc), rw (← q))
      go (got a u) q f more = then-both (many n r u) (λ l v. got (a ∷ l) v) f (λ l v first second.
          let one = h a s u q in
          let rest = more l u v first in
          let x : a ∷ l ≡ xs = cc in
          let y : v ≡ t = cc in
          (one.0 ∙ rw (← x, ← y, append_assoc, rest.0), rw (← x) (every-cons ok a l one.1 rest.1)))

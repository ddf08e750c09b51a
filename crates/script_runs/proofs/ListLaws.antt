-- Lists of numbers, as loops pass their parts: a test of every number, and numbers that fill a buffer. Assumes nothing.
use mathlib.Core.Path.{◌≡◌, refl, sym, ◌∙◌, ap}
use mathlib.Core.Bool.{Bool, true, false, false≢true}
use mathlib.Core.List.{List, [], ◌∷◌, ◌++◌, map, append-nil}
use Prim.Native.Nat.{ℕ, ◌+◌, ◌≤◌, ◌<◌}
use native.Mathlib.Omega.{arith}
use borrow.Author.Tests.{eqb-true}
use lib.Dec.{eqb}
use lib.ListN.{length, take, drop, length-take}
use lib.Seq.{take_all}
use Rattle.plan.specs.Checks.{every}
use Rattle.script_words.specs.Parts.{parts}
use Rattle.script_words.specs.inner.Ends.{between, PartEnds}
use Rattle.script_words.specs.inner.Puts.{Puts}
use Rattle.script_words.proofs.PartLaws.{parts-split}
use Rattle.script_words.proofs.Filling.{fill_more}
use Rattle.script_runs.specs.Lists.{items_of}

pub items-none : (w : List ℕ) → eqb (length w) 0 ≡ true → items_of w ≡ []
items-none [] e = refl
items-none (b ∷ w) e = absurd (omega (arith, eqb-true (length (b ∷ w)) 0 e))

pub items-some : (w : List ℕ) → eqb (length w) 0 ≡ false → items_of w ≡ parts 44 w
items-some [] e = absurd (false≢true (sym e))
items-some (b ∷ w) e = refl

module _ (w : List ℕ) (from to : ℕ) (e : PartEnds 44 w from to) where
  -- ---- a test
  module _ (t : List ℕ → Bool) where
    pub every-not : t (between from to w) ≡ false → every t (parts 44 (drop from w)) ≡ false
    unfolding every
    every-not q = rw (parts-split 44 w from to e, q)

    pub every-last : t (between from to w) ≡ true → length w ≤ to → every t (parts 44 (drop from w)) ≡ true
    unfolding every
    every-last q h = rw (e.last h, q)

    pub every-on : t (between from to w) ≡ true → to < length w → every t (parts 44 (drop from w)) ≡ every t (parts 44 (drop (to + 1) w))
    unfolding every
    every-on q h = rw (e.cut h, q)

  -- ---- a buffer
  module _ {A : Type 0} (f : List ℕ → A) (n r m : ℕ) (out after : List A) (l : length out ≡ m) (p : Puts (f (between from to w)) n out r after) where
    pub fill_on : to < length w → take m (take r after ++ map f (parts 44 (drop (to + 1) w))) ≡ take m (take n out ++ map f (parts 44 (drop from w)))
    fill_on h = rw (e.cut h) (fill_more (f (between from to w)) n r out after (map f (parts 44 (drop (to + 1) w))) m l p)

    pub fill-last : length w ≤ to → take r after ≡ take m (take n out ++ map f (parts 44 (drop from w)))
    fill-last h =
        sym (take_all m (take r after) (simp length-take (omega (arith, p.inside)))) ∙ ap (take m) (sym (append-nil (take r after)))
        ∙ rw (e.last h) (fill_more (f (between from to w)) n r out after [] m l p)

-- The parts of a line as the library cuts it, and where a part ends.
-- Assumes nothing.
use mathlib.Core.Path.{◌≡◌, refl, sym, ◌∙◌, ap}
use mathlib.Core.Bool.{Bool, true, false, cond}
use mathlib.Core.List.{List, [], ◌∷◌}
use Prim.Native.Nat.{ℕ, ◌+◌, ◌-◌, ◌≤◌, ◌<◌}
use native.Mathlib.Omega.{arith}
use native.Mathlib.Decide.{dec_lt}
use borrow.Author.Tests.{lt-ltb, le-ltb}
use lib.Dec.{ltb, eqb}
use lib.ListN.{length, get_or, drop, length-drop}
use lib.Seq.{take_all}
use Rattle.std.specs.List.{slice_split, onto_first, position}
use Rattle.std.proofs.Common.{Option, Some, None}
use Rattle.std.proofs.lemmas.List.Splits.{slice_split_first, slice_split_none}
use Rattle.std.proofs.lemmas.List.Sums.{fails_before_first}
use Rattle.std.proofs.lemmas.List.{drop-drop}
use Rattle.std.proofs.lemmas.List.Elements.{All-from_get_or}
use borrow.Author.Tests.{ltb-true, ltb-false}
use Rattle.script_words.specs.Parts.{onto, parts}
use Rattle.script_words.specs.inner.Ends.{between, PartEnds}

-- ---- as std cuts a list
onto-first : (b : ℕ) (ws : List (List ℕ)) → onto_first b ws ≡ onto (b ∷ []) ws
onto-first b [] = refl
onto-first b (w ∷ ws) = refl

pub slice_split-parts : (sep : ℕ) (s : List ℕ) → slice_split (λ b. eqb b sep) s ≡ parts sep s
unfolding parts
slice_split-parts sep [] = refl
slice_split-parts sep (b ∷ s) = rw (slice_split-parts sep s, onto-first b (parts sep s))

-- a line from a place on, as it is lent
pub rest : (from : ℕ) (s : List ℕ) → between from (length s) s ≡ drop from s
rest from s = take_all (length s - from) (drop from s) (simp length-drop (omega arith))

-- ---- where a part ends
module _ (sep : ℕ) (s : List ℕ) (from : ℕ) (h : from ≤ length s) where
  abbrev is_sep : ℕ → Bool
  is_sep b = eqb b sep

  none_some : (n : ℕ) → ◌≡◌ {A = Option ℕ} None (Some n) → ⊥
  none_some n e = cc

  first : (t : Bool) (n m : ℕ) → cond t (Some m) None ≡ Some n → (t ≡ true) × (m ≡ n)
  first true n m e = (refl, cc)
  first false n m e = absurd (none_some n e)

  -- the first separator, counted from `from` on
  pub ends_at : (n : ℕ) → position is_sep (drop from s) ≡ Some n → PartEnds sep s from (from + n)
  ends_at n e =
      let f = first _ n _ e in
      let l = ltb-true _ _ f.0 in
      let d = length-drop from s in
      let k : from + n < length s = omega arith in
      let i : from + n - from ≡ n = omega arith in
      let j : from + n + 1 ≡ from + (n + 1) = omega arith in
      record {
        onward = omega arith;
        inside = omega arith;
        last = λ m. absurd (omega arith);
        cut = λ m.
            sym (slice_split-parts sep (drop from s)) ∙ slice_split_first is_sep (drop from s) 0 l
            ∙ rw (f.1, i, j, slice_split-parts sep (drop (n + 1) (drop from s)), drop-drop (n + 1) from s) refl;
      }

  some-none : (t : Bool) (n : ℕ) → cond t (Some n) None ≡ None → t ≡ false
  some-none true n e = absurd (none_some n (sym e))
  some-none false n e = refl

  pub ends_nowhere : position is_sep (drop from s) ≡ None → PartEnds sep s from (length s)
  ends_nowhere e =
      let l = ltb-false _ _ (some-none _ _ e) in
      record {
        onward = h;
        inside = omega arith;
        last = λ m.
            sym (slice_split-parts sep (drop from s))
            ∙ slice_split_none is_sep (drop from s) (All-from_get_or (λ x. is_sep x ≡ false) (drop from s) 0 (λ k q. fails_before_first is_sep (drop from s) k 0 (omega arith)))
            ∙ ap (λ (p : List ℕ). p ∷ []) (sym (rest from s));
        cut = λ m. absurd (omega arith);
      }

-- ---- the parts after a place where one ends
abbrev pub after : ℕ → List ℕ → ℕ → List (List ℕ)
after sep s to = cond (ltb to (length s)) (parts sep (drop (to + 1) s)) []

pub parts-split : (sep : ℕ) (s : List ℕ) (from to : ℕ) → PartEnds sep s from to → parts sep (drop from s) ≡ between from to s ∷ after sep s to
parts-split sep s from to e = elim (dec_lt to (length s)) [
  | yes h ↦ rw (lt-ltb to (length s) h) (e.cut h)
  | no h ↦
      rw (le-ltb to (length s) (omega arith)) (e.last (omega arith))
]

-- ---- part k
pub part-first : (sep : ℕ) (s : List ℕ) (from to : ℕ) (e : PartEnds sep s from to) → get_or (parts sep (drop from s)) 0 [] ≡ between from to s
part-first sep s from to e = rw (parts-split sep s from to e)

-- Names with values, as loops pass the words. Assumes nothing.
use mathlib.Core.Path.{◌≡◌, refl, ap}
use mathlib.Core.List.{List, [], ◌∷◌}
use Prim.Native.Nat.{ℕ, suc, ◌+◌, ◌-◌, ◌≤◌, ◌<◌}
use native.Mathlib.Omega.{arith}
use lib.ListN.{length, drop}
use lib.Seq.{drop-drop}
use Rattle.ints.proofs.Lists.{drop-take}
use Rattle.text.specs.Parser.{Got, got, nothing, word}
use Rattle.script_words.specs.Parts.{words}
use Rattle.script_words.specs.inner.Ends.{between, PartEnds}
use Rattle.script_words.proofs.PartLaws.{parts-split}
use Rattle.script_runs.specs.Names.{value_before, values_of, times_of, value_of}

value-adds : (g : Got (Unit {0})) (vs : List (List ℕ)) → length (value_before g vs) ≡ length (value_before g []) + length vs
value-adds (got u v) vs = omega arith
value-adds nothing vs = omega arith

-- every word begins with nothing
pub times-all : (ws : List (List ℕ)) → times_of [] ws ≡ length ws
unfolding values_of word
times-all [] = refl
times-all (w ∷ ws) = ap suc (times-all ws)

module _ (name s : List ℕ) (from to : ℕ) (e : PartEnds 32 s from to) where
  -- ---- how often
  pub times-last : length s ≤ to → times_of name (words (drop from s)) ≡ length (value_before (word name (between from to s)) [])
  unfolding values_of
  times-last h = rw (e.last h)

  pub times-on : to < length s → times_of name (words (drop from s)) ≡ length (value_before (word name (between from to s)) []) + times_of name
      (words (drop (to + 1) s))
  unfolding values_of
  times-on h = rw (e.cut h) (value-adds (word name (between from to s)) (values_of name (words (drop (to + 1) s))))

  -- ---- the first value
  pub value-here : (v : List ℕ) → word name (between from to s) ≡ got tt v → value_of name (words (drop from s)) ≡ v
  unfolding values_of
  value-here v q = rw (parts-split 32 s from to e, q)

  pub value_on : word name (between from to s) ≡ nothing → to < length s → value_of name (words (drop from s)) ≡ value_of name (words (drop (to + 1) s))
  unfolding values_of
  value_on q h = rw (e.cut h, q)

  pub value_none : word name (between from to s) ≡ nothing → length s ≤ to → value_of name (words (drop from s)) ≡ []
  unfolding values_of
  value_none q h = rw (e.last h, q)

-- ---- the rest of a part
pub part-after : (n from to : ℕ) (s : List ℕ) → between (from + n) to s ≡ drop (0 + n) (between from to s)
part-after n from to s =
    let z : 0 + n ≡ n = omega arith in
    let d : to - (from + n) ≡ to - from - n = omega arith in
    rw (z, drop-take n (to - from) (drop from s), drop-drop n from s, d)

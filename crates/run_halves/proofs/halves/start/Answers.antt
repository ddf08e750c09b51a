-- The two neighbours that `start` reads are the middle ones.
use Rattle.std.proofs.Common.{◌≡◌, ◌∙◌, sym, arith, ℕ, ◌≤◌, length, List, [], ◌∷◌, ℤ, pos, ◌+ℤ◌, w64, to_z, of_z}
use mir.Val.{SFits}
use lib.ListN.{get_or}
use Rattle.std.proofs.lemmas.Bool.{eqb-true}
use Rattle.ints.specs.Ints.{size}
use Rattle.ints.specs.Reach.{reach}
use Rattle.ints.proofs.Laws.{back, back', fit-make, fit-sum}
use Rattle.run.specs.Run.{leads_of, start_of}
use Rattle.run.proofs.Unrated.{start_none}
use Rattle.run_columns.specs.inner.Sums.{ratings_between, SumsOf}
use Rattle.run_halves.proofs.Middles.{start_between}
use Rattle.run_halves.proofs.halves.start.Goals as goal

none : (old : ℤ) (ns : List ℤ) (ws : List ℕ) → length ns ≡ 0 → old ≡ start_of old (leads_of ns ws)
unfolding leads_of
none old [] ws h = sym (start_none old)
none old (n ∷ ns) ws h = absurd (omega arith)

-- what is read of a position within reach
read : (z : ℤ) → size z ≤ reach → to_z w64 (of_z w64 z) ≡ z
read z h = back (fit-make z (omega arith))

-- "within ±2^40": the sum of two fits
add-half-down : (a b : ℤ) → size a ≤ reach → size b ≤ reach → SFits w64 (a +ℤ b)
add-half-down a b l h = fit-sum a b (omega (arith, l, h))

pub returns-then-is_empty : goal.returns-then-is_empty
returns-then-is_empty c = back c.ranges.old ∙ none c.args.old c.args.near.now (ratings_between c.args.sums.now) (eqb-true (length c.args.near.now) 0 (sym c.if-is_empty.ensures))

pub returns : goal.returns
returns c =
    let a = c.args in
    let near = c.requires.0 in
    let i = c.find_middles-middles.result.lower in
    let j = c.find_middles-middles.result.upper in
    let s : SumsOf a.sums.now a.near.now = c.requires.1 in
    let m = c.find_middles-middles.ensures in
    let l : size (get_or a.near.now i (pos 0)) ≤ reach = near i (omega (arith, m.lower.within, s.long)) in
    let h : size (get_or a.near.now j (pos 0)) ≤ reach = near j (omega (arith, m.upper.within, s.long)) in
    back' c.half_down.result c.half_down.type_inv
    ∙ simp (read (get_or a.near.now i (pos 0)) l, read (get_or a.near.now j (pos 0)) h, back (add-half-down (get_or a.near.now i (pos 0)) (get_or a.near.now j (pos 0)) l h)) at c.half_down.ensures
    ∙ start_between s a.old i j m

use Rattle.std.proofs.Common.{rules, arith, ◌≡◌, ◌∙◌, ℕ, ℤ, ◌+◌, ◌-◌, get_or, take, drop, pos, length-take, length-drop, get_or-take, get_or-drop, refl, ap, w64, to_z, of_z}
use Rattle.passes.specs.State.{position_of}
use Rattle.pass_tables.proofs.LevelLaws.{entry-filled, entries-end}
use Rattle.pass_place.proofs.request.neighbour_positions.Goals as goal

pub loop-i-preserved : goal.loop-i-preserved
loop-i-preserved c = let a = c.args in let l = c.loop-i in let ns = drop a.from a.ends.now in let m = a.from + a.n - a.from in
    let f : ℕ → ℤ = λ j. position_of a.at.now (get_or a.ends.now (a.from + j) 0) in
    let v = get_or (take m ns) l.i 0 in let long = length-take m ns in
    let e : v ≡ get_or a.ends.now (a.from + l.i) 0 = get_or-take m ns l.i 0 (omega arith) ∙ get_or-drop a.from a.ends.now l.i 0 in
    let b : to_z w64 (of_z w64 (get_or a.at.now v (pos 0))) ≡ get_or a.at.now v (pos 0) = search rules in
    rw (b ∙ ap (position_of a.at.now) e) (entry-filled f l.near l.i a.n (f l.i) (omega arith) (omega (arith, l.auto.near, c.requires.1)) refl) ∙ l.invariant

pub returns : goal.returns
returns c = let a = c.args in let l = c.loop-i in
    let f : ℕ → ℤ = λ j. position_of a.at.now (get_or a.ends.now (a.from + j) 0) in
    entries-end f l.near l.i a.n (omega (arith, length-take (a.from + a.n - a.from) (drop a.from a.ends.now), length-drop a.from a.ends.now)) ∙ l.invariant

-- With a bound at both sides all the distances lie between them, and by the limits neither their sum nor the difference of the bounds
-- leaves an i64.
use Rattle.std.proofs.Common.{rules, arith, ◌≡◌, pos, ◌-ℤ◌, w64, to_z, of_z}
use Rattle.ints.specs.Lists.{sum}
use Rattle.place_run.proofs.RefusalLaws.{bound-size, sum-distances, bounds-sum, not-lt}
use Rattle.place_run.proofs.refusal.is_possible.Goals as goal

pub total-requires : goal.total-requires
total-requires c = omega (arith, c.requires.distances_len_bound.0, sum-distances c.args.distances.now c.requires.distances_len_bound.1)

pub too_near-requires : goal.too_near-requires
too_near-requires c = let b = c.in-Some-Some in
    let bl : to_z w64 (of_z w64 b.l) ≡ b.l = search rules in let br : to_z w64 (of_z w64 b.r) ≡ b.r = search rules in
    simp (bl, br) (omega (
      arith,
      bound-size c.args.left b.l b.is-0 c.requires.left_value.0,
      bound-size c.args.right b.r b.is-1 c.requires.left_value.1,
      sum-distances c.args.distances.now c.requires.distances_len_bound.1,
      c.requires.distances_len_bound.0,
      c.total.ensures,
    ))

pub returns-in-Some-Some : goal.returns-in-Some-Some
returns-in-Some-Some c = let b = c.in-Some-Some in let ds = c.args.distances.now in
    let bl : to_z w64 (of_z w64 b.l) ≡ b.l = search rules in let br : to_z w64 (of_z w64 b.r) ≡ b.r = search rules in
    let near = simp (bl, br, c.total.ensures) at c.too_near.ensures in
    rw (b.is-0, b.is-1) (λ old counts neighbours ratings e k. rw (bounds-sum old ds counts neighbours ratings e (omega arith), near) (not-lt (b.r -ℤ b.l) (pos (sum ds))))

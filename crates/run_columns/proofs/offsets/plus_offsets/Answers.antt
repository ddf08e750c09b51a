use Rattle.std.proofs.Common.{arith, ◌≡◌, ◌+◌, ◌∙◌, sym, ap, length, drop, get_or, set, pos, List, ℕ, ℤ, ◌<◌, ◌≤◌, drop-drop, drop-set-lt}
use Rattle.ints.specs.Ints.{size}
use Rattle.run_columns.specs.inner.Columns.{Small, max_size}
use Rattle.ints.proofs.Laws.{back, back', fit-make}
use Rattle.run_columns.specs.inner.Offsets.{plus_offsets}
use Rattle.run_columns.proofs.Fill.{fill-next, fill_end}
use Rattle.run_columns.proofs.OffsetLaws.{first-drop, plus-next, plus-end}
use Rattle.run_columns.proofs.offsets.plus_offsets.Goals as goal

is_small : (z zs : List ℤ) (i : ℕ) → Small zs → i < length zs → drop i z ≡ drop i zs → size (get_or z i (pos 0)) ≤ max_size
is_small z zs i q h e = let f : get_or z i (pos 0) ≡ get_or zs i (pos 0) = sym (first-drop (pos 0) i z) ∙ ap (λ t. get_or t 0 (pos 0)) e ∙ first-drop (pos 0) i zs in rw f (q i h)

pub plus-requires : goal.plus-requires
plus-requires c = let l = c.loop-i in let x = get_or l.z l.i (pos 0) in let h = is_small l.z c.args.z.now l.i c.requires.small c.loop-i-test.true l.invariant.rest in
    simp (back (fit-make x (omega (arith, h)))) (omega (arith, h, c.requires.offsets_of.small l.i))

pub loop-i-preserved : goal.loop-i-preserved
loop-i-preserved c = let l = c.loop-i in let os = c.args.offsets.now in let x = get_or l.z l.i (pos 0) in let v = c.plus.result in
    let h = is_small l.z c.args.z.now l.i c.requires.small c.loop-i-test.true l.invariant.rest in let b = back' v c.plus.type_inv in let e = simp (back (fit-make x (omega (arith, h)))) at c.plus.ensures in
    let k : l.i < length l.z = omega (arith, c.loop-i-test.true, l.auto.z) in let r = drop-set-lt (l.i + 1) l.z l.i v (omega arith) in record {
      rest = simp b (r ∙ sym (drop-drop 1 l.i l.z) ∙ ap (λ t. drop 1 t) l.invariant.rest ∙ drop-drop 1 l.i c.args.z.now);
      put = simp b (fill-next l.z l.i v (plus_offsets (drop (l.i + 1) os) (drop (l.i + 1) (set l.z l.i v))) (plus_offsets os c.args.z.now) k
          (rw r (rw (plus-next os l.z l.i (omega (arith, c.loop-i-test.true, c.requires.offsets_of.boxes)) k, ← e) at l.invariant.put)));
    }

pub returns : goal.returns
returns c = let l = c.loop-i in let os = c.args.offsets.now in
    fill_end l.z l.i (plus_offsets os c.args.z.now) (omega (arith, c.loop-i-test.false, l.auto.z))
    (rw (plus-end os (drop l.i l.z) l.i (omega (arith, c.requires.offsets_of.boxes, c.loop-i-test.false))) at l.invariant.put)

-- The steps are those of the definition, and taking the offset off first or last is the same.
use Rattle.std.proofs.Common.{arith, sym, ◌∙◌, ap, ℤ}
use Rattle.ints.proofs.Laws.{back, back'}
use Rattle.ints.specs.Reach.{reach}
use Rattle.run.specs.Run.{leads_of, start_of}
use Rattle.run.specs.Call.{limit_of}
use Rattle.run.specs.inner.Coordinates.{less}
use Rattle.run.specs.inner.Limits.{clamp}
use Rattle.run.proofs.Coordinates.{start-less}
use Rattle.run.proofs.Leads.{lead-positions, leads-less}
use Rattle.run_columns.specs.inner.Sums.{ratings_between}
use Rattle.run_columns.proofs.SumLaws.{as_many}
use Rattle.run_halves.proofs.SmallBox.{small-start}
use Rattle.run_halves.proofs.halves.place_one.Goals as goal

pub minus-requires : goal.minus-requires
minus-requires c = let ns = c.args.near.now in let ws = ratings_between c.args.sums.now in
    simp (back' c.start.result c.start.type_inv) (rw (simp (back c.ranges.old) at c.start.ensures) (omega (
      arith,
      c.requires.1,
      small-start reach c.args.old (leads_of ns ws) c.requires.0
          (rw (lead-positions ns ws (omega (arith, as_many c.requires.3))) c.requires.2),
    )))

pub returns : goal.returns
returns c = let a = c.args in let ws = ratings_between a.sums.now in
    let o = back c.ranges.old in let t = back' c.start.result c.start.type_inv in let m = back' c.minus.result c.minus.type_inv in let r = back' c.raised.result c.raised.type_inv in
    let e = simp t at c.minus.ensures ∙ ap (less a.offset) (simp o at c.start.ensures) ∙ sym (start-less a.old (leads_of a.near.now ws) a.offset) ∙ ap (start_of (less a.offset a.old)) (leads-less a.offset a.near.now ws) in
    back' c.lowered.result c.lowered.type_inv ∙ rw (simp m at c.raised.ensures) at (simp r at c.lowered.ensures) ∙ ap (λ (x : ℤ). clamp (limit_of a.left) (limit_of a.right) x) e

-- What the positions and the marks of a plan that passes the checks ask for: its drawing has it.
use mathlib.Core.Path.{◌≡◌}
use mathlib.Core.Bool.{true}
use Prim.Native.Nat.{◌+◌}
use native.Mathlib.Omega.{arith}
use lib.ListN.{length, length-append}
use Rattle.plan.specs.Plan.{PlanData, vertex_count}
use Rattle.plan.specs.Acceptable.{acceptable}
use Rattle.passes.specs.Drawing.{drawing_of}
use Rattle.demand3.proofs.Theorem.{demand3}
use Rattle.report_lines.proofs.Listed.{final-within}
use Rattle.marks.specs.inner.Asked.{AskedAll}
use Rattle.marks.proofs.Acceptable.{asked-all}
use Rattle.sheet_data.proofs.ReadBack.{preliminary-long, final-long}
use Rattle.text_marks.specs.Positions.{both_of}

module _ (p : PlanData) (ok : acceptable p ≡ true) where
  -- ---- the positions
  pub both_long : length (both_of p) ≡ vertex_count p + vertex_count p
  both_long = let d = drawing_of p in omega (arith, length-append d.preliminary d.final, preliminary-long p ok, final-long p ok)

  -- ---- the marks
  pub marks-asked : AskedAll p.spacing p.sizes p.vias p.halves p.uppers p.lowers (drawing_of p).final
  marks-asked = asked-all p (drawing_of p).final ok (final-within (drawing_of p) (demand3 p ok).within) (final-long p ok)

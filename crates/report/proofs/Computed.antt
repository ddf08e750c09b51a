-- The one computed check: every case holds.
use mathlib.Core.Path.{refl}
use Rattle.report.specs.Cases.{Cases, boxes}
use Rattle.report.proofs.Open.{report_open}

pub cases : Cases
unfolding report_open boxes
cases = record {
  case1 = refl;
  case2 = refl;
  case3 = refl;
  case4 = refl;
  case5 = refl;
  case6 = refl;
  case7 = refl;
  case8 = refl;
  case9 = refl;
  gap100 = refl;
  gap101 = refl;
  boxes64 = refl;
  boxes65 = refl;
  rating2 = refl;
  rating100 = refl;
  rating101 = refl;
  rating1 = refl;
  rating0 = refl;
  heavy-lead = refl;
  outer-crossing = refl;
  inner-crossing = refl;
}

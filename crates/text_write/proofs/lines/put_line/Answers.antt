use Rattle.text_write.proofs.LineLaws.{Even, line-0, line-l, line-segment, line-last}
use Rattle.plan.specs.Plan.{PlanData}
use Rattle.plan.proofs.LimitLaws.{limits}
use native.Mathlib.Omega.{arith}
use mathlib.Core.Path.{◌≡◌}
use mathlib.Core.Bool.{true}
use Rattle.plan.specs.Acceptable.{limits_hold}
use Rattle.text_write.proofs.lines.put_line.Goals as goal

even : (p : PlanData) → limits_hold p ≡ true → Even p
even p h = let l = limits p h in (l.ends_long, l.ratings_long)

pub put_plan-requires : goal.put_plan-requires
put_plan-requires c = let e = c.if-n-eq0.true in rw line-0 at c.requires.room

pub returns-then-n-eq0 : goal.returns-then-n-eq0
returns-then-n-eq0 c = let e = c.if-n-eq0.true in rw line-0 c.put_plan.ensures

pub put_level-requires : goal.put_level-requires
put_level-requires c =
    let l = limits _ c.requires.plan in
    let e = c.if-n-eq0.false in
    let h = c.if-n-sizes.true in
    record {
      levels = l.lists.levels;
      level = omega arith;
      vertices = l.sizes_sum;
      half = l.halves_long;
      room = rw line-l at c.requires.room;
    }

pub returns-then-n-sizes : goal.returns-then-n-sizes
returns-then-n-sizes c = let e = c.if-n-eq0.false in let h = c.if-n-sizes.true in rw line-l c.put_level.ensures

pub bounds-lowers-i : goal.bounds-lowers-i
bounds-lowers-i c = omega (arith, even _ c.requires.plan, c.if-i-uppers.true)

pub bounds-ratings-i : goal.bounds-ratings-i
bounds-ratings-i c = omega (arith, even _ c.requires.plan, c.if-i-uppers.true)

pub put_segment-requires : goal.put_segment-requires
put_segment-requires c = let l = c.if-n-sizes.false in let e = even _ c.requires.plan in let h = c.if-i-uppers.true in rw line-segment at c.requires.room

pub returns-then-i-uppers : goal.returns-then-i-uppers
returns-then-i-uppers c = let l = c.if-n-sizes.false in let e = even _ c.requires.plan in let h = c.if-i-uppers.true in rw line-segment c.put_segment.ensures

pub put_word-requires : goal.put_word-requires
put_word-requires c =
    let l = c.if-n-sizes.false in let e = even _ c.requires.plan in let h = c.if-i-uppers.false in let k = c.requires.line in
    rw line-last at c.requires.room

pub returns : goal.returns
returns c =
    let l = c.if-n-sizes.false in let e = even _ c.requires.plan in let h = c.if-i-uppers.false in let k = c.requires.line in
    rw line-last c.put_word.ensures

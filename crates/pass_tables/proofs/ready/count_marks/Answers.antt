use mir.Val.{bool_byte}
use Rattle.std.proofs.Common.{◌≡◌, sym, refl, ℕ, ◌-◌, Bool, true, false, get_or, arith}
use Rattle.pass_tables.specs.inner.Joins.{one_if, marked_in}
use Rattle.pass_tables.proofs.JoinLaws.{stored-up, marks-none, marks-on, one-small}
use Rattle.pass_tables.proofs.ready.count_marks.Goals as goal

as_one : (b : Bool) → bool_byte b ≡ one_if b
as_one true = refl
as_one false = refl

pub loop-v-init : goal.loop-v-init
loop-v-init c = record { counted = sym (marks-none _ _ _ (omega arith)); few = omega arith; each = λ u h k. absurd (omega arith) }

pub loop-v-preserved : goal.loop-v-preserved
loop-v-preserved c = let a = c.args in
    let l = c.loop-v in
    let b = get_or a.marks.now l.v false in record {
      counted = omega (arith, marks-on a.marks.now a.from l.v (omega arith), as_one b);
      few = omega (arith, as_one b, one-small b);
      each = stored-up l.counts l.v l.count (λ (u : ℕ). marked_in a.marks.now a.from (u - a.from)) (omega arith) l.invariant.counted a.from l.invariant.each;
    }

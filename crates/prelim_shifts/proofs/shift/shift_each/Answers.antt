use Rattle.std.proofs.Common.{arith, rules, ◌≡◌, ◌∙◌, ◌+◌, ◌-◌, ◌*◌, ℕ, ℤ, List, sym, ap, subst, length}
use Rattle.ints.proofs.Laws.{back'}
use Rattle.preliminary.specs.Shift.{moved}
use Rattle.prelim_shifts.specs.inner.Counts.{moved_at}
use Rattle.prelim_shifts.specs.inner.Shifts.{gap_key, offset_key, Spread}
use Rattle.prelim_shifts.proofs.KeyLaws.{keys_long}
use Rattle.prelim_shifts.proofs.MoveLaws.{moved-class}
use Rattle.prelim_shifts.proofs.SpreadLaws.{spread-on}
use Rattle.prelim_shifts.proofs.ShiftLaws.{shift_is, shift-range, pairs_below, shifting-on, shifting-end}
use Rattle.prelim_shifts.proofs.shift.shift_each.Goals as goal

pub shift_of-d-requires-clause-rising : goal.shift_of-d-requires-clause-rising
shift_of-d-requires-clause-rising c =
    let a = c.args in
    let s = c.requires.shiftable in
    let k = c.requires.linked in
    (k.pairs.rising, k.pairs.long ∙ keys_long (gap_key a.classes.now) a.order.now a.right.now (s.rights ∙ sym s.orders), k.segments.rising, k.segments.long ∙ keys_long (offset_key a.classes.now) a.uppers.now a.lowers.now (sym s.ends), search rules)

pub shift_of-d-requires-clause-xs_len : goal.shift_of-d-requires-clause-xs_len
shift_of-d-requires-clause-xs_len c =
    let l = c.loop-c in
    let s = c.requires.shiftable in
    let k = c.requires.linked in
    let q = c.requires.xs_len in
    let t = c.loop-c-test.true in (
      l.auto.xs ∙ q.0,
      record { each = λ v. omega (arith, l.invariant.spread.each v, t, k.pair_heads) },
      λ i h. omega (arith, q.0, pairs_below _ _ _ _ _ _ _ _ _ _ _ _ _ s k l.c (omega arith) t l.xs i (rw c.from.ensures at h)),
    )

pub move_all-requires : goal.move_all-requires
move_all-requires c =
    let l = c.loop-c in
    let k = c.requires.linked in
    let t = c.loop-c-test.true in
    let d = c.shift_of-d.result in
    let b = back' d c.shift_of-d.type_inv in
    let d-is = rw (c.from.ensures, c.from-in-loop-c.ensures) at c.shift_of-d.ensures in
    let r = shift-range _ _ _ _ _ _ _ _ _ _ _ _ _ c.requires.shiftable k l.c (omega arith) t l.xs (512500 * l.c - 500) l.invariant.spread d d-is in
    simp b (
      k.members.rising,
      l.auto.xs ∙ c.requires.xs_len.0 ∙ sym k.members.long,
      record { each = λ v. omega (arith, l.invariant.spread.each v, t, k.pair_heads) },
      omega (arith, r.up, r.down, t, k.pair_heads),
    )

pub loop-c-preserved : goal.loop-c-preserved
loop-c-preserved c =
    let a = c.args in
    let l = c.loop-c in
    let s = c.requires.shiftable in
    let k = c.requires.linked in
    let t = c.loop-c-test.true in
    let classes = a.classes.now in
    let d = c.shift_of-d.result in
    let b = back' d c.shift_of-d.type_inv in
    let d-is = rw (c.from.ensures, c.from-in-loop-c.ensures) at c.shift_of-d.ensures in
    let long : length l.xs ≡ length classes = l.auto.xs ∙ c.requires.xs_len.0 in
    let r = shift-range _ _ _ _ _ _ _ _ _ _ _ _ _ s k l.c (omega arith) t l.xs (512500 * l.c - 500) l.invariant.spread d d-is in
    let members = rw c.from-in-loop-c-2.ensures at (simp b at c.move_all.ensures) in
    let now : c.move_all.new.xs ≡ moved l.c d classes l.xs = members ∙ ap (λ (vs : List ℕ). moved_at d vs l.xs) (k.members.each l.c (omega (arith, t, k.pair_heads, k.member_heads))) ∙ moved-class l.c d classes l.xs long in
    let far : 512500 * l.c - 500 + 512500 ≡ 512500 * (l.c + 1) - 500 = omega arith in
    record {
      spread = subst (λ (x : List ℤ). Spread (l.c + 1) (512500 * (l.c + 1) - 500) classes x) (sym now) (subst (λ (m : ℕ). Spread (l.c + 1) m classes (moved l.c d classes l.xs)) far (spread-on l.c (512500 * l.c - 500) d classes l.xs long l.invariant.spread r));
      shifting = shifting-on _ _ _ _ _ _ _ _ l.c l.xs a.xs.now l.invariant.shifting (omega (arith, t)) d c.move_all.new.xs (λ p siblings e. d-is ∙ shift_is _ _ _ _ _ _ _ _ _ _ _ _ _ s k l.c (omega arith) t l.xs p siblings e) now;
    }

pub returns : goal.returns
returns c =
    let k = c.requires.linked in
    let l = c.loop-c in
    record {
      small = record { each = λ v. omega (arith, l.invariant.spread.each v, k.pair_heads, k.heads) };
      each = shifting-end _ _ _ _ _ _ _ _ l.c l.xs c.args.xs.now l.invariant.shifting (omega (arith, c.loop-c-test.false, k.heads));
    }

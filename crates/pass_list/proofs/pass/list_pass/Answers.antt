-- `pass_list::pass::list_pass`: at every turn the levels before it are listed.
use Rattle.std.proofs.Common.{arith, ℕ, ◌≡◌, ◌<◌, ◌+◌, ◌-◌, ◌∙◌, ap, length, get_or}
use Rattle.pass_neighbours.specs.inner.Order.{turn_of}
use Rattle.pass_neighbours.proofs.OrderLaws.{turn_small}
use Rattle.pass_list.proofs.TurnLaws.{starts-many, listed-none, listed-all, level-end, fits-level, listed_more}
use Rattle.pass_list.proofs.pass.list_pass.Goals as goal

pub loop-k-init : goal.loop-k-init
loop-k-init c m x = listed-none x.is c.args.q x.stored

pub overflow_cast-i : goal.overflow_cast-i
overflow_cast-i c = omega (arith, c.turn-i.ensures, turn_small c.args.q c.loop-k.k (length c.args.starts.now - 1) c.loop-k-test.true, starts-many c.requires.is.is 0)

pub list_level-listed-requires : goal.list_level-listed-requires
list_level-listed-requires c =
    let s = c.requires in
    let x = s.is.is in
    let l = c.loop-k in
    let a = c.args in
    let e : length a.starts.now - 1 ≡ s.it.plan.levels = omega (arith, (starts-many x 0).0) in
    let h : l.k < s.it.plan.levels = omega (arith, c.loop-k-test.true, e) in
    let i : c.turn-i.result ≡ turn_of a.q l.k s.it.plan.levels = c.turn-i.ensures ∙ ap (turn_of a.q l.k) e in
    let f = c.from-start.ensures ∙ ap (λ (m : ℕ). get_or a.starts.now m 0) i in
    let g = c.from-to.ensures ∙ ap (λ (m : ℕ). get_or a.starts.now (m + 1) 0) i in
    let j = ap (λ (m : ℕ). m + 1) i in
    let t = l.invariant s.it s.is in
    record {
      it = _;
      is = record {
        is = level-end x a.q l.k h c.from-start.result c.from-to.result (c.turn-i.result + 1) j f g;
        stored = t;
        fits = fits-level x a.q l.k h c.from-start.result c.from-to.result (c.turn-i.result + 1) j f g s.it.before a.list.placings a.list.boxes l.listed.placings l.listed.boxes s.is.stored.placings s.is.stored.boxes s.is.fits t;
      };
    }

pub loop-k-preserved : goal.loop-k-preserved
loop-k-preserved c m y =
    let x = y.is in
    let l = c.loop-k in
    let a = c.args in
    let t = l.invariant m y in
    let e : length a.starts.now - 1 ≡ m.plan.levels = omega (arith, (starts-many x 0).0) in
    let h : l.k < m.plan.levels = omega (arith, c.loop-k-test.true, e) in
    let i : c.turn-i.result ≡ turn_of a.q l.k m.plan.levels = c.turn-i.ensures ∙ ap (turn_of a.q l.k) e in
    let f = c.from-start.ensures ∙ ap (λ (n : ℕ). get_or a.starts.now n 0) i in
    let g = c.from-to.ensures ∙ ap (λ (n : ℕ). get_or a.starts.now (n + 1) 0) i in
    let j = ap (λ (n : ℕ). n + 1) i in
    let start = c.from-start.result in
    let to = c.from-to.result in
    let level = c.turn-i.result + 1 in
    listed_more x a.q l.k h start to level j f g m.before _ _ _
    (c.list_level-listed.ensures _ (record { is = level-end x a.q l.k h start to level j f g; stored = t; fits = fits-level x a.q l.k h start to level j f g m.before a.list.placings a.list.boxes l.listed.placings l.listed.boxes y.stored.placings y.stored.boxes y.fits t }))

pub returns : goal.returns
returns c m y =
    let l = c.loop-k in
    let e : length c.args.starts.now - 1 ≡ m.plan.levels = omega (arith, (starts-many y.is 0).0) in
    listed-all y.is c.args.q m.before l.k _ _ _ (omega (arith, c.loop-k-test.false, e)) (l.invariant m y)

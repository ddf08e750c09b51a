-- `pass_visits::pass::pass` meets its contract: at every turn the levels before it are visited, and the last of them stands from `low` up to `high`.
use Rattle.std.proofs.Common.{arith, rules, ℕ, ◌≡◌, ◌<◌, ◌+◌, ◌-◌, sym, ◌∙◌, ap, subst, length, get_or}
use Rattle.pass_neighbours.specs.inner.Order.{turn_of}
use Rattle.pass_visits.specs.inner.Passing.{PassWork, pass_work}
use Rattle.pass_visits.proofs.PassLaws.{Turned, starts-many, turned-start, turned-end, level-next, turned-next}
use Rattle.pass_visits.proofs.pass.pass.Goals as goal

-- src/pass.rt:136:5
pub loop-k-init : goal.loop-k-init
loop-k-init g c m x = subst (λ (w : PassWork). Turned c.args.q 0 0 0 w.at w.apart w.marks m) (sym c.requires.0) (turned-start x)

-- src/pass.rt:140:9
pub enter_level-requires : goal.enter_level-requires
enter_level-requires g c = let s = c.requires.1 in let x = s.is in let l = c.loop-k in let a = c.args in
    let n = length a.starts.now - 1 in
    let e : n ≡ s.it.plan.levels = omega (arith, (starts-many x).0) in
    let h : l.k < s.it.plan.levels = omega (arith, c.loop-k-test.true, e) in
    let i : c.turn-i.result ≡ turn_of a.q l.k s.it.plan.levels = c.turn-i.ensures ∙ ap (turn_of a.q l.k) e in
    let f = c.from-start.ensures ∙ ap (λ (j : ℕ). get_or a.starts.now j 0) i in
    let u = c.from-to.ensures ∙ ap (λ (j : ℕ). get_or a.starts.now (j + 1) 0) i in
    let t = l.invariant s.it x in (
      ap (λ (w : PassWork). pass_work w.first w.ends w.sums l.at l.apart l.marks) c.requires.0,
      (
        record { it = _; is = level-next x t h c.from-start.result c.from-to.result f u },
        record { lefts = search rules; rights = search rules; numbers = search rules },
      ),
    )

-- src/pass.rt:136:5
pub loop-k-preserved : goal.loop-k-preserved
loop-k-preserved g c m x = let l = c.loop-k in let a = c.args in
    let t = l.invariant m x in
    let n = length a.starts.now - 1 in
    let e : n ≡ m.plan.levels = omega (arith, (starts-many x).0) in
    let h : l.k < m.plan.levels = omega (arith, c.loop-k-test.true, e) in
    let i : c.turn-i.result ≡ turn_of a.q l.k m.plan.levels = c.turn-i.ensures ∙ ap (turn_of a.q l.k) e in
    let f = c.from-start.ensures ∙ ap (λ (j : ℕ). get_or a.starts.now j 0) i in
    let u = c.from-to.ensures ∙ ap (λ (j : ℕ). get_or a.starts.now (j + 1) 0) i in
    turned-next x t h c.from-start.result c.from-to.result f u (c.enter_level.ensures _ (level-next x t h c.from-start.result c.from-to.result f u))

-- src/pass.rt:112:1
pub returns : goal.returns
returns g c m x = let l = c.loop-k in let e : length c.args.starts.now - 1 ≡ m.plan.levels = omega (arith, (starts-many x).0) in
    turned-end x (l.invariant m x) (omega (arith, c.loop-k-test.false, e)) (omega (arith, e))

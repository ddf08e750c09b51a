-- `pass_visits::pass::enter_level` meets its contract: the tables are those of the level, if any run asks, and stay right while it is visited.
use Rattle.std.proofs.Common.{arith, refl, sym, ◌∙◌, subst}
use Rattle.pass_visits.specs.inner.Visits.{work}
use Rattle.pass_visits.specs.inner.Passing.{PassWork, LevelNext}
use Rattle.pass_visits.proofs.EnterLaws.{level-fits, level-marked, marks-fit, rows-joinable, made}
use Rattle.pass_visits.proofs.pass.enter_level.Goals as goal

-- src/pass.rt:92:5
pub make_tables-requires : goal.make_tables-requires
make_tables-requires g c = let a = c.args in
    let s = c.requires.1.0 in
    let r = c.requires.1.1 in
    let k = subst (λ (w : PassWork). LevelNext a.q a.preceding.from a.preceding.to a.level.from a.level.to a.vias.now w s.it) (sym c.requires.0) s.is in
    let f = level-fits k in
    let m = marks-fit k in
    (f.1, omega (arith, f.0, r.lefts), omega (arith, f.0, r.rights), level-marked k, m.1, omega (arith, m.0, r.numbers), m.2, rows-joinable k)

-- src/pass.rt:106:5
pub visit_level-requires : goal.visit_level-requires
visit_level-requires g c = let a = c.args in let t = c.make_tables in
    let s = c.requires.1.0 in
    let r = c.requires.1.1 in
    let k = subst (λ (w : PassWork). LevelNext a.q a.preceding.from a.preceding.to a.level.from a.level.to a.vias.now w s.it) (sym c.requires.0) s.is in
    (refl {a = work a.first.now a.ends.now a.sums.now t.new.before t.new.after t.new.counts a.at.now a.apart.now a.marks.now}, record { it = s.it; is = made k (t.auto.before ∙ r.lefts) (t.auto.after ∙ r.rights) (t.auto.counts ∙ r.numbers) t.ensures })

-- src/pass.rt:71:1
pub returns : goal.returns
returns g c m x = let a = c.args in let t = c.make_tables in
    let r = c.requires.1.1 in
    let k = subst (λ (w : PassWork). LevelNext a.q a.preceding.from a.preceding.to a.level.from a.level.to a.vias.now w m) (sym c.requires.0) x in
    c.visit_level.ensures m (made k (t.auto.before ∙ r.lefts) (t.auto.after ∙ r.rights) (t.auto.counts ∙ r.numbers) t.ensures)

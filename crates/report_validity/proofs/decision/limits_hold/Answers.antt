use Rattle.std.proofs.Common.{sym, ◌∙◌, arith}
use Rattle.ints.proofs.Tests.{◌and◌}
use Rattle.text.proofs.Words.{never}
use Rattle.report_validity.proofs.Limits.{few_levels, limits-not, limits-last, limits-many}
use Rattle.report_validity.proofs.decision.limits_hold.Goals as goal

pub returns-then-not-numbers_fit : goal.returns-then-not-numbers_fit
returns-then-not-numbers_fit c = sym (limits-not _ (λ l. never (sym c.if-not-numbers_fit.true ∙ c.numbers_fit.ensures ∙ (l.levels and l.gap and l.spacing))))

pub returns-then-sizes-levels : goal.returns-then-sizes-levels
returns-then-sizes-levels c = sym (limits-not _ (λ l. c.if-sizes-levels.true l.counted))

pub returns-then-not-sizes_hold : goal.returns-then-not-sizes_hold
returns-then-not-sizes_hold c = sym (limits-not _ (λ l. never (sym c.if-not-sizes_hold.true ∙ c.sizes_hold.ensures ∙ l.sizes)))

pub total-requires : goal.total-requires
total-requires c = let a = c.args in omega (arith, few_levels a.levels a.gap a.spacing (sym c.numbers_fit.ensures ∙ c.if-not-numbers_fit.false), c.if-sizes-levels.false)

pub returns-then-total-vias : goal.returns-then-total-vias
returns-then-total-vias c = sym (limits-not _ (λ l. c.if-total-vias.true (c.total.ensures ∙ l.summed)))

pub returns-then-not-halves_hold : goal.returns-then-not-halves_hold
returns-then-not-halves_hold c = sym (limits-not _ (λ l. never (sym c.if-not-halves_hold.true ∙ c.halves_hold.ensures ∙ l.halves)))

pub returns-then-lowers-uppers : goal.returns-then-lowers-uppers
returns-then-lowers-uppers c = sym (limits-not _ (λ l. c.if-lowers-uppers.true l.ends))

pub returns-then-ratings-uppers : goal.returns-then-ratings-uppers
returns-then-ratings-uppers c = sym (limits-not _ (λ l. c.if-ratings-uppers.true l.rated))

pub returns-then-not-ratings_hold : goal.returns-then-not-ratings_hold
returns-then-not-ratings_hold c = sym (limits-not _ (λ l. never (sym c.if-not-ratings_hold.true ∙ c.ratings_hold.ensures ∙ l.ratings)))

pub returns-then-vias-le-MAX_VERTICES : goal.returns-then-vias-le-MAX_VERTICES
returns-then-vias-le-MAX_VERTICES c =
    limits-last _ (sym c.numbers_fit.ensures ∙ c.if-not-numbers_fit.false) c.if-sizes-levels.false (sym c.sizes_hold.ensures ∙ c.if-not-sizes_hold.false)
    (sym c.total.ensures ∙ c.if-total-vias.false) (sym c.halves_hold.ensures ∙ c.if-not-halves_hold.false)
    c.if-lowers-uppers.false c.if-ratings-uppers.false (sym c.ratings_hold.ensures ∙ c.if-not-ratings_hold.false) c.if-vias-le-MAX_VERTICES.true

pub returns-else-vias-le-MAX_VERTICES : goal.returns-else-vias-le-MAX_VERTICES
returns-else-vias-le-MAX_VERTICES c = limits-many _ c.if-vias-le-MAX_VERTICES.false

-- By what reading the text found.
use Rattle.std.proofs.Common.{rules, ◌≡◌, ap, ◌∙◌, Err, length}
use lib.Seq.{length-take-le}
use Rattle.plan.specs.Plan.{PlanData}
use Rattle.plan.proofs.HeldLaws.{held-is}
use Rattle.plan_untangle.specs.Order.{order}
use Rattle.sheet_fit.specs.inner.Fitted.{fitted_text}
use Rattle.sheet_fit.proofs.FitLaws.{writes}
use Rattle.text_report.specs.Tangled.{tangled_report_of}
use Rattle.text_report.specs.inner.Numbered.{report_numbered}
use Rattle.text_report.proofs.Shown.{numbers-front, remembers}
use Rattle.text_report.proofs.Texts.{tangled-of, tangled-not}
use Rattle.text_report.proofs.tangled.report_tangled_text.Goals as goal

pub returns-in_err-s : goal.returns-in_err-s
returns-in_err-s c =
    let r = c.in_err-s.field-0.0 in
    let b = c.args.out.now in
    let e : c.from_residual.result ≡ Err r = search rules in
    rw e (writes (ap (λ g. tangled_report_of g b) c.in_err-s.ensures) (tangled-not r b))

pub report_untangled-requires : goal.report_untangled-requires
report_untangled-requires c =
    let a = c.in_ok-s.ensures in
    let f = a.fronts in
    let n = numbers-front a.plan f.lists.ok _ (ap length f.lists.vias_are ∙ length-take-le _ _ f.vias_reach) a.numbered in
    rw n.front (remembers a.plan f.lists.ok (held-is c.in_ok-s.s.spacing f.lists f.spaced f.rated))

pub returns : goal.returns
returns c =
    let a = c.in_ok-s.ensures in
    let f = a.fronts in
    let n = numbers-front a.plan f.lists.ok _ (ap length f.lists.vias_are ∙ length-take-le _ _ f.vias_reach) a.numbered in
    let b = c.args.out.now in
    writes (ap (λ g. tangled_report_of g b) a.reads ∙ tangled-of a.plan b
    ∙ ap (λ (q : PlanData). fitted_text (report_numbered q (order a.plan)) b) (held-is c.in_ok-s.s.spacing f.lists f.spaced f.rated))
    (rw n.front at c.report_untangled.ensures)

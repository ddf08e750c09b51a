-- What checks 1 to 5 refuse the second way of reading refuses; else its plan is at the front of the arrays.
use Rattle.std.proofs.Common.{arith, rules, ◌≡◌, sym, ◌∙◌, Err}
use lib.Seq.{length-take-le}
use Rattle.text_read.proofs.SecondWay.{tangled-refused}
use Rattle.text_walk.proofs.WalkedLaws.{taken-in, walks-refused, walks-accepted}
use Rattle.text_walk.proofs.walk_text.Goals as goal

pub returns-in_err-tangled_verdict : goal.returns-in_err-tangled_verdict
returns-in_err-tangled_verdict c =
    let r = c.in_err-tangled_verdict.field-0.0 in
    let e : c.from_residual.result ≡ Err r = search rules in
    rw e
    (sym (walks-refused c.args.l c.args.text.now _
    (tangled-refused c.args.text.now c.read_into-r.result _ _ _ _ _ _ _ _ _ _ _ _ c.read_into-r.ensures _ c.tangled_verdict.ensures r c.in_err-tangled_verdict.was)))

pub slice_bounds-sizes-end : goal.slice_bounds-sizes-end
slice_bounds-sizes-end c = (taken-in c.args.text.now c.read_into-r.ensures _ c.tangled_verdict.ensures c.in_ok-tangled_verdict.was).fronts.sizes_reach

pub slice_bounds-walk_plan-end : goal.slice_bounds-walk_plan-end
slice_bounds-walk_plan-end c = sym (length-take-le _ _ (taken-in c.args.text.now c.read_into-r.ensures _ c.tangled_verdict.ensures c.in_ok-tangled_verdict.was).fronts.sizes_reach)

pub slice_bounds-vias-end : goal.slice_bounds-vias-end
slice_bounds-vias-end c = (taken-in c.args.text.now c.read_into-r.ensures _ c.tangled_verdict.ensures c.in_ok-tangled_verdict.was).fronts.vias_reach

pub slice_bounds-walk_plan-end-2 : goal.slice_bounds-walk_plan-end-2
slice_bounds-walk_plan-end-2 c = sym (length-take-le _ _ (taken-in c.args.text.now c.read_into-r.ensures _ c.tangled_verdict.ensures c.in_ok-tangled_verdict.was).fronts.vias_reach)

pub slice_bounds-uppers-end : goal.slice_bounds-uppers-end
slice_bounds-uppers-end c = (taken-in c.args.text.now c.read_into-r.ensures _ c.tangled_verdict.ensures c.in_ok-tangled_verdict.was).fronts.uppers_reach

pub slice_bounds-walk_plan-end-3 : goal.slice_bounds-walk_plan-end-3
slice_bounds-walk_plan-end-3 c = sym (length-take-le _ _ (taken-in c.args.text.now c.read_into-r.ensures _ c.tangled_verdict.ensures c.in_ok-tangled_verdict.was).fronts.uppers_reach)

pub slice_bounds-lowers-end : goal.slice_bounds-lowers-end
slice_bounds-lowers-end c = (taken-in c.args.text.now c.read_into-r.ensures _ c.tangled_verdict.ensures c.in_ok-tangled_verdict.was).fronts.lowers_reach

pub slice_bounds-walk_plan-end-4 : goal.slice_bounds-walk_plan-end-4
slice_bounds-walk_plan-end-4 c = sym (length-take-le _ _ (taken-in c.args.text.now c.read_into-r.ensures _ c.tangled_verdict.ensures c.in_ok-tangled_verdict.was).fronts.lowers_reach)

pub walk_plan-requires : goal.walk_plan-requires
walk_plan-requires c =
    let f = (taken-in c.args.text.now c.read_into-r.ensures _ c.tangled_verdict.ensures c.in_ok-tangled_verdict.was).fronts in
    (f.levels, f.ends, f.sorted)

pub returns : goal.returns
returns c =
    let t = taken-in c.args.text.now c.read_into-r.ensures _ c.tangled_verdict.ensures c.in_ok-tangled_verdict.was in
    c.walk_plan.ensures ∙ sym (t.fronts.walks c.args.l) ∙ sym (walks-accepted c.args.l c.args.text.now t.plan t.reads)

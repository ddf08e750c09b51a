-- What the first way refuses by another check than 6 the second refuses too; all else is a plan, at the front of the arrays.
use Rattle.std.proofs.Common.{rules, ◌≡◌, sym, ap, ◌∙◌, Ok, Err}
use Rattle.text_read.proofs.SecondWay.{tangled-refused, tangled-taken}
use Rattle.text_untangle.proofs.ArrayLaws.{tangled-in, accepts-tangled}
use Rattle.text_untangle.proofs.read_tangled_into.Goals as goal

pub returns-in_err-tangled_verdict : goal.returns-in_err-tangled_verdict
returns-in_err-tangled_verdict c =
    let r = c.in_err-tangled_verdict.field-0.0 in
    let e : c.from_residual.result ≡ Err r = search rules in
    let t = tangled-refused c.args.text.now c.read_into-r.result _ _ _ _ _ _ _ _ _ _ _ _ c.read_into-r.ensures _ c.tangled_verdict.ensures r c.in_err-tangled_verdict.was in
    rw e t

pub untangle_fronts-requires : goal.untangle_fronts-requires
untangle_fronts-requires c =
    let s = c.args.text.now in
    let f = c.read_into-r.ensures in
    let p = tangled-taken s c.read_into-r.result _ _ _ _ _ _ _ _ _ _ _ _ f _ c.tangled_verdict.ensures c.in_ok-tangled_verdict.was in
    record { plan = p.0; fronts = tangled-in s p.0 p.1 _ _ _ _ _ _ _ _ _ _ _ _ _ (f.kept p.0 p.1) _ c.requires.1 }

pub returns : goal.returns
returns c =
    let s = c.args.text.now in
    let f = c.read_into-r.ensures in
    let p = tangled-taken s c.read_into-r.result _ _ _ _ _ _ _ _ _ _ _ _ f _ c.tangled_verdict.ensures c.in_ok-tangled_verdict.was in
    let k = f.kept p.0 p.1 in
    let t = tangled-in s p.0 p.1 _ _ _ _ _ _ _ _ _ _ _ _ _ k _ c.requires.1 in
    accepts-tangled s p.0 p.1 _ _ _ _ _ _ _ _ _ _ _ _ _ k _ _ _ _ _ _ _ (c.untangle_fronts.ensures p.0 t)

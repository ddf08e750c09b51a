-- By what the names answered.
use native.Mathlib.Omega.{arith}
use Rattle.std.proofs.lemmas.Result.{err_from_is_err_and}
use Rattle.plan.proofs.HeldLaws.{few_vertices}
use Rattle.picture_text.proofs.TextLaws.{good-named, bad-refused}
use Rattle.picture_text.proofs.whole.picture_plan.Goals as goal

pub index_names-requires : goal.index_names-requires
index_names-requires c = let k = few_vertices _ c.requires in (k, k)

pub returns-in_err-index_names : goal.returns-in_err-index_names
returns-in_err-index_names c =
    let p = err_from_is_err_and c.from_residual.result c.from_residual.ensures.1 in
    rw (p.1, p.2) (bad-refused _ c.args.out.now c.index_names.ensures c.in_err-index_names.was)

pub picture_named-requires : goal.picture_named-requires
picture_named-requires c =
    let n = c.index_names in
    let k = few_vertices _ c.requires in
    let l = good-named n.ensures c.in_ok-index_names.was in
    record {
      plan = c.requires;
      names = l.names;
      good = l.good;
      holds = l.holds;
      starts_long = omega (arith, k, n.auto.starts);
      ends_long = omega (arith, k, n.auto.ends);
    }

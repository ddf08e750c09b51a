use Rattle.std.proofs.Common.{List, ℤ}
use Rattle.plan_checks.specs.inner.Heights.{HeightsOf}
use mathlib.Core.Path.{◌≡◌, sym, ◌∙◌, ap}
use mathlib.Core.List.{[]}
use Prim.Native.Nat.{ℕ, ◌+◌, ◌-◌, ◌*◌, ◌≤◌, ◌<◌}
use native.Mathlib.Nat.{mul-le-mul}
use native.Mathlib.Omega.{arith}
use lib.ListN.{length, get_or}
use lib.Seq.{length-take-le}
use Rattle.plan.specs.Plan.{PlanData, height_of, level_of}
use Rattle.plan.proofs.LimitLaws.{Limits}
use Rattle.plan.proofs.Sound.{sound}
use Rattle.plan.specs.inner.Held.{held_plan}
use Rattle.marks.specs.Marks.{depth_of}
use Rattle.picture_names.specs.inner.Indexed.{name_at}
use Rattle.picture_view.specs.Measure.{measure}
use Rattle.picture_view.specs.View.{view_height}
use Rattle.picture_marks.specs.Picture.{picture_of}
use Rattle.picture_marks.specs.inner.Asked.{names_in, PictureAsked}
use Rattle.picture_marks.specs.inner.Listed.{document_in}
use Rattle.picture_marks.proofs.ByLists.{picture-is, document-stands, view-low, given-at}
use Rattle.picture_marks.proofs.picture.put_picture.Goals as goal

limits-of : {p : PlanData} {xs : List ℤ} {names starts ends : List ℕ} → PictureAsked p xs names starts ends → Limits p
limits-of {p} r = (sound p r.drawn.plan).limits

-- the height of the view, of a plan whose measure is u
high_is : (p : PlanData) (u : ℕ) → u ≡ measure p → p.spacing * (p.levels - 1) + u ≡ view_height p
unfolding height_of
high_is p u e = ap (λ (n : ℕ). p.spacing * (p.levels - 1) + n) e

-- the heights are those of the vertices
stand : (p : PlanData) {heights : List ℕ} → HeightsOf p.spacing p.sizes heights → length heights ≡ length p.vias → (v : ℕ) → v < length p.vias → depth_of p v ≡ get_or heights v 0
unfolding height_of level_of
stand p t n v h = sym (t.each v (omega (arith, n)))

-- the picture is the document of these lists
same : {p : PlanData} {xs : List ℤ} {names starts ends heights : List ℕ} → PictureAsked p xs names starts ends → HeightsOf p.spacing p.sizes heights → length heights ≡ length p.vias
    → picture_of p xs (names_in names starts ends (length p.vias))
    ≡ document_in (measure p) (view_height p) heights p.vias p.halves p.uppers p.lowers p.ratings xs (name_at names starts ends)
same {p} {xs} {names} {starts} {ends} {heights} r t n =
    let f = name_at names starts ends in
    picture-is p xs heights (stand p t n) r.drawn.plan (names_in names starts ends (length p.vias)) f (λ v h. given-at f [] (length p.vias) v h)

pub slice_bounds-height-end : goal.slice_bounds-height-end
slice_bounds-height-end c = (limits-of c.requires.0).vertices

pub heights-requires : goal.heights-requires
heights-requires c = let l = limits-of c.requires.0 in (l.lists.levels, rw (length-take-le _ _ l.vertices) l.vertices)

pub measure-u-requires : goal.measure-u-requires
measure-u-requires c = (limits-of c.requires.0).gap_high

pub overflow_sub-high : goal.overflow_sub-high
overflow_sub-high c = let l = limits-of c.requires.0 in omega (arith, l.levels_low)

pub overflow_mul-high : goal.overflow_mul-high
overflow_mul-high c =
    let a = c.args in
    let l = limits-of c.requires.0 in
    let few : length a.sizes.now - 1 ≤ 64 = omega (arith, l.levels_high) in
    let low : a.spacing * (length a.sizes.now - 1) ≤ 10000 * 64 = mul-le-mul l.spacing_high few in
    omega arith

pub overflow_add-high : goal.overflow_add-high
unfolding measure
overflow_add-high c =
    let a = c.args in
    let p = held_plan a.gap a.spacing a.sizes.now a.vias.now a.halves.now a.uppers.now a.lowers.now a.ratings.now in
    omega (arith, high_is p c.measure-u.result c.measure-u.ensures, view-low p a.finals.now c.requires.0.drawn)

pub slice_bounds-height-end-2 : goal.slice_bounds-height-end-2
slice_bounds-height-end-2 c = sym (length-take-le _ _ (limits-of c.requires.0).vertices)

pub put_document-requires : goal.put_document-requires
unfolding measure
put_document-requires c =
    let a = c.args in
    let p = held_plan a.gap a.spacing a.sizes.now a.vias.now a.halves.now a.uppers.now a.lowers.now a.ratings.now in
    let long : length c.heights.new.out ≡ length c.args.vias.now = c.heights.auto.out ∙ length-take-le _ _ (limits-of c.requires.0).vertices in
    let m : c.measure-u.result ≡ measure p = c.measure-u.ensures in
    rw (high_is p c.measure-u.result m, m) (
      record { parts = document-stands p a.finals.now c.requires.0.drawn c.heights.new.out long (stand p c.heights.ensures long); names = c.requires.0.names },
      rw (same c.requires.0 c.heights.ensures long) at c.requires.1,
    )

pub returns : goal.returns
unfolding measure
returns c =
    let a = c.args in
    let p = held_plan a.gap a.spacing a.sizes.now a.vias.now a.halves.now a.uppers.now a.lowers.now a.ratings.now in
    let long : length c.heights.new.out ≡ length c.args.vias.now = c.heights.auto.out ∙ length-take-le _ _ (limits-of c.requires.0).vertices in
    let m : c.measure-u.result ≡ measure p = c.measure-u.ensures in
    rw (same c.requires.0 c.heights.ensures long) (rw (high_is p c.measure-u.result m, m) at c.put_document.ensures)

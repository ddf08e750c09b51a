-- `text_read::form::scan` meets its contract: by what stands on the lines, `Texts` says whether the text is in the form, and what is stored of it.
use mathlib.Core.Path.{◌≡◌, refl, ◌∙◌}
use mathlib.Core.Bool.{true, false}
use borrow.Author.Tests.{not-true, not-false}
use Rattle.text_scan.specs.inner.Scanned.{header_of}
use Rattle.text_read.proofs.Texts.{form-none, form-broken, form-ends, scans-none, scans-lines}
use Rattle.text_scan.proofs.Lines.{found, found-not}
use Rattle.text_read.proofs.form.scan.Goals as goal

pub returns-then-not-h : goal.returns-then-not-h
returns-then-not-h c =
    let a = c.args in
    scans-none a.text.now _ _ _ _ _ _ _ _ _ _ _ _ _ refl (form-none a.text.now (found-not c.header_at-h.ensures (not-true _ c.if-not-h.true)))

pub returns-then-not-r : goal.returns-then-not-r
returns-then-not-r c =
    let r = c.level_lines-r in
    let h = c.header_at-h in
    let a = c.args in
    scans-none a.text.now _ _ _ _ _ _ _ _ _ _ _ _ _ refl
    (form-broken a.text.now (header_of h.result) _ _ r.ensures.rows (found h.ensures (not-false _ c.if-not-h.false)) r.ensures.gives _ (r.ensures.broken (not-true _ c.if-not-r.true)))

pub returns-then-not-ends : goal.returns-then-not-ends
returns-then-not-ends c =
    let s = c.segment_lines-s in
    let r = c.level_lines-r in
    let h = c.header_at-h in
    let a = c.args in
    let f : c.ends.result ≡ false = c.if-not-ends.true in
    scans-none a.text.now _ _ _ _ _ _ _ _ _ _ _ _ _ refl
    (form-ends a.text.now (header_of h.result) _ _ r.ensures.rows (found h.ensures (not-false _ c.if-not-h.false)) r.ensures.gives s.ensures.segments s.result.next _ s.ensures.gives c.ends.ensures ∙ rw f)

pub returns : goal.returns
returns c =
    let s = c.segment_lines-s in
    let r = c.level_lines-r in
    let h = c.header_at-h in
    let a = c.args in
    let p = c.requires in
    let f : c.ends.result ≡ true = c.if-not-ends.false in
    scans-lines a.text.now _ _ _ _ _ _ _ _ _ _ _ _ h.result _ _ r.result s.result r.ensures s.ensures (not-false _ c.if-not-r.false) p.sizes_fit p.vias_fit
    p.halves_fit p.uppers_fit p.lowers_fit p.ratings_fit c.in_limits.result c.in_limits.ensures
    (form-ends a.text.now (header_of h.result) _ _ r.ensures.rows (found h.ensures (not-false _ c.if-not-h.false)) r.ensures.gives s.ensures.segments s.result.next _ s.ensures.gives c.ends.ensures ∙ rw f)

use mathlib.Core.Path.{◌≡◌, sym}
use native.Mathlib.Omega.{arith}
use borrow.Author.Rules.{rules}
use lib.ListN.{length}
use lib.Seq.{length-take-le}
use Rattle.picture_marks.specs.inner.Asked.{max_picture}
use Rattle.picture_fit.proofs.FitLaws.{fits, asked-short, enough, copied-long, copied_is}
use Rattle.picture_fit.proofs.fit.fit_picture.Goals as goal

pub put_picture-length-requires : goal.put_picture-length-requires
put_picture-length-requires c =
    let a = c.args in
    let short = asked-short _ a.finals.now a.names.now a.starts.now a.ends.now c.requires.0 c.requires.1 in
    let long : length c.blank-room.result ≡ max_picture = search rules in
    (c.requires.0, enough _ c.blank-room.result max_picture short long)

pub slice_bounds-room-end : goal.slice_bounds-room-end
slice_bounds-room-end c =
    let a = c.args in
    let short = asked-short _ a.finals.now a.names.now a.starts.now a.ends.now c.requires.0 c.requires.1 in
    let long : length c.blank-room.result ≡ max_picture = search rules in
    copied-long c.put_picture-length.ensures short long

pub slice_bounds-fit-end : goal.slice_bounds-fit-end
slice_bounds-fit-end c =
    let a = c.args in
    let short = asked-short _ a.finals.now a.names.now a.starts.now a.ends.now c.requires.0 c.requires.1 in
    let long : length c.blank-room.result ≡ max_picture = search rules in
    sym (length-take-le _ _ (copied-long c.put_picture-length.ensures short long))

pub returns-then-out-lt-MAX_PICTURE : goal.returns-then-out-lt-MAX_PICTURE
returns-then-out-lt-MAX_PICTURE c =
    let a = c.args in
    let short = asked-short _ a.finals.now a.names.now a.starts.now a.ends.now c.requires.0 c.requires.1 in
    let long : length c.blank-room.result ≡ max_picture = search rules in
    rw (copied_is c.put_picture-length.ensures short long) at c.fit.ensures

pub put_picture-requires : goal.put_picture-requires
put_picture-requires c =
    let a = c.args in
    let short = asked-short _ a.finals.now a.names.now a.starts.now a.ends.now c.requires.0 c.requires.1 in
    (c.requires.0, omega (arith, short, c.if-out-lt-MAX_PICTURE.false))

pub returns : goal.returns
returns c =
    let a = c.args in
    let short = asked-short _ a.finals.now a.names.now a.starts.now a.ends.now c.requires.0 c.requires.1 in
    fits (omega (arith, short, c.if-out-lt-MAX_PICTURE.false)) c.put_picture.ensures

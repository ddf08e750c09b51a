-- A text that has room in a buffer, and one that has not. Assumes nothing.
use mathlib.Core.Path.{◌≡◌, refl, sym, ◌∙◌, ap}
use mathlib.Core.List.{List, map}
use Prim.Native.Nat.{ℕ, ◌≤◌, ◌<◌}
use native.Mathlib.Omega.{arith}
use borrow.Author.Tests.{lt-ltb, le-ltb}
use lib.ListN.{length, take, drop, length-map}
use lib.Seq.{take_at}
use lib.IntN.{ℤ}
use Rattle.std.specs.Prelude.{Ok, Err}
use Rattle.ints.specs.Lists.{sum}
use Rattle.ints.specs.declared.refusal.Refusal.TheVariants.{Room as TooShort}
use Rattle.plan.specs.Plan.{PlanData, numbers}
use Rattle.plan.proofs.Levels.{length-numbers}
use Rattle.text_write.specs.inner.Written.{Room, Wrote}
use Rattle.text_write.proofs.Written.{wrote-long, front_of}
use Rattle.picture_names.specs.inner.Indexed.{name_at}
use Rattle.picture_marks.specs.Picture.{picture_of}
use Rattle.picture_marks.specs.inner.Asked.{names_in, PictureAsked, max_picture}
use Rattle.picture_marks.proofs.Lengths.{picture-short}
use Rattle.picture_fit.specs.declared.types.PictureError.TheVariants.{Refused}
use Rattle.picture_fit.specs.Fitted.{written, fitted, Leaves}

pub fits_not : (w o : List ℕ) → length o < length w → Leaves (fitted w o) (Err (Refused TooShort)) o
unfolding fitted
fits_not w o h = rw (lt-ltb (length o) (length w) h) (record { answer = refl; buffer = refl })

pub fits : {w o out : List ℕ} {n : ℕ} → length w ≤ length o → Wrote w o 0 n out → Leaves (fitted w o) (Ok n) out
unfolding fitted
fits {w} {o} {out} {n} h k =
    let f = front_of k h in
    rw (le-ltb (length o) (length w) h) (record { answer = ap written f.count; buffer = f.bytes })

-- no picture is longer than the longest
module _ (p : PlanData) (xs : List ℤ) (text starts ends : List ℕ) where
  pub asked-short : PictureAsked p xs text starts ends → sum (map length (names_in text starts ends (length p.vias))) ≤ 65536
      → length (picture_of p xs (names_in text starts ends (length p.vias))) ≤ max_picture
  asked-short a short =
      let n = length p.vias in
      picture-short p xs (names_in text starts ends n) a.drawn (length-map (numbers 0 n) (name_at text starts ends) ∙ length-numbers 0 n) short

-- a buffer with room for it, and what was written there
pub enough : (w o : List ℕ) (k : ℕ) → length w ≤ k → length o ≡ k → Room w o 0
enough w o k short long = omega (arith, short, long)

module _ {w o out : List ℕ} {n k : ℕ} (h : Wrote w o 0 n out) (short : length w ≤ k) (long : length o ≡ k) where
  pub copied-long : n ≤ length out
  copied-long = omega (arith, h.next, wrote-long h)

  pub copied_is : take n out ≡ w
  copied_is =
      let f = front_of h (omega arith) in
      ap (take n) f.bytes ∙ take_at w (drop (length w) o) n (sym f.count)

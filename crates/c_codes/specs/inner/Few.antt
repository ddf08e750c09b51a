-- What turning an answer into a number asks: a length or a count of 63 bits.
use Rattle.std.specs.Prelude.{◌<◌, ◌^◌, ℕ, Result, Ok, Err}
use Rattle.picture_fit.specs.declared.types.PictureError.{PictureError}

abbrev pub Few : {R : Type 0} → Result ℕ R → Type 0
Few (Ok n) = n < 2 ^ 63
Few (Err r) = Unit

abbrev pub FewDrawn : {R : Type 0} → Result ℕ (PictureError R) → Type 0
FewDrawn (Ok n) = n < 2 ^ 63
FewDrawn (Err e) = Unit

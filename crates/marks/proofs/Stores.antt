-- The kinds' numbers as constants. Assumes nothing.
use mathlib.Core.Path.{◌≡◌, refl}
use lib.Ieee.{binary64, of_bits, of_int, of_fields, odd, round, size, units, span, climb}
use lib.Count.{count_trailing_zeros}
use Rattle.marks.specs.Half.{whole_of}

pub is0 : of_bits binary64 0 ≡ whole_of 0
unfolding whole_of of_int of_bits of_fields odd round count_trailing_zeros size units span climb
is0 = refl

pub is1 : of_bits binary64 4607182418800017408 ≡ whole_of 1
unfolding whole_of of_int of_bits of_fields odd round count_trailing_zeros size units span climb
is1 = refl

pub is2 : of_bits binary64 4611686018427387904 ≡ whole_of 2
unfolding whole_of of_int of_bits of_fields odd round count_trailing_zeros size units span climb
is2 = refl

-- Segment lines, as the loop over them has found and stored them so far.
use mathlib.Core.Path.{◌≡◌, refl, sym, ◌∙◌}
use mathlib.Core.Bool.{Bool, true, ◌&&◌}
use mathlib.Core.List.{List, [], ◌∷◌, ◌++◌, map}
use Prim.Native.Nat.{ℕ, ◌+◌, ◌≤◌, ◌<◌}
use native.Mathlib.Omega.{arith}
use lib.ListN.{length, drop, set, length-set}
use lib.Seq.{sets}
use Rattle.plan.specs.Checks.{every}
use Rattle.text.specs.Parser.{got, nothing}
use Rattle.text.specs.Form.{SegmentLine, segment_line}
use Rattle.text.specs.Reading.{rating_in_limit, rating_of}
use Rattle.text_read.specs.inner.Filled.{uppers_of, lowers_of, ratings_of, FindsSegments}
use Rattle.text.proofs.Repeats.{Reached, reached-none, reached-more, reached-end}
use Rattle.text_scan.proofs.Stores.{sets_more, every_more}

pub record SegmentsSoFar (s : List ℕ) (from : ℕ) (uppers₀ lowers₀ ratings₀ uppers lowers ratings : List ℕ) (at count : ℕ) (fit : Bool) : Type 0 where
  pub segments : List SegmentLine
  pub reached : Reached segment_line (length s) s from count at segments
  pub fit_is : fit ≡ every (λ s. rating_in_limit s.rating) segments
  pub uppers_stored : uppers ≡ sets uppers₀ 0 (uppers_of segments)
  pub lowers_stored : lowers ≡ sets lowers₀ 0 (lowers_of segments)
  pub ratings_stored : ratings ≡ sets ratings₀ 0 (ratings_of segments)
  pub uppers_long : length uppers ≡ length uppers₀
  pub lowers_long : length lowers ≡ length lowers₀
  pub ratings_long : length ratings ≡ length ratings₀

one_more : (f : SegmentLine → ℕ) (l : List ℕ) (n : ℕ) (ss : List SegmentLine) (x : SegmentLine) → n ≡ length ss → sets l 0 (map f (ss ++ x ∷ [])) ≡ set (sets l 0 (map f ss)) n (f x)
one_more f l n ss x e = let z : 0 + n ≡ n = omega arith in sets_more f l 0 n ss x e ∙ rw z

module _ (s : List ℕ) (from : ℕ) (uppers₀ lowers₀ ratings₀ : List ℕ) where
  pub segments-none : from ≤ length s → SegmentsSoFar s from uppers₀ lowers₀ ratings₀ uppers₀ lowers₀ ratings₀ from 0 true
  unfolding every
  segments-none h = record {
    segments = [];
    reached = reached-none segment_line (length s) s from h;
    fit_is = refl;
    uppers_stored = refl;
    lowers_stored = refl;
    ratings_stored = refl;
    uppers_long = refl;
    lowers_long = refl;
    ratings_long = refl;
  }

  module _ {uppers lowers ratings : List ℕ} {at count : ℕ} {fit : Bool} (R : SegmentsSoFar s from uppers₀ lowers₀ ratings₀ uppers lowers ratings at count fit) where
    pub segments-more : {uppers' lowers' ratings' : List ℕ} {fit' : Bool} (x : SegmentLine) (next : ℕ) → segment_line (drop at s) ≡ got x (drop next s) → at < next → next ≤ length s
        → uppers' ≡ set uppers count x.segment.upper → lowers' ≡ set lowers count x.segment.lower → ratings' ≡ set ratings count (rating_of x.rating)
        → fit' ≡ fit && rating_in_limit x.rating → SegmentsSoFar s from uppers₀ lowers₀ ratings₀ uppers' lowers' ratings' next (count + 1) fit'
    segments-more x next e up i p q w f = record {
      segments = R.segments ++ x ∷ [];
      reached = reached-more segment_line (length s) s from count at next R.segments x (omega arith) R.reached e up i;
      fit_is = f ∙ rw R.fit_is (sym (every_more (λ y. rating_in_limit y.rating) R.segments x));
      uppers_stored = p ∙ rw R.uppers_stored (sym (one_more (λ y. y.segment.upper) uppers₀ count R.segments x R.reached.counted));
      lowers_stored = q ∙ rw R.lowers_stored (sym (one_more (λ y. y.segment.lower) lowers₀ count R.segments x R.reached.counted));
      ratings_stored = w ∙ rw R.ratings_stored (sym (one_more (λ y. rating_of y.rating) ratings₀ count R.segments x R.reached.counted));
      uppers_long = rw (p, length-set) R.uppers_long;
      lowers_long = rw (q, length-set) R.lowers_long;
      ratings_long = rw (w, length-set) R.ratings_long;
    }

    pub segments-end : segment_line (drop at s) ≡ nothing → FindsSegments s from (record { count = count; fit = fit; next = at }) uppers₀ lowers₀ ratings₀ uppers lowers ratings
    segments-end e = record {
      segments = R.segments;
      gives = reached-end segment_line (length s) s from count at R.segments R.reached e;
      inside = R.reached.inside;
      counted = R.reached.counted;
      fit = R.fit_is;
      uppers_stored = R.uppers_stored;
      lowers_stored = R.lowers_stored;
      ratings_stored = R.ratings_stored;
    }

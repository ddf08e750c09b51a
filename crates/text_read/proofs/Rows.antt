-- The vertices of a level line, as the loop over them has found and stored them so far.
use mathlib.Core.Path.{◌≡◌, refl, sym, ◌∙◌}
use mathlib.Core.Bool.{Bool, true, ◌&&◌}
use mathlib.Core.List.{List, [], ◌∷◌, ◌++◌}
use Prim.Native.Nat.{ℕ, suc, ◌+◌, ◌≤◌, ◌<◌}
use native.Mathlib.Omega.{arith}
use lib.ListN.{length, drop, set, length-set}
use lib.Seq.{sets}
use Rattle.plan.specs.Checks.{every}
use Rattle.ints.proofs.Tests.{and_left, and_right}
use Rattle.text.specs.Parser.{got, nothing}
use Rattle.text.specs.Form.{Vertex}
use Rattle.text.specs.Reading.{half_in_limit}
use Rattle.text_scan.specs.inner.Scanned.{vertex}
use Rattle.text_read.specs.inner.Filled.{vias_of, halves_of, FindsRow}
use Rattle.text.proofs.Repeats.{Reached, reached-none, reached-more, reached-end}
use Rattle.text_scan.proofs.Stores.{sets_more, every_more}

pub record RowSoFar (s : List ℕ) (from first : ℕ) (vias₀ : List Bool) (halves₀ : List ℕ) (vias : List Bool) (halves : List ℕ) (at count : ℕ) (fit : Bool) : Type 0 where
  pub vertices : List Vertex
  pub reached : Reached vertex (suc (length s)) s from count at vertices
  pub fit_is : fit ≡ every half_in_limit vertices
  pub vias_stored : vias ≡ sets vias₀ first (vias_of vertices)
  pub halves_stored : fit ≡ true → halves ≡ sets halves₀ first (halves_of vertices)
  pub vias_long : length vias ≡ length vias₀
  pub halves_long : length halves ≡ length halves₀

module _ (s : List ℕ) (from first : ℕ) (vias₀ : List Bool) (halves₀ : List ℕ) where
  pub row-none : from ≤ length s → RowSoFar s from first vias₀ halves₀ vias₀ halves₀ from 0 true
  unfolding every
  row-none h = record { vertices = []; reached = reached-none vertex (suc (length s)) s from h; fit_is = refl; vias_stored = refl; halves_stored = λ e. refl; vias_long = refl; halves_long = refl }

  module _ {vias : List Bool} {halves : List ℕ} {at count : ℕ} {fit : Bool} (R : RowSoFar s from first vias₀ halves₀ vias halves at count fit) where
    pub row_more : {vias' : List Bool} {halves' : List ℕ} {fit' : Bool} (v : Vertex) (next h : ℕ)
        → vertex (drop at s) ≡ got v (drop next s) → at < next → next ≤ length s → (half_in_limit v ≡ true → h ≡ v.half)
        → vias' ≡ set vias (first + count) v.via → halves' ≡ set halves (first + count) h → fit' ≡ fit && half_in_limit v
        → RowSoFar s from first vias₀ halves₀ vias' halves' next (count + 1) fit'
    row_more v next h e up i k p q f = record {
      vertices = R.vertices ++ v ∷ [];
      reached = reached-more vertex (suc (length s)) s from count at next R.vertices v (omega arith) R.reached e up i;
      fit_is = f ∙ rw R.fit_is (sym (every_more half_in_limit R.vertices v));
      vias_stored = p ∙ rw R.vias_stored (sym (sets_more (λ x. x.via) vias₀ first count R.vertices v R.reached.counted));
      halves_stored = λ t.
          let b : (fit && half_in_limit v) ≡ true = sym f ∙ t in
          q ∙ rw (R.halves_stored (and_left fit (half_in_limit v) b), k (and_right fit (half_in_limit v) b)) (sym (sets_more (λ x. x.half) halves₀ first count R.vertices v R.reached.counted));
      vias_long = rw (p, length-set) R.vias_long;
      halves_long = rw (q, length-set) R.halves_long;
    }

    pub row-end : (form : Bool) → vertex (drop at s) ≡ nothing → FindsRow s from first (record { form = form; count = count; fit = fit; next = at }) vias₀ halves₀ vias halves
    row-end form e = record {
      vertices = R.vertices;
      gives = reached-end vertex (suc (length s)) s from count at R.vertices R.reached e;
      inside = R.reached.inside;
      counted = R.reached.counted;
      onward = R.reached.onward;
      fit = R.fit_is;
      vias_stored = R.vias_stored;
      halves_stored = R.halves_stored;
    }

-- Segments and their two lists of ends. Assumes nothing.
use Prim.Native.Nat.{ℕ, zero, suc, ◌<◌}
use mathlib.Core.Path.{◌≡◌, refl, ap}
use mathlib.Core.List.{List, [], ◌∷◌, map}
use native.Mathlib.Omega.{arith}
use lib.ListN.{length, get_or}
use Rattle.plan.specs.Segments.{Segment, segments_from}
use Rattle.plan.specs.inner.Graph.{segment}

pub uppers-again : («as» bs : List ℕ) → length bs ≡ length «as» → map (λ s. s.upper) (segments_from «as» bs) ≡ «as»
unfolding segments_from
uppers-again [] bs e = refl
uppers-again (a ∷ «as») [] e = absurd (omega arith)
uppers-again (a ∷ «as») (b ∷ bs) e = rw (uppers-again «as» bs (omega arith))

pub lowers-again : («as» bs : List ℕ) → length bs ≡ length «as» → map (λ s. s.lower) (segments_from «as» bs) ≡ bs
unfolding segments_from
lowers-again [] [] e = refl
lowers-again [] (b ∷ bs) e = absurd (omega arith)
lowers-again (a ∷ «as») [] e = absurd (omega arith)
lowers-again (a ∷ «as») (b ∷ bs) e = rw (lowers-again «as» bs (omega arith))

pub segments-again : (ss : List Segment) → segments_from (map (λ s. s.upper) ss) (map (λ s. s.lower) ss) ≡ ss
unfolding segments_from
segments-again [] = refl
segments-again (s ∷ ss) = rw (segments-again ss)

pub segment-at : («as» bs : List ℕ) (i : ℕ) → length bs ≡ length «as» → i < length «as» → get_or (segments_from «as» bs) i (segment 0 0) ≡ segment (get_or «as» i 0) (get_or bs i 0)
unfolding segments_from
segment-at [] bs i e h = absurd (omega arith)
segment-at (a ∷ «as») [] i e h = absurd (omega arith)
segment-at (a ∷ «as») (b ∷ bs) zero e h = refl
segment-at (a ∷ «as») (b ∷ bs) (suc i) e h = segment-at «as» bs i (omega arith) (omega arith)

pub segments-count : («as» bs : List ℕ) → length bs ≡ length «as» → length (segments_from «as» bs) ≡ length «as»
unfolding segments_from
segments-count [] bs e = refl
segments-count (a ∷ «as») [] e = absurd (omega arith)
segments-count (a ∷ «as») (b ∷ bs) e = ap suc (segments-count «as» bs (omega arith))

-- Laws of the inner links and the topmost vertices, as the loops that write them meet them. Assumes nothing.
use Prim.Native.Nat.{ℕ, ◌+◌, ◌<◌, ◌≤◌}
use mathlib.Core.Path.{◌≡◌, refl, sym, ◌∙◌, ap}
use mathlib.Core.Bool.{Bool, false, cond, ◌&&◌}
use mathlib.Core.List.{List, ◌∷◌}
use native.Mathlib.Omega.{arith}
use native.Mathlib.Numerals.{add-one}
use borrow.Author.Tests.{eq-eqb, ne_eqb}
use lib.Dec.{eqb}
use lib.ListN.{length, get_or, set, drop, replicate, drop_of_length-le, get_or-replicate}
use lib.Seq.{drop-cons, get_or-set_same, get_or-set_other}
use Rattle.plan.specs.Strands.{first_or}
use Rattle.plan.proofs.CountLaws.{by-same}
use Rattle.prelim_classes.specs.inner.Strands.{inner_ends}
use Rattle.prelim_classes.proofs.ChainLaws.{by-test}

-- ---- inner links
pub record LinksFrom (vias : List Bool) («as» bs link : List ℕ) (i : ℕ) : Type 0 where
  pub each : (v : ℕ) → v < length vias → get_or link v 0 ≡ first_or 2048 (inner_ends vias (drop i «as») (drop i bs) v)

module _ (vias : List Bool) («as» bs : List ℕ) where
  pub links-start : (link : List ℕ) → link ≡ replicate (length vias) 2048 → LinksFrom vias «as» bs link (length «as»)
  unfolding inner_ends
  links-start link e = record { each = λ v k. rw (e, get_or-replicate {A = ℕ} (length vias) v 2048 0 k, drop_of_length-le «as» {i = length «as»} (omega arith)) refl }

  ends_at : (i : ℕ) → i < length «as» → i < length bs → (v : ℕ)
      → inner_ends vias (drop i «as») (drop i bs) v
      ≡ cond (eqb (get_or «as» i 0) v && (get_or vias (get_or «as» i 0) false && get_or vias (get_or bs i 0) false)) (get_or bs i 0 ∷ inner_ends vias (drop (i + 1) «as») (drop (i + 1) bs) v) (inner_ends vias (drop (i + 1) «as») (drop (i + 1) bs) v)
  unfolding inner_ends
  ends_at i h k v = rw (add-one, drop-cons «as» i 0 h, drop-cons bs i 0 k)

  pub links-on : (link : List ℕ) (i : ℕ) → length link ≡ length vias → i < length «as» → i < length bs → get_or «as» i 0 < length vias → LinksFrom vias «as» bs link (i + 1) → (link' : List ℕ)
      → link' ≡ cond (get_or vias (get_or «as» i 0) false && get_or vias (get_or bs i 0) false) (set link (get_or «as» i 0) (get_or bs i 0)) link
      → LinksFrom vias «as» bs link' i
  links-on link i e h k b w link' q =
      let a = get_or «as» i 0 in
      let t = get_or vias a false && get_or vias (get_or bs i 0) false in
      record {
        each = λ v m. by-test t
            (λ z. by-same a v
            (λ s. rw (q, z, ends_at i h k v, eq-eqb a v s) (rw z (ap (λ (x : ℕ). get_or (set link a (get_or bs i 0)) x 0) (sym s) ∙ get_or-set_same link a (get_or bs i 0) 0 (omega arith))))
            (λ s. rw (q, z, ends_at i h k v, ne_eqb a v s) (get_or-set_other link a v (get_or bs i 0) 0 (λ y. s (sym y)) ∙ w.each v m)))
            (λ z. rw (q, z, ends_at i h k v) (by-same a v
            (λ s. rw (eq-eqb a v s, z) (w.each v m))
            (λ s. rw (ne_eqb a v s) (w.each v m))));
      }

-- ---- tops
pub record TopsTo (prev top : List ℕ) (v : ℕ) : Type 0 where
  pub first : (w : ℕ) → w < v → w ≤ get_or prev w 0 → get_or top w 0 ≡ w
  pub more : (w : ℕ) → w < v → get_or prev w 0 < w → get_or top w 0 ≡ get_or top (get_or prev w 0) 0
  pub rest : (w : ℕ) → v ≤ w → get_or top w 0 ≡ get_or prev w 0

-- Before the first visit: the doubled distances and the marks of runs with slack are the state at the start. Assumes nothing.
use Prim.Native.Nat.{ℕ, ◌≤◌}
use mathlib.Core.Path.{◌≡◌, refl, sym, ◌∙◌, ap}
use mathlib.Core.Bool.{Bool}
use mathlib.Core.List.{List, []}
use native.Mathlib.Omega.{arith}
use lib.ListN.{length, get_or}
use lib.IntN.{ℤ, pos}
use Rattle.ints.specs.Ints.{size}
use Rattle.ints.specs.Lists.{sum}
use Rattle.plan.specs.Plan.{PlanData, levels_from, levels_of}
use Rattle.preliminary.specs.Positions.{preliminary}
use Rattle.preliminary.proofs.Positions.{preliminary-length, preliminary-size}
use Rattle.passes.specs.State.{doubled_in, start_at}
use Rattle.passes.specs.Drawing.{listed}
use Rattle.passes.specs.Words.{boxes_listed}
use Rattle.passes.proofs.Sound.{sound}
use Rattle.passes.proofs.Sums.{start_small}
use Rattle.passes.specs.inner.Schedule.{visit_all}
use Rattle.pass_tables.specs.inner.Tables.{levelwise, starts_loose, Measured}
use Rattle.pass_tables.proofs.StartMarks.{marks-length, start-unsettled}
use Rattle.pass_list.specs.inner.Listing.{Columns}
use Rattle.pass_list.specs.inner.Ended.{Written}
use Rattle.pass_draw.specs.inner.Turn.{graph}
use Rattle.plan.specs.inner.Held.{HoldsPlan}
use Rattle.plan.proofs.HeldLaws.{bounds as proper}
use Rattle.pass_draw.specs.inner.Drawn.{Wanted, Unlisted, begun, AtStart}

none_written : (p : PlanData) {g : Columns} → Unlisted g → Written p [] 0 0 g
unfolding visit_all start_at listed boxes_listed
none_written p u = record {
  lists = record { of_passes = u.no_passes; of_levels = u.no_levels; of_counts = u.no_sizes; of_vertices = u.no_vertices; of_positions = u.no_positions };
  placings = refl;
  boxes = refl;
}

module _ {p : PlanData} {gap : ℕ} {ns : List ℕ} {vias : List Bool} {halves uppers lowers : List ℕ} (l : HoldsPlan p gap ns vias halves uppers lowers) where
  pub vertices-few : length vias ≤ 1024
  vertices-few = rw (sym l.vias_are) (sound p l.ok).vertices

  pub boxes-count : length halves ≡ length vias
  boxes-count = rw (sym l.halves_are, sym l.vias_are) (proper p l.ok).boxes

  pub vertices-count : sum ns ≡ length vias
  vertices-count = rw (sym l.sizes_are, sym l.vias_are) (sound p l.ok).total

  -- the doubled distances
  module _ {apart : List ℕ} (d : p.gap ≡ gap → p.halves ≡ halves → apart ≡ doubled_in p (levels_from 0 ns)) where
    apart-is : apart ≡ doubled_in p (levels_of p)
    unfolding levels_of
    apart-is = d l.gap_is l.halves_are ∙ ap (λ (ms : List ℕ). doubled_in p (levels_from 0 ms)) (sym l.sizes_are)

    apart-small : (v : ℕ) → get_or apart v 0 ≤ 1000
    unfolding start_at
    apart-small v = rw apart-is (start_small (sound p l.ok) v)

    module _ {at : List ℤ} (a : at ≡ preliminary p) where
      at_length : length at ≡ length vias
      at_length = ap length a ∙ preliminary-length p l.ok ∙ ap length l.vias_are

      at_small : (v : ℕ) → size (get_or at v (pos 0)) ≤ 1099511627776
      at_small v = rw a (omega (arith, preliminary-size p l.ok v))

      pub loose-asks : length apart ≡ length vias
          → (length vias ≡ length apart) × Measured apart at
      loose-asks e = (sym e, (at_length ∙ sym e, omega (arith, vertices-few), apart-small, at_small))

      -- and the marks
      module _ {marks : List Bool} (m : marks ≡ levelwise (λ (v to : ℕ). starts_loose vias apart at v to) 0 ns) where
        marks-are : marks ≡ levelwise (λ (v to : ℕ). starts_loose p.vias (doubled_in p (levels_of p)) (preliminary p) v to) 0 p.sizes
        marks-are = m ∙ ap (λ (vs : List Bool). levelwise (λ (v to : ℕ). starts_loose vs apart at v to) 0 ns) (sym l.vias_are)
            ∙ ap (λ (ds : List ℕ). levelwise (λ (v to : ℕ). starts_loose p.vias ds at v to) 0 ns) apart-is
            ∙ ap (λ (xs : List ℤ). levelwise (λ (v to : ℕ). starts_loose p.vias (doubled_in p (levels_of p)) xs v to) 0 ns) a
            ∙ ap (λ (ms : List ℕ). levelwise (λ (v to : ℕ). starts_loose p.vias (doubled_in p (levels_of p)) (preliminary p) v to) 0 ms) (sym l.sizes_are)

        pub at-start : {ratings : List ℕ} → p.ratings ≡ ratings → {g : Columns} → (Wanted g → Unlisted g) → AtStart (begun (graph ns vias uppers lowers ratings) at apart marks g) p
        unfolding visit_all start_at
        at-start w u = record {
          is = record {
            held = record {
              ok = l.ok;
              whole = refl;
              places = a;
              distances = apart-is;
              long = marks-length p marks-are l.ok;
              unsettled = start-unsettled p marks-are l.ok;
            };
            written = λ z. none_written p (u z);
            vias_are = sym l.vias_are;
            uppers_are = sym l.uppers_are;
            lowers_are = sym l.lowers_are;
            ratings_are = sym w;
          };
          sizes_are = sym l.sizes_are;
        }

-- Placing strands: "To place a strand, first place its left siblings of the same class; to place a sibling, place its
-- strand. A strand stands at the greatest (sibling + distance) over those, 0 if there are none."
use Rattle.std.specs.Prelude.{Bool, true, false, cond, List, [], ◌∷◌, ℕ, zero, suc, ◌+◌, ◌*◌, max, eqb, get_or, set, replicate}
use Rattle.std.proofs.Math.Option.{Option, none, some}
use Rattle.plan.specs.Plan.{PlanData, distance, Siblings, left_sibling, numbers, vertex_count}
use Rattle.preliminary.specs.Classes.{give}

-- Where each vertex stands so far, and whether the placing of its strand has begun.
pub record Placing : Type 0 where
  pub at : List ℕ
  pub begun : List Bool

-- What the left siblings of some members ask: the greatest (sibling + distance), and the placing after theirs.
pub record Asked : Type 0 where
  pub most : ℕ
  pub after : Placing

unfoldable pub mark_all : List ℕ → List Bool → List Bool
mark_all [] begun = begun
mark_all (v ∷ vs) begun = mark_all vs (set begun v true)

abbrev pub begin : List ℕ → Placing → Placing
begin vs s = record { at = s.at; begun = mark_all vs s.begun }

abbrev pub stand : List ℕ → Asked → Placing
stand vs a = record { at = give a.most vs a.after.at; begun = a.after.begun }

-- The left sibling of v if it is of the same class.
abbrev pub of_class : List ℕ → ℕ → Option ℕ → Option ℕ
of_class classes v none = none
of_class classes v (some u) = cond (eqb (get_or classes u 0) (get_or classes v 0)) (some u) none

unfoldable pub asked_by : List Siblings → List ℕ → ℕ → Option ℕ
asked_by siblings classes v = of_class classes v (left_sibling siblings v)

-- Goes on with the sibling u where there is one.
abbrev pub with_sibling : Option ℕ → (ℕ → Asked) → Asked → Asked
with_sibling none with without = without
with_sibling (some u) with without = with u

-- The placing of strands on levels whose siblings, from left to right, are `siblings`. The first number bounds how deep the
-- calls go; a strand's placing begins once and takes a call for each of its vertices, so three calls a vertex are enough.
module _ (p : PlanData) (strand : ℕ → List ℕ) (siblings : List Siblings) (classes : List ℕ) where
  unfoldable mutual
    -- the strand of v, unless its placing has begun
    pub place_strand : ℕ → ℕ → Placing → Placing
    place_strand zero v s = s
    place_strand (suc f) v s =
        let placed = stand (strand v) (place_siblings f (strand v) 0 (begin (strand v) s)) in
        cond (get_or s.begun v false) s placed

    -- the left siblings of these members, `most` being the greatest (sibling + distance) of those before
    pub place_siblings : ℕ → List ℕ → ℕ → Placing → Asked
    place_siblings zero vs most s = record { most = most; after = s }
    place_siblings (suc f) [] most s = record { most = most; after = s }
    place_siblings (suc f) (v ∷ vs) most s =
        let without = place_siblings f vs most s in
        with_sibling (asked_by siblings classes v)
        (λ u. let t = place_strand f u s in place_siblings f vs (max most (get_or t.at u 0 + distance p u v)) t)
        without

  -- The strands of these vertices, one after another.
  unfoldable pub place_each : ℕ → List ℕ → Placing → Placing
  place_each f [] s = s
  place_each f (v ∷ vs) s = place_each f vs (place_strand f v s)

  -- Where every vertex stands before the classes are shifted.
  unfoldable pub placed_strands : List ℕ
  placed_strands =
      let n = vertex_count p in
      (place_each (3 * n) (numbers 0 n) (record { at = replicate n 0; begun = replicate n false })).at

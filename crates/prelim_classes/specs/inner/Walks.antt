-- What the walks that class and place strands ask of the lists they work on, and what they leave.
use Rattle.std.specs.Prelude.{Bool, true, false, cond, List, [], ◌∷◌, map, ◌≡◌, ℕ, suc, ◌+◌, ◌*◌, ◌<◌, ◌≤◌, eqb, length, get_or, take, drop, replicate, ℤ, pos}
use Rattle.ints.specs.Ints.{P, N}
use Rattle.plan.specs.Limits.{max_vertices}
use Rattle.plan.specs.inner.Graph.{Below}
use Rattle.plan.specs.inner.Distances.{Narrow}
use Rattle.plan.specs.Plan.{PlanData, Siblings}
use Rattle.prelim_classes.specs.inner.Links.{Rising, chain, or_none, pairs_by}
use Rattle.prelim_classes.specs.inner.Strands.{Strung, StrandsBy}
use Rattle.preliminary.specs.Classes.{give}
use Rattle.preliminary.specs.Place.{Placing, Asked, asked_by, place_strand, place_siblings, place_each}

-- A list cut into levels of these sizes.
unfoldable pub cut : List ℕ → List ℕ → List (List ℕ)
cut [] vs = []
cut (n ∷ ns) vs = take n vs ∷ cut ns (drop n vs)

-- ---- placing
abbrev pub placing : List ℕ → List Bool → Placing
placing at begun = record { at = at; begun = begun }

-- Of how many vertices the placing has not begun.
unfoldable pub unbegun : List Bool → ℕ
unbegun [] = 0
unbegun (true ∷ bs) = unbegun bs
unbegun (false ∷ bs) = suc (unbegun bs)

-- The placing of a strand begins for all its vertices at once.
pub record Uniform (top : List ℕ) (begun : List Bool) : Type 0 where
  pub each : (v : ℕ) → v < length top → get_or begun v false ≡ get_or begun (get_or top v 0) false

-- No vertex stands beyond m, were each of n more to stand 500 further.
pub record Low (at : List ℕ) (n m : ℕ) : Type 0 where
  pub each : (v : ℕ) → get_or at v 0 + 500 * n ≤ m

-- Lists to place strands by. Of each vertex `sibling` has the left sibling of its class.
pub record Placeable (gap : ℕ) (halves next top sibling at : List ℕ) (begun : List Bool) : Type 0 where
  pub narrow : Narrow gap halves
  pub strung : Strung next top
  pub boxes : length halves ≡ length next
  pub siblings : length sibling ≡ length next
  pub places : length at ≡ length next
  pub marks : length begun ≡ length next
  pub uniform : Uniform top begun
  pub low : Low at (unbegun begun) 512000

-- The same of a plan.
pub record Asks (p : PlanData) (strand : ℕ → List ℕ) (siblings : List Siblings) (classes : List ℕ) (gap : ℕ) (halves next top sibling : List ℕ) : Type 0 where
  pub gap_is : p.gap ≡ gap
  pub halves_are : p.halves ≡ halves
  pub strands : StrandsBy strand next top
  pub asked : (v : ℕ) → v < length next → asked_by siblings classes v ≡ or_none (length next) (get_or sibling v 0)

-- What placing a strand leaves.
pub record StrandKept (top at : List ℕ) (begun : List Bool) (at' : List ℕ) (begun' : List Bool) : Type 0 where
  pub fewer : unbegun begun' ≤ unbegun begun
  pub uniform : Uniform top begun'
  pub low : (m : ℕ) → Low at (unbegun begun) m → Low at' (unbegun begun') m

pub record StrandPlaced (gap : ℕ) (halves next top sibling : List ℕ) (v : ℕ) (s t : Placing) : Type 0 where
  pub each : (p : PlanData) (strand : ℕ → List ℕ) (siblings : List Siblings) (classes : List ℕ) → Asks p strand siblings classes gap halves next top sibling
      → (f : ℕ) → 2 * unbegun s.begun ≤ f → t ≡ place_strand p strand siblings classes f v s

-- What placing siblings leaves, r being what they ask.
pub record SiblingsLow (at : List ℕ) (n most : ℕ) (at' : List ℕ) (n' r m : ℕ) : Type 0 where
  pub places : Low at' n' m
  pub asked : r + 500 * n' ≤ m + 500

pub record SiblingsKept (top at : List ℕ) (begun : List Bool) (most : ℕ) (at' : List ℕ) (begun' : List Bool) (r : ℕ) : Type 0 where
  pub fewer : unbegun begun' ≤ unbegun begun
  pub uniform : Uniform top begun'
  pub low : (m : ℕ) → Low at (unbegun begun) m → most + 500 * unbegun begun ≤ m + 500 → SiblingsLow at (unbegun begun) most at' (unbegun begun') r m

pub record SiblingsPlaced (gap : ℕ) (halves next top sibling : List ℕ) (w most : ℕ) (s : Placing) (r : ℕ) (t : Placing) : Type 0 where
  pub each : (p : PlanData) (strand : ℕ → List ℕ) (siblings : List Siblings) (classes : List ℕ) → Asks p strand siblings classes gap halves next top sibling
      → (f : ℕ) → 2 * unbegun s.begun + length (chain next w) ≤ f
      → ◌≡◌ {A = Asked} (record { most = r; after = t }) (place_siblings p strand siblings classes f (chain next w) most s)

-- Where n vertices stand whose strands are placed in this order.
abbrev pub placed_by : PlanData → (ℕ → List ℕ) → List Siblings → List ℕ → ℕ → List ℕ → List ℕ
placed_by p strand siblings classes n order = (place_each p strand siblings classes (3 * n) order (placing (replicate n 0) (replicate n false))).at

-- The lists were those of the placing, and this is where it left the vertices.
pub record AllPlaced (gap : ℕ) (halves next top sibling order at : List ℕ) : Type 0 where
  pub low : (v : ℕ) → get_or at v 0 ≤ 512000
  pub each : (p : PlanData) (strand : ℕ → List ℕ) (siblings : List Siblings) (classes : List ℕ) → Asks p strand siblings classes gap halves next top sibling
      → at ≡ placed_by p strand siblings classes (length next) order

-- ---- classes
-- Lists to class strands by: `order` has the vertices level by level.
pub record Classable (next top order classes : List ℕ) : Type 0 where
  pub rising : Rising next
  pub long : length top ≡ length next
  pub tops : (v : ℕ) → v < length next → get_or top v 0 < length next
  pub vertices : (i : ℕ) → i < length order → get_or order i 0 < length next
  pub marks : length classes ≡ length next

-- What a vertex on the way along a level does to the classes and to the current number.
abbrev pub classes_after : List ℕ → List ℕ → ℕ → ℕ → List ℕ
classes_after strand classes v current = cond (eqb (get_or classes v 0) 0) (give current strand classes) classes

abbrev pub current_after : List ℕ → ℕ → ℕ → ℕ
current_after classes v current = cond (eqb (get_or classes v 0) 0) current (get_or classes v 0)

-- The left sibling u of v, and a number that is no vertex where it is of another class.
abbrev pub same_class : ℕ → ℕ → List ℕ → ℕ
same_class u v classes = cond (eqb (get_or classes u 0) (get_or classes v 0)) u 2048

-- `sibling` has of each vertex the left sibling of its class.
pub record SiblingsOf (order right classes sibling : List ℕ) : Type 0 where
  pub each : (v : ℕ) → v < length classes → asked_by (pairs_by (length classes) order right) classes v ≡ or_none (length classes) (get_or sibling v 0)

-- ---- the whole
-- What placing asks of a plan's lists, its vertices being in order and classed.
pub record Classed (gap : ℕ) (halves next top order right classes : List ℕ) : Type 0 where
  pub narrow : Narrow gap halves
  pub strung : Strung next top
  pub few : length next ≤ max_vertices
  pub boxes : length halves ≡ length next
  pub rights : length right ≡ length order
  pub vertices : Below (length next) order
  pub numbers : length classes ≡ length next

-- Where the vertices stand before the classes are shifted.
pub record Stand (gap : ℕ) (halves next top order right classes : List ℕ) (xs : List ℤ) : Type 0 where
  pub least : (v : ℕ) → N (get_or xs v (pos 0)) ≡ 0
  pub most : (v : ℕ) → P (get_or xs v (pos 0)) ≤ 512000
  pub each : (p : PlanData) (strand : ℕ → List ℕ) → p.gap ≡ gap → p.halves ≡ halves → StrandsBy strand next top
      → xs ≡ map pos (placed_by p strand (pairs_by (length next) order right) classes (length next) order)

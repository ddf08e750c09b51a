-- Between two levels of a pass's list. Assumes nothing.
use Prim.Native.Nat.{ℕ, suc, ◌+◌, ◌<◌, ◌≤◌}
use mathlib.Core.Path.{◌≡◌, refl, sym, ◌∙◌, ap, subst}
use mathlib.Core.Bool.{Bool}
use mathlib.Core.List.{List, [], ◌∷◌, ◌++◌, append_assoc, append-nil}
use native.Mathlib.Omega.{arith}
use lib.ListN.{length, get_or, take, drop, length-append, take-append-drop}
use lib.Seq.{take-suc, take_all}
use lib.IntN.{ℤ}
use Rattle.plan.specs.Plan.{PlanData}
use Rattle.passes.specs.Runs.{Run, runs_on, runs_of_levels}
use Rattle.passes.specs.Drawing.{Placing}
use Rattle.passes.specs.Words.{boxes_listed}
use Rattle.plan.specs.inner.Levels.{first_on}
use Rattle.passes.proofs.Sound.{sound}
use Rattle.pass_tables.proofs.JoinedLevels.{first_next}
use Rattle.pass_list.proofs.Added.{boxes-append}
use Rattle.pass_neighbours.specs.inner.Order.{in_turn, turn_of}
use Rattle.pass_neighbours.proofs.OrderLaws.{turn_at, turn-length, turn_small}
use Rattle.pass_list.specs.inner.Ended.{list_of, Fits, LevelEnd, PassEnd}
use Rattle.pass_list.specs.inner.Listing.{Columns, Stored}
use Rattle.pass_list.proofs.LevelLaws.{list-append, fits-first}

runs_append : (p : PlanData) (a b : List ℕ) → runs_of_levels p (a ++ b) ≡ runs_of_levels p a ++ runs_of_levels p b
unfolding runs_of_levels
runs_append p [] b = refl
runs_append p (l ∷ a) b = ap (λ (rs : List Run). runs_on p l ++ rs) (runs_append p a b) ∙ sym (append_assoc (runs_on p l) (runs_of_levels p a) (runs_of_levels p b))

runs-one : (p : PlanData) (l : ℕ) → runs_of_levels p (l ∷ []) ≡ runs_on p l
unfolding runs_of_levels
runs-one p l = append-nil (runs_on p l)

-- the levels visited in the first k turns are listed
abbrev pub Listing-to : PlanData → List Placing → ℕ → ℕ → ℕ → ℕ → List Bool → List Bool → List ℤ → Columns → Type 0
Listing-to p before q k n b had marks at g = Stored n b g (before ++ list_of q had marks at (runs_of_levels p (take k (in_turn q p))))

module _ {p : PlanData} {starts : List ℕ} {vias had marks : List Bool} {at : List ℤ} (x : PassEnd p starts vias had marks at) (q : ℕ) where
  pub starts-many : (length starts ≡ suc p.levels) × (p.levels ≤ 64)
  starts-many = (x.starts_are.many, (sound p x.ok).levels)

  pub listed-none : {before : List Placing} {n b : ℕ} {g : Columns} → Stored n b g before
      → Listing-to p before q 0 n b had marks at g
  unfolding list_of runs_of_levels
  listed-none {before} {n} {b} {g} s = subst (λ (y : List Placing). Stored n b g y) (sym (append-nil before)) s

  pub listed-all : (before : List Placing) (k n b : ℕ) (g : Columns) → k ≡ p.levels → Listing-to p before q k n b had marks at g
      → Stored n b g (before ++ list_of q had marks at (runs_of_levels p (in_turn q p)))
  listed-all before k n b g e s =
      subst (λ (ls : List ℕ). Stored n b g (before ++ list_of q had marks at (runs_of_levels p ls))) (take_all k (in_turn q p) (omega (arith, turn-length q p))) s

  module _ (k : ℕ) (h : k < p.levels) (start to l : ℕ) (y : l ≡ turn_of q k p.levels + 1) (e : start ≡ get_or starts (turn_of q k p.levels) 0) (f : to ≡ get_or starts (turn_of q k p.levels + 1) 0) where
    level-is : suc (turn_of q k p.levels) ≡ l
    level-is = omega (arith, y)

    pub level-end : LevelEnd p l start to vias had marks at
    level-end = let z : turn_of q k p.levels + 1 ≡ suc (turn_of q k p.levels) = omega arith in let m = turn_small q k p.levels h in record {
      ok = x.ok;
      kinds = x.kinds;
      one = omega (arith, y);
      many = omega (arith, y, m);
      starts = e ∙ x.starts_are.each (turn_of q k p.levels) (omega (arith, m)) ∙ ap (first_on p) level-is;
      stops = f ∙ ap (λ (n : ℕ). get_or starts n 0) z ∙ x.starts_are.each (suc (turn_of q k p.levels)) (omega (arith, m)) ∙ ap (λ (n : ℕ). first_on p (suc n)) level-is ∙ first_next p l (omega (arith, y));
      hads = x.hads;
      marked = x.marked;
      standing = x.standing;
    }

    abbrev here : List Placing
    here = list_of q had marks at (runs_on p l)

    done_more : runs_of_levels p (take (suc k) (in_turn q p)) ≡ runs_of_levels p (take k (in_turn q p)) ++ runs_on p l
    done_more = let ls = in_turn q p in
        ap (runs_of_levels p) (take-suc ls k 0 (omega (arith, turn-length q p)) ∙ ap (λ (n : ℕ). take k ls ++ n ∷ []) (turn_at q p k h ∙ level-is))
        ∙ runs_append p (take k ls) (l ∷ []) ∙ ap (λ (rs : List Run). runs_of_levels p (take k ls) ++ rs) (runs-one p l)

    pub fits-level : (before : List Placing) (n₀ b₀ n b : ℕ) {g : Columns} → n₀ ≡ length before → b₀ ≡ length (boxes_listed before)
        → Fits n₀ b₀ (list_of q had marks at (runs_of_levels p (in_turn q p))) → Listing-to p before q k n b had marks at g → Fits n b here
    fits-level before n₀ b₀ n b u v r s =
        let ls = in_turn q p in
        let a = list_of q had marks at (runs_of_levels p (take k ls)) in
        let c = list_of q had marks at (runs_of_levels p (drop (suc k) ls)) in
        let z : list_of q had marks at (runs_of_levels p ls) ≡ a ++ (here ++ c) =
        ap (λ (ms : List ℕ). list_of q had marks at (runs_of_levels p ms)) (sym (take-append-drop (suc k) ls)) ∙ ap (list_of q had marks at) (runs_append p (take (suc k) ls) (drop (suc k) ls))
        ∙ list-append q had marks at (runs_of_levels p (take (suc k) ls)) (runs_of_levels p (drop (suc k) ls))
        ∙ ap (λ (o : List Placing). o ++ c) (ap (list_of q had marks at) done_more ∙ list-append q had marks at (runs_of_levels p (take k ls)) (runs_on p l)) ∙ append_assoc a here c in
        let w = fits-first a here c n₀ b₀ (subst (Fits n₀ b₀) z r) in
        let i : n₀ + length a ≡ n = omega (arith, s.placings, length-append before a) in
        let j : b₀ + length (boxes_listed a) ≡ b = omega (arith, s.boxes, ap length (boxes-append before a), length-append (boxes_listed before) (boxes_listed a)) in
        record { placings = omega (arith, w.placings); boxes = omega (arith, w.boxes) }

    pub listed_more : (before : List Placing) (n b : ℕ) (g : Columns)
        → Stored n b g ((before ++ list_of q had marks at (runs_of_levels p (take k (in_turn q p)))) ++ here)
        → Listing-to p before q (k + 1) n b had marks at g
    listed_more before n b g s =
        let i : suc k ≡ k + 1 = omega arith in
        let ls = in_turn q p in
        let a = list_of q had marks at (runs_of_levels p (take k ls)) in
        let z : (before ++ a) ++ here ≡ before ++ list_of q had marks at (runs_of_levels p (take (suc k) ls)) = append_assoc before a here
        ∙ ap (λ (o : List Placing). before ++ o) (sym (ap (list_of q had marks at) done_more ∙ list-append q had marks at (runs_of_levels p (take k ls)) (runs_on p l))) in
        subst (λ (m : ℕ). Listing-to p before q m n b had marks at g) i (subst (λ (o : List Placing). Stored n b g o) z s)

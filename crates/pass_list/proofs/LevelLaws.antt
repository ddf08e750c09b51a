-- Midway through a level's list: its first runs are listed, the others come next. Assumes nothing.
use Prim.Native.Nat.{ℕ, suc, ◌+◌, ◌-◌, ◌<◌, ◌≤◌}
use mathlib.Core.Path.{◌≡◌, refl, sym, ◌∙◌, ap, subst}
use mathlib.Core.Bool.{Bool, true, false, cond, not, ◌&&◌}
use mathlib.Core.List.{List, [], ◌∷◌, ◌++◌, map, append_assoc, append-nil}
use mathlib.Core.Option.{some}
use native.Mathlib.Omega.{arith}
use borrow.Author.Tests.{lt-ltb}
use lib.Dec.{eqb}
use lib.ListN.{length, get_or, replicate, length-append, length-replicate, length-map}
use lib.IntN.{ℤ, pos}
use Rattle.ints.proofs.Laws.{cases}
use Rattle.plan.specs.Plan.{PlanData, vertex_count, numbers}
use Rattle.passes.specs.Runs.{Run, runs_on, is_bounded}
use Rattle.passes.specs.State.{position_of}
use Rattle.passes.specs.Drawing.{BoxAt, Placing, boxes_with, listed_before}
use Rattle.passes.specs.Words.{boxes_listed, max_listed}
use Rattle.passes.specs.Stored.{padded}
use Rattle.plan.proofs.All.{All, all_right, all_head}
use Rattle.plan.specs.inner.Levels.{first_on, size_on}
use Rattle.plan.proofs.Levels.{level-within}
use Rattle.passes.proofs.Sound.{Sound, sound}
use Rattle.passes.specs.inner.Runs.{IsRun}
use Rattle.passes.proofs.RunsOn.{runs-are}
use Rattle.passes.proofs.Trace.{step_of}
use Rattle.pass_tables.specs.inner.Tables.{along, next_via}
use Rattle.pass_tables.proofs.LevelLaws.{map-along}
use Rattle.pass_tables.specs.inner.Moments.{RunIs}
use Rattle.pass_tables.proofs.Due.{InOrder, in_order, left-none, left-some, right-none, right-some, open-left, open-right}
use Rattle.pass_list.specs.inner.Added.{boxes_from, placing_of, Arrays}
use Rattle.pass_list.proofs.Added.{length_from, boxes-append}
use Rattle.pass_list.proofs.Steps.{before-some, before-none}
use Rattle.pass_tables.proofs.RunsAhead.{Ahead, all-ahead, NextRun, next-run, none_left}
use Rattle.pass_list.specs.inner.PassList.{placing_at}
use Rattle.pass_list.specs.inner.Ended.{is_placed, placed_by, list_of, placing_if, Fits, LevelEnd}
use Rattle.pass_list.specs.inner.Listing.{Columns, Stored}
use Rattle.pass_list.proofs.ListLaws.{open-first, open-last, between, if-empty}

-- ---- one run: what the program lists is what the run's definition says
nothing : (t : Bool) → cond {A = List Placing} t [] [] ≡ []
nothing true = refl
nothing false = refl

module _ {p : PlanData} (so : Sound p) {r : Run} {start from end to : ℕ} (i : RunIs p r start from end to) (q : ℕ) (had marks : List Bool) (xs : List ℤ) where
  placed-is : placed_by q start from end to had marks ≡ is_placed q had marks r
  placed-is = let o = in_order i so in cases from start
      (λ h. sym (open-first q start from end to had marks h) ∙ sym (opened (open-left r (left-none i (omega (arith, o.low))))))
      (λ h. cases to end
      (λ k. sym (open-last q start from end to had marks k) ∙ sym (opened (open-right r (right-none i (omega (arith, o.high))))))
      (λ k. sym (between q start from end to had marks h k) ∙ sym (both (left-some i h) (right-some i k))))
    where
      opened : is_bounded r ≡ false → is_placed q had marks r ≡ not (eqb q 3)
      opened e = rw e

      both : r.left ≡ some (from - 1) → r.right ≡ some end → is_placed q had marks r ≡ get_or had (from - 1) false && not (get_or marks (from - 1) false)
      both e f = rw (e, f)

  boxes-are : boxes_with r.boxes (map (position_of xs) r.boxes) ≡ boxes_from from end xs
  boxes-are = let j = i.is in let f = position_of xs in let k : j.count ≡ end - from = omega (arith, i.first, i.past) in
      ap (λ (bs : List ℕ). boxes_with bs (map f bs)) j.boxes ∙ ap (boxes_with (numbers j.first j.count)) (map-along f j.first j.count)
      ∙ ap (λ (a : ℕ). boxes_with (numbers a j.count) (along f a j.count)) (sym i.first) ∙ ap (λ (n : ℕ). boxes_with (numbers from n) (along f from n)) k

  placing-is : (l : ℕ) → r.level ≡ l → placing_if (placed_by q start from end to had marks) q l from end xs ≡ cond (is_placed q had marks r) (placing_at q xs r) []
  placing-is l e = ap (λ (t : Bool). placing_if t q l from end xs) placed-is ∙ cases end from
      (λ h. if-empty (is_placed q had marks r) q l from end xs h ∙ sym (ap (λ (y : List Placing). cond (is_placed q had marks r) y []) (ap (λ (bs : List BoxAt). listed_before (step_of q r []) bs []) boxes-are
      ∙ before-none (step_of q r []) (boxes_from from end xs) (omega (arith, length_from from end xs))) ∙ nothing (is_placed q had marks r)))
      (λ h. full h ∙ sym (ap (λ (y : List Placing). cond (is_placed q had marks r) y []) (ap (λ (bs : List BoxAt). listed_before (step_of q r []) bs []) boxes-are
      ∙ before-some (step_of q r []) (boxes_from from end xs) (omega (arith, length_from from end xs)) ∙ ap (λ (n : ℕ). record { pass = q; level = n; boxes = boxes_from from end xs } ∷ []) e)))
    where
      full : from < end → placing_if (is_placed q had marks r) q l from end xs ≡ cond (is_placed q had marks r) (placing_of q l from end xs ∷ []) []
      full h = ap (λ (t : Bool). cond (is_placed q had marks r && t) (placing_of q l from end xs ∷ []) []) (lt-ltb from end h) ∙ go (is_placed q had marks r)
        where
          go : (t : Bool) → cond (t && true) (placing_of q l from end xs ∷ []) [] ≡ cond t (placing_of q l from end xs ∷ []) []
          go true = refl
          go false = refl

-- ---- a level's runs
pub list-append : (q : ℕ) (had marks : List Bool) (xs : List ℤ) (a b : List Run) → list_of q had marks xs (a ++ b) ≡ list_of q had marks xs a ++ list_of q had marks xs b
unfolding list_of
list-append q had marks xs [] b = refl
list-append q had marks xs (r ∷ a) b = let here = cond (is_placed q had marks r) (placing_at q xs r) [] in
    ap (λ (l : List Placing). here ++ l) (list-append q had marks xs a b) ∙ sym (append_assoc here (list_of q had marks xs a) (list_of q had marks xs b))

-- what fits with more after it fits
pub fits-first : (a b c : List Placing) (n k : ℕ) → Fits n k (a ++ (b ++ c)) → Fits (n + length a) (k + length (boxes_listed a)) b
fits-first a b c n k f = record {
  placings = omega (arith, f.placings, length-append a (b ++ c), length-append b c);
  boxes = omega (
    arith,
    f.boxes,
    ap length (boxes-append a (b ++ c)),
    ap length (boxes-append b c),
    length-append (boxes_listed a) (boxes_listed (b ++ c)),
    length-append (boxes_listed b) (boxes_listed c),
  );
}

written-length : {A B : Type 0} (z : A) (f : B → A) (l : List B) (xs : List A) → xs ≡ padded max_listed z (map f l) → length l ≤ max_listed → length xs ≡ max_listed
written-length z f l xs e h = ap length e ∙ omega (arith, length-append (map f l) (replicate (max_listed - length (map f l)) z), length-replicate (max_listed - length (map f l)) z, length-map l f)

pub arrays-of : {list : List Placing} {n b : ℕ} {g : Columns} {more : List Placing} → Stored n b g list → Fits n b more → Arrays g
arrays-of {list} {n} {b} {g} s f =
    let m : length list ≤ max_listed = omega (arith, s.placings, f.placings) in
    let k : length (boxes_listed list) ≤ max_listed = omega (arith, s.boxes, f.boxes) in
    record {
      of_passes = written-length 0 (λ (x : Placing). x.pass) list g.passes s.lists.of_passes m;
      of_levels = written-length 0 (λ (x : Placing). x.level) list g.levels s.lists.of_levels m;
      of_counts = written-length 0 (λ (x : Placing). length x.boxes) list g.sizes s.lists.of_counts m;
      of_vertices = written-length 0 (λ (x : BoxAt). x.vertex) (boxes_listed list) g.vertices s.lists.of_vertices k;
      of_positions = written-length (pos 0) (λ (x : BoxAt). x.position) (boxes_listed list) g.positions s.lists.of_positions k;
    }

pub record Midway (p : PlanData) (list : List Placing) (q l from n b : ℕ) (had marks : List Bool) (at : List ℤ) (g : Columns) : Type 0 where
  pub done : List Run
  pub rest : List Run
  pub split : runs_on p l ≡ done ++ rest
  pub runs : Ahead p l from rest
  pub stored : Stored n b g (list ++ list_of q had marks at done)

module _ {p : PlanData} {l start to : ℕ} {vias had marks : List Bool} {at : List ℤ} (t : LevelEnd p l start to vias had marks at) where
  pub level-inside : (to ≤ length vias) × (length vias ≤ 1024) × (length vias ≡ vertex_count p)
  level-inside = let so = sound p t.ok in let e = ap length t.kinds in
      (omega (arith, t.stops, level-within p l, so.total), omega (arith, so.vertices), e)

  pub midway_start : {list : List Placing} {q n b : ℕ} {g : Columns} → Stored n b g list
      → Midway p list q l start n b had marks at g
  unfolding list_of
  midway_start {list} {q} {n} {b} {g} s = record {
    done = [];
    rest = runs_on p l;
    split = refl;
    runs = subst (λ (v : ℕ). Ahead p l v (runs_on p l)) (sym t.starts) (all-ahead p l);
    stored = subst (λ (x : List Placing). Stored n b g x) (sym (append-nil list)) s;
  }

  module _ {list : List Placing} {q from n b : ℕ} {g : Columns} (m : Midway p list q l from n b had marks at g) where
    module _ (h : from ≤ to) (end : ℕ) (e : end ≡ next_via vias from (to - from)) where
      next : NextRun p l from end m.rest
      next = subst (λ (v : ℕ). NextRun p l from v m.rest) (sym ends_at) (next-run p l m.runs (omega (arith, t.stops)))
        where
          ends_at : end ≡ next_via p.vias from (first_on p l + size_on p l - from)
          ends_at = e ∙ ap (λ (vs : List Bool). next_via vs from (to - from)) t.kinds ∙ ap (λ (v : ℕ). next_via p.vias from (v - from)) t.stops

      is-run : IsRun p next.run
      is-run = all_head (subst (All (IsRun p)) next.is (all_right m.done m.rest (subst (All (IsRun p)) m.split (runs-are p l t.one t.many))))

      stands : RunIs p next.run start from end to
      stands = subst (λ (v : ℕ). RunIs p next.run v from end to) (sym t.starts) (subst (λ (v : ℕ). RunIs p next.run (first_on p l) from end v) (sym t.stops) (next.stands is-run))

      pub order : InOrder p start from end to
      order = in_order stands (sound p t.ok)

      abbrev here : List Placing
      here = placing_if (placed_by q start from end to had marks) q l from end at

      here-is : here ≡ cond (is_placed q had marks next.run) (placing_at q at next.run) []
      here-is = placing-is (sound p t.ok) stands q had marks at l next.level

      rest_is : list_of q had marks at m.rest ≡ here ++ list_of q had marks at next.more
      unfolding list_of
      rest_is = ap (list_of q had marks at) next.is ∙ ap (λ (x : List Placing). x ++ list_of q had marks at next.more) (sym here-is)

      pub fits-here : (placed : Bool) → placed ≡ placed_by q start from end to had marks → {n₀ b₀ : ℕ} → n₀ ≡ length list → b₀ ≡ length (boxes_listed list) → Fits n₀ b₀ (list_of q had marks at (runs_on p l)) → Fits n b (placing_if placed q l from end at)
      fits-here placed r {n₀} {b₀} f g x =
          let a = list_of q had marks at m.done in
          let z : list_of q had marks at (runs_on p l) ≡ a ++ (here ++ list_of q had marks at next.more) = ap (list_of q had marks at) m.split ∙ list-append q had marks at m.done m.rest
          ∙ ap (λ (y : List Placing). a ++ y) rest_is in
          let w = fits-first a here (list_of q had marks at next.more) n₀ b₀ (subst (Fits n₀ b₀) z x) in
          let u : n₀ + length a ≡ n = omega (arith, m.stored.placings, length-append list a) in
          let v : b₀ + length (boxes_listed a) ≡ b = omega (arith, m.stored.boxes, ap length (boxes-append list a), length-append (boxes_listed list) (boxes_listed a)) in
          subst (λ (t : Bool). Fits n b (placing_if t q l from end at)) (sym r) (record { placings = omega (arith, w.placings); boxes = omega (arith, w.boxes) })

      pub midway-next : {n' b' : ℕ} {g' : Columns}
          → (placed : Bool) → placed ≡ placed_by q start from end to had marks → Stored n' b' g' ((list ++ list_of q had marks at m.done) ++ placing_if placed q l from end at)
          → Midway p list q l (end + 1) n' b' had marks at g'
      unfolding list_of
      midway-next {n'} {b'} {g'} placed w s =
          let f : suc end ≡ end + 1 = omega arith in
          let a = list_of q had marks at m.done in
          let z : (list ++ a) ++ placing_if placed q l from end at ≡ list ++ list_of q had marks at (m.done ++ next.run ∷ []) = ap (λ (t : Bool). (list ++ a) ++ placing_if t q l from end at) w ∙ append_assoc list a here
          ∙ ap (λ (x : List Placing). list ++ (a ++ x)) (here-is ∙ sym (append-nil (cond (is_placed q had marks next.run) (placing_at q at next.run) []))) ∙ ap (λ (x : List Placing). list ++ x) (sym (list-append q had marks at m.done (next.run ∷ []))) in
          record {
            done = m.done ++ next.run ∷ [];
            rest = next.more;
            split = m.split ∙ ap (λ (rs : List Run). m.done ++ rs) next.is ∙ sym (append_assoc m.done (next.run ∷ []) next.more);
            runs = subst (λ (i : ℕ). Ahead p l i next.more) f next.later;
            stored = subst (λ (x : List Placing). Stored n' b' g' x) z s;
          }

    pub midway_end : to < from → Stored n b g (list ++ list_of q had marks at (runs_on p l))
    midway_end h =
        let none : m.rest ≡ [] = none_left p l m.runs (omega (arith, t.stops)) in
        let all : m.done ≡ runs_on p l = sym (append-nil m.done) ∙ ap (λ (rs : List Run). m.done ++ rs) (sym none) ∙ sym m.split in
        subst (λ (rs : List Run). Stored n b g (list ++ list_of q had marks at rs)) all m.stored

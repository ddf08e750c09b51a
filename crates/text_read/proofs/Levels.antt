-- Level lines: a line of them, and all of them, as the loop over them has found and stored them so far.
use mathlib.Core.Path.{◌≡◌, refl, sym, ◌∙◌, ap}
use mathlib.Core.Bool.{Bool, true, false, cond, ◌&&◌}
use mathlib.Core.List.{List, [], ◌∷◌, ◌++◌, map, map-append}
use Prim.Native.Nat.{ℕ, suc, ◌+◌, ◌≤◌}
use native.Mathlib.Omega.{arith}
use lib.Dec.{leb}
use lib.ListN.{length, drop, set, length-set, length-append, length-map}
use lib.Seq.{sets}
use Rattle.ints.specs.Lists.{concat}
use Rattle.ints.proofs.Lists.{concat-append, concat-one}
use Rattle.plan.specs.Checks.{every}
use Rattle.plan.specs.Limits.{max_on_level}
use Rattle.ints.proofs.Tests.{and_left, and_right}
use Rattle.text.specs.Bytes.{bytes}
use Rattle.text.specs.Parser.{Got, got, nothing, Rule, then, again, word, many}
use Rattle.text.specs.Form.{Vertex, level_line}
use Rattle.text.specs.Reading.{row_in_limit}
use Rattle.text_scan.specs.inner.Scanned.{vertex}
use Rattle.text_read.specs.inner.Filled.{vias_of, halves_of, level_rest, FindsRow, FindsLevel, FindsRows}
use Rattle.text_read.specs.declared.form.Row.{Row}
use Rattle.text.proofs.Words.{never}
use Rattle.text_scan.proofs.Lines.{then-then}
use Rattle.text.proofs.Repeats.{Reached, reached-none, reached-more, reached-end}
use Rattle.text_scan.proofs.Stores.{sets-append, sets_more, every_more}

-- ---- one line
-- "at least one" vertex, and the line's end
abbrev closed : List Vertex → Rule (List Vertex)
closed [] s = nothing
closed (v ∷ vs) s = then (word (bytes ")\n") s) (λ _ t. got (v ∷ vs) t)

rest_is : (n : ℕ) (s : List ℕ) → level_rest n s ≡ then (many (suc n) vertex s) closed
unfolding level_rest many
rest_is n s = go (vertex s)
  where
    go : (g : Got Vertex) → then g (λ v t. then (many n vertex t) (λ vs u. then (word (bytes ")\n") u) (λ _ x. got (v ∷ vs) x))) ≡ then (again g s (λ t. many n vertex t)) closed
    go nothing = refl
    go (got v t) = sym (then-then (many n vertex t) (λ l u. got (v ∷ l) u) closed)

module _ (n : ℕ) (s t : List ℕ) where
  pub rest-none : (vs : List Vertex) → many (suc n) vertex s ≡ got vs t → length vs ≡ 0 → level_rest n s ≡ nothing
  rest-none [] e h = rest_is n s ∙ rw e
  rest-none (v ∷ vs) e h = absurd (omega arith)

  pub rest-open : (vs : List Vertex) → many (suc n) vertex s ≡ got vs t → word (bytes ")\n") t ≡ nothing → level_rest n s ≡ nothing
  rest-open [] e f = rest_is n s ∙ rw e
  rest-open (v ∷ vs) e f = rest_is n s ∙ rw (e, f)

  pub rest-found : (vs : List Vertex) (u : List ℕ) → many (suc n) vertex s ≡ got vs t → (length vs ≡ 0 → ⊥) → word (bytes ")\n") t ≡ got tt u → level_rest n s ≡ got vs u
  rest-found [] u e h f = absurd (h refl)
  rest-found (v ∷ vs) u e h f = rest_is n s ∙ rw (e, f)

pub level-none : (n : ℕ) (s : List ℕ) → word (bytes "(level") s ≡ nothing → level_line n s ≡ nothing
unfolding level_line
level-none n s e = rw e

pub level-opens : (n : ℕ) (s t : List ℕ) → word (bytes "(level") s ≡ got tt t → level_line n s ≡ level_rest n t
unfolding level_line level_rest
level-opens n s t e = rw e

-- the vertices of a line, and what is asked of the whole line
module _ (s : List ℕ) (at first : ℕ) (r : Row) (vias : List Bool) (halves : List ℕ) (vias' : List Bool) (halves' : List ℕ) (R : FindsRow s at first r vias halves vias' halves') where
  pub level-row : (form fit : Bool) (next : ℕ) → fit ≡ leb r.count max_on_level && r.fit → level_rest (length s) (drop at s) ≡ cond form (got R.vertices (drop next s)) nothing
      → next ≤ length s → r.next ≤ next → FindsLevel s at first (record { form = form; count = r.count; fit = fit; next = next }) vias halves vias' halves'
  level-row form fit next e g i up = record {
    vertices = R.vertices;
    gives = g;
    inside = i;
    counted = R.counted;
    onward = omega (arith, R.onward);
    fit = e ∙ rw (R.counted, R.fit);
    vias_stored = R.vias_stored;
    halves_stored = λ t. R.halves_stored (and_right (leb r.count max_on_level) r.fit (sym e ∙ t));
  }

-- ---- all lines
pub record RowsSoFar (s : List ℕ) (from : ℕ) (sizes₀ : List ℕ) (vias₀ : List Bool) (halves₀ sizes : List ℕ) (vias : List Bool) (halves : List ℕ) (at levels vertices : ℕ) (fit : Bool) : Type 0 where
  pub rows : List (List Vertex)
  pub reached : Reached (level_line (length s)) (length s) s from levels at rows
  pub vertices_are : vertices ≡ length (concat rows)
  pub fewer : vertices ≤ at
  pub fit_is : fit ≡ every row_in_limit rows
  pub sizes_stored : sizes ≡ sets sizes₀ 0 (map length rows)
  pub vias_stored : vias ≡ sets vias₀ 0 (vias_of (concat rows))
  pub halves_stored : fit ≡ true → halves ≡ sets halves₀ 0 (halves_of (concat rows))
  pub sizes_long : length sizes ≡ length sizes₀
  pub vias_long : length vias ≡ length vias₀
  pub halves_long : length halves ≡ length halves₀

pub order-more : (rows : List (List Vertex)) (vs : List Vertex) → concat (rows ++ vs ∷ []) ≡ concat rows ++ vs
order-more rows vs = concat-append rows (vs ∷ []) ∙ ap (λ (l : List Vertex). concat rows ++ l) (concat-one vs)

-- the stores of one more line
stored_more : {A : Type 0} (f : Vertex → A) (l : List A) (n : ℕ) (rows : List (List Vertex)) (vs : List Vertex) → n ≡ length (concat rows)
    → sets l 0 (map f (concat (rows ++ vs ∷ []))) ≡ sets (sets l 0 (map f (concat rows))) n (map f vs)
stored_more f l n rows vs e =
    let k : 0 + length (map f (concat rows)) ≡ n = omega (arith, length-map (concat rows) f) in
    rw (order-more rows vs, map-append f (concat rows) vs) (sets-append l 0 (map f (concat rows)) (map f vs) ∙ rw k)

module _ (s : List ℕ) (from : ℕ) (sizes₀ : List ℕ) (vias₀ : List Bool) (halves₀ : List ℕ) where
  pub rows_none : from ≤ length s → RowsSoFar s from sizes₀ vias₀ halves₀ sizes₀ vias₀ halves₀ from 0 0 true
  unfolding every concat
  rows_none h = record {
    rows = [];
    reached = reached-none (level_line (length s)) (length s) s from h;
    vertices_are = refl;
    fewer = omega arith;
    fit_is = refl;
    sizes_stored = refl;
    vias_stored = refl;
    halves_stored = λ e. refl;
    sizes_long = refl;
    vias_long = refl;
    halves_long = refl;
  }

  module _ {sizes : List ℕ} {vias : List Bool} {halves : List ℕ} {at levels vertices : ℕ} {fit : Bool} (R : RowsSoFar s from sizes₀ vias₀ halves₀ sizes vias halves at levels vertices fit) where
    pub rows_more : {sizes' : List ℕ} {vias' : List Bool} {halves' : List ℕ} {fit' : Bool} (r : Row) → FindsLevel s (at + 6) vertices r vias halves vias' halves' → r.form ≡ true
        → word (bytes "(level") (drop at s) ≡ got tt (drop (at + 6) s) → sizes' ≡ set sizes levels r.count → fit' ≡ fit && r.fit
        → length vias' ≡ length vias → length halves' ≡ length halves
        → RowsSoFar s from sizes₀ vias₀ halves₀ sizes' vias' halves' r.next (levels + 1) (vertices + r.count) fit'
    rows_more r L t w p f lv lh =
        let line : level_line (length s) (drop at s) ≡ got L.vertices (drop r.next s) = level-opens (length s) (drop at s) (drop (at + 6) s) w ∙ L.gives ∙ rw t in
        record {
          rows = R.rows ++ L.vertices ∷ [];
          reached = reached-more (level_line (length s)) (length s) s from levels at r.next R.rows L.vertices (omega arith) R.reached line (omega (arith, L.onward)) L.inside;
          vertices_are = rw (order-more R.rows L.vertices, length-append) (omega (arith, R.vertices_are, L.counted));
          fewer = omega (arith, L.onward, R.fewer);
          fit_is = f ∙ rw (R.fit_is, L.fit) (sym (every_more row_in_limit R.rows L.vertices));
          sizes_stored = p ∙ rw (R.sizes_stored, L.counted) (sym (sets_more length sizes₀ 0 levels R.rows L.vertices R.reached.counted ∙ zero-on L.vertices));
          vias_stored = L.vias_stored ∙ rw R.vias_stored (sym (stored_more (λ v. v.via) vias₀ vertices R.rows L.vertices R.vertices_are));
          halves_stored = λ e.
              let b : (fit && r.fit) ≡ true = sym f ∙ e in
              L.halves_stored (and_right fit r.fit b) ∙ rw (R.halves_stored (and_left fit r.fit b)) (sym (stored_more (λ v. v.half) halves₀ vertices R.rows L.vertices R.vertices_are));
          sizes_long = rw (p, length-set) R.sizes_long;
          vias_long = lv ∙ R.vias_long;
          halves_long = lh ∙ R.halves_long;
        }
      where
        zero-on : (vs : List Vertex) → set (sets sizes₀ 0 (map length R.rows)) (0 + levels) (length vs) ≡ set (sets sizes₀ 0 (map length R.rows)) levels (length vs)
        zero-on vs = let e : 0 + levels ≡ levels = omega arith in rw e

    pub rows_end : word (bytes "(level") (drop at s) ≡ nothing
        → FindsRows s from (record { form = true; levels = levels; vertices = vertices; fit = fit; next = at }) sizes₀ vias₀ halves₀ sizes vias halves
    rows_end e = record {
      rows = R.rows;
      gives = reached-end (level_line (length s)) (length s) s from levels at R.rows R.reached (level-none (length s) (drop at s) e);
      inside = R.reached.inside;
      counted = R.reached.counted;
      vertices = R.vertices_are;
      fit = R.fit_is;
      broken = λ t. never (sym t);
      sizes_stored = λ t. R.sizes_stored;
      vias_stored = λ t. R.vias_stored;
      halves_stored = λ t. R.halves_stored;
    }

    pub rows-broken : {sizes' : List ℕ} {vias' : List Bool} {halves' : List ℕ} → word (bytes "(level") (drop at s) ≡ got tt (drop (at + 6) s) → level_rest (length s) (drop (at + 6) s) ≡ nothing
        → FindsRows s from (record { form = false; levels = levels; vertices = vertices; fit = fit; next = at }) sizes₀ vias₀ halves₀ sizes' vias' halves'
    rows-broken w e = record {
      rows = R.rows;
      gives = reached-end (level_line (length s)) (length s) s from levels at R.rows R.reached (level-opens (length s) (drop at s) (drop (at + 6) s) w ∙ e);
      inside = R.reached.inside;
      counted = R.reached.counted;
      vertices = R.vertices_are;
      fit = R.fit_is;
      broken = λ t. w;
      sizes_stored = never;
      vias_stored = never;
      halves_stored = never;
    }

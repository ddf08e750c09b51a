-- A whole text: from what stands on its lines to `form_of`, and from the program's counts to `check2` and `stored`.
use mathlib.Core.Path.{◌≡◌, refl, sym, ◌∙◌, ap}
use mathlib.Core.Bool.{Bool, true, false, cond}
use mathlib.Core.List.{List, map}
use mathlib.Core.Option.{none, some}
use Prim.Native.Nat.{ℕ, ◌≤◌}
use native.Mathlib.Omega.{arith}
use borrow.Author.Tests.{leb-true}
use lib.Dec.{leb}
use lib.ListN.{length, drop, length-map}
use Rattle.ints.specs.Lists.{concat}
use Rattle.ints.proofs.Lists.{concat-length}
use Rattle.plan.specs.Limits.{max_levels, max_vertices, max_segments}
use Rattle.plan.specs.Checks.{every}
use Rattle.ints.proofs.Tests.{and_right}
use Rattle.text.specs.Bytes.{bytes}
use Rattle.text.specs.Parser.{got, nothing, Rule, then, word, many, number}
use Rattle.text.specs.Form.{Vertex, SegmentLine, Lines, level_line, segment_line, plan_text, form_of}
use Rattle.text.specs.Reading.{row_in_limit, rating_in_limit, rating_of, check2, stored}
use Rattle.text_scan.specs.inner.Scanned.{number_then, Header, plan_line, Ends}
use Rattle.text_read.specs.inner.Filled.{FindsRows, FindsSegments, Kept, Scans, in_limits}
use Rattle.text_scan.specs.declared.scanners.FoundHeader.{FoundHeader}
use Rattle.text_read.specs.declared.form.Rows.{Rows}
use Rattle.text_read.specs.declared.form.Segments.{Segments}
use Rattle.text_read.specs.declared.form.Scanned.{Scanned}
use Rattle.text.proofs.Words.{word-is}
use Rattle.text_scan.proofs.Lines.{then-then, then_same, number-then}
use Rattle.text.proofs.Repeats.{many-done}
use Rattle.text_scan.proofs.Stores.{sets_over}
use Rattle.text.proofs.PlanLimits.{check2-of}

-- ---- the form
-- what the lines say
abbrev pub lines_of : Header → List (List Vertex) → List SegmentLine → Lines
lines_of h rows segments = record { levels = h.levels; gap = h.gap; spacing = h.spacing; rows = rows; segments = segments }

-- what follows the plan line
abbrev body : ℕ → Header → Rule Lines
body n h t = then (many n (level_line n) t) (λ ls u. then (many n segment_line u) (λ ss v. then (word (bytes "(end)\n") v) (λ _ w. got (lines_of h ls ss) w)))

plan-text : (n : ℕ) (s : List ℕ) → plan_text n s ≡ then (plan_line s) (body n)
unfolding plan_text plan_line
plan-text n s =
    let hd : ℕ → ℕ → ℕ → Header = λ k g d. record { levels = k; gap = g; spacing = d } in
    let f3 : ℕ → ℕ → ℕ → Rule Lines = λ k g d t. body n (hd k g d) t in
    let f2 : ℕ → ℕ → Rule Lines = λ k g t. then (number t) (λ d u. then (word (bytes ")\n") u) (λ _ v. f3 k g d v)) in
    let f1 : ℕ → Rule Lines = λ k t. then (number t) (λ g u. then (word (bytes " ") u) (λ _ v. f2 k g v)) in
    let h2 : ℕ → ℕ → Rule Header = λ k g t. then (number_then (bytes ")\n") t) (λ d v. got (hd k g d) v) in
    let h1 : ℕ → Rule Header = λ k t. then (number_then (bytes " ") t) (h2 k) in
    let h0 : Rule Header = λ t. then (number_then (bytes " ") t) h1 in
    let e2 : (k g : ℕ) (t : List ℕ) → f2 k g t ≡ then (h2 k g t) (body n) = λ k g t.
    number-then (bytes ")\n") t (f3 k g) ∙ sym (then-then (number_then (bytes ")\n") t) (λ d v. got (hd k g d) v) (body n)) in
    let e1 : (k : ℕ) (t : List ℕ) → f1 k t ≡ then (h1 k t) (body n) = λ k t.
    number-then (bytes " ") t (f2 k) ∙ then_same (number_then (bytes " ") t) (f2 k) (λ g v. then (h2 k g v) (body n)) (e2 k)
    ∙ sym (then-then (number_then (bytes " ") t) (h2 k) (body n)) in
    let e0 : (t : List ℕ) → then (number t) (λ k u. then (word (bytes " ") u) (λ _ v. f1 k v)) ≡ then (h0 t) (body n) = λ t.
    number-then (bytes " ") t f1 ∙ then_same (number_then (bytes " ") t) f1 (λ k v. then (h1 k v) (body n)) e1
    ∙ sym (then-then (number_then (bytes " ") t) h1 (body n)) in
    then_same (word (bytes "(plan ") s) (λ _ t. then (number t) (λ k u. then (word (bytes " ") u) (λ _ v. f1 k v))) (λ _ t. then (h0 t) (body n)) (λ _ t. e0 t)
    ∙ sym (then-then (word (bytes "(plan ") s) (λ _ t. h0 t) (body n))

-- a line that begins as a level line is no segment line and no end
level-no-segment : (s t : List ℕ) → word (bytes "(level") s ≡ got tt t → segment_line s ≡ nothing
unfolding segment_line word
level-no-segment s t e = rw (word-is (bytes "(level") s t e)

level-no-end : (s t : List ℕ) → word (bytes "(level") s ≡ got tt t → word (bytes "(end)\n") s ≡ nothing
unfolding word
level-no-end s t e = rw (word-is (bytes "(level") s t e)

module _ (s : List ℕ) where
  pub form-none : plan_line s ≡ nothing → form_of s ≡ none
  unfolding form_of
  form-none e = rw (plan-text (length s) s, e)

  module _ (h : Header) (t u : List ℕ) (rows : List (List Vertex)) (p : plan_line s ≡ got h t) (q : many (length s) (level_line (length s)) t ≡ got rows u) where
    pub form-broken : (v : List ℕ) → word (bytes "(level") u ≡ got tt v → form_of s ≡ none
    unfolding form_of
    form-broken v e = rw (plan-text (length s) s, p, q, many-done segment_line (length s) u (level-no-segment u v e), level-no-end u v e)

    pub form-ends : (segments : List SegmentLine) (at : ℕ) (b : Bool) → many (length s) segment_line u ≡ got segments (drop at s) → Ends s at b → form_of s ≡ cond b (some (lines_of h rows segments)) none
    unfolding form_of
    form-ends segments at b e f = rw (plan-text (length s) s, p, q, e) (f.gives (lines_of h rows segments))

-- ---- the limits
limits-is : (h : FoundHeader) (r : Rows) (e : Segments) (rows : List (List Vertex)) (segments : List SegmentLine) → r.levels ≡ length rows → r.fit ≡ every row_in_limit rows
    → r.vertices ≡ length (concat rows) → e.count ≡ length segments → e.fit ≡ every (λ s. rating_in_limit s.rating) segments
    → in_limits h r e ≡ check2 (record { levels = h.levels; gap = h.gap; spacing = h.spacing; rows = rows; segments = segments })
unfolding check2
limits-is h r e rows segments a b c d f = rw (a, b, c, d, f, concat-length rows)

-- ---- what the program has
module _ (s : List ℕ) (sizes : List ℕ) (vias : List Bool) (halves uppers lowers ratings sizes' : List ℕ) (vias' : List Bool) (halves' uppers' lowers' ratings' : List ℕ) where
  pub scans-none : (r : Scanned) → r.form ≡ false → form_of s ≡ none → Scans s r sizes vias halves uppers lowers ratings sizes' vias' halves' uppers' lowers' ratings'
  scans-none r f e = record { form = f ∙ rw e; limits = λ l q. no l q; kept = λ l q c. no l q }
    where
      no : {A : Type 0} (l : Lines) → form_of s ≡ some l → A
      no l q = let z : ◌≡◌ {A = ℕ} 0 1 = cc in absurd (omega arith)

  module _ (h : FoundHeader) (at next : ℕ) (r : Rows) (e : Segments)
      (R : FindsRows s at r sizes vias halves sizes' vias' halves') (S : FindsSegments s next e uppers lowers ratings uppers' lowers' ratings') (f : r.form ≡ true)
      (n : max_levels ≤ length sizes) (i : max_vertices ≤ length vias) (j : max_vertices ≤ length halves) (k : max_segments ≤ length uppers) (m : max_segments ≤ length lowers)
      (w : max_segments ≤ length ratings) where
    abbrev found-lines : Lines
    found-lines = record { levels = h.levels; gap = h.gap; spacing = h.spacing; rows = R.rows; segments = S.segments }

    lines-kept : (o : Scanned) → o.levels ≡ h.levels → o.gap ≡ h.gap → o.spacing ≡ h.spacing → o.vertices ≡ r.vertices → o.segments ≡ e.count
        → check2 found-lines ≡ true → Kept (stored found-lines) o sizes vias halves uppers lowers ratings sizes' vias' halves' uppers' lowers' ratings'
    unfolding stored
    lines-kept o a b c d g t =
        let F = check2-of found-lines t in
        let top = leb-true h.levels max_levels (and_right (leb 1 h.levels) (leb h.levels max_levels) F.levels) in
        let all = concat-length R.rows in
        record {
          levels = a;
          gap = b;
          spacing = c;
          level-lines = rw length-map (a ∙ sym F.counted);
          vertices = rw length-map (d ∙ R.vertices);
          segments = rw length-map (g ∙ S.counted);
          lower-ends = rw length-map (g ∙ S.counted);
          rated = rw length-map (g ∙ S.counted);
          sizes-kept = R.sizes_stored f ∙ sets_over sizes (map length R.rows) (rw length-map (omega (arith, F.counted, top)));
          vias-kept = R.vias_stored f ∙ sets_over vias (map (λ v. v.via) (concat R.rows)) (rw length-map (omega (arith, F.vertices, all)));
          halves-kept = R.halves_stored f (R.fit ∙ F.rows) ∙ sets_over halves (map (λ v. v.half) (concat R.rows)) (rw length-map (omega (arith, F.vertices, all)));
          uppers-kept = S.uppers_stored ∙ sets_over uppers (map (λ x. x.segment.upper) S.segments) (rw length-map (omega (arith, F.segments)));
          lowers-kept = S.lowers_stored ∙ sets_over lowers (map (λ x. x.segment.lower) S.segments) (rw length-map (omega (arith, F.segments)));
          ratings-kept = S.ratings_stored ∙ sets_over ratings (map (λ x. rating_of x.rating) S.segments) (rw length-map (omega (arith, F.segments)));
        }

    pub scans-lines : (b : Bool) → b ≡ in_limits h r e → form_of s ≡ some found-lines
        → Scans s (record { form = true; limits = b; levels = h.levels; gap = h.gap; spacing = h.spacing; vertices = r.vertices; segments = e.count }) sizes vias halves uppers lowers ratings sizes' vias' halves' uppers' lowers' ratings'
    scans-lines b q p = record {
      form = rw p;
      limits = λ l x. q ∙ limits-is h r e R.rows S.segments R.counted R.fit R.vertices S.counted S.fit ∙ ap check2 (one l x);
      kept = λ l x t. rw (← one l x) (lines-kept _ refl refl refl refl refl (ap check2 (one l x) ∙ t));
    }
      where
        one : (l : Lines) → form_of s ≡ some l → found-lines ≡ l
        one l x = cc

-- From what the program finds to `reading`: which check fails first.
use mathlib.Core.Path.{◌≡◌, refl, sym, ◌∙◌, ap}
use mathlib.Core.Bool.{Bool, true, false}
use mathlib.Core.List.{List, ◌∷◌}
use mathlib.Core.Option.{Option, none, some}
use Prim.Native.Nat.{ℕ, ◌≤◌, ◌<◌}
use native.Mathlib.Omega.{arith}
use borrow.Author.Tests.{le-leb, lt-leb, eq-eqb, ne_eqb}
use lib.Dec.{leb}
use lib.ListN.{length, take, replicate, length-append}
use lib.Seq.{take_at}
use Rattle.ints.specs.Lists.{over}
use Rattle.ints.specs.Refusals.{Test, check, first_refusal, Verdict, gives}
use Rattle.plan.specs.Plan.{PlanData}
use Rattle.plan.specs.Stored.{stored_plan}
use Rattle.plan.specs.Checks.{checks_of, tangled_checks_of}
use Rattle.plan.specs.Acceptable.{acceptable}
use Rattle.plan.specs.inner.Graph.{graph_of}
use Rattle.plan.proofs.GraphLaws.{same-checks}
use Rattle.plan.proofs.LimitLaws.{Limits}
use Rattle.plan.proofs.Sound.{sound}
use Rattle.text.specs.Form.{Lines, form_of}
use Rattle.text.specs.Reading.{max_bytes, check2, stored, tests_by, tests_of, accepted, refused, read_as, reading, tangled_reading}
use Rattle.text_read.specs.inner.Filled.{is_some, Kept, Scans}
use Rattle.text_read.specs.declared.form.Scanned.{Scanned}
use Rattle.text.proofs.Words.{never}
use Rattle.text.proofs.RoundTrip.{Formed, formed-of, read-acceptable}
use Rattle.text.proofs.WhenRefused.{tangled-passed}
use Rattle.ints.proofs.Tests.{test}
use Rattle.text_read.specs.Answer.{plan_of, answer_of}
use Rattle.text_read.specs.inner.Failed.{Fronts, checks_in}
use Rattle.text_read.specs.inner.Taken.{InFronts, Accepts}
use Rattle.text_read.specs.declared.ReadText.{ReadText}

-- ---- the same first refusal: the same outcome of checks 1 and 2, and the same later checks where they are asked
agree : {xs ys : List Test} (a b c d : Bool) → a ≡ b → c ≡ d → (c ≡ true → xs ≡ ys)
    → first_refusal (check 1 a ∷ check 2 c ∷ xs) ≡ first_refusal (check 1 b ∷ check 2 d ∷ ys)
unfolding first_refusal
agree {xs} {ys} a b c d e f g = rw (e, ← f) (by c g)
  where
    by : (c : Bool) → (c ≡ true → xs ≡ ys) → first_refusal (check 1 b ∷ check 2 c ∷ xs) ≡ first_refusal (check 1 b ∷ check 2 c ∷ ys)
    by true g = rw (g refl)
    by false g = refl

-- ---- a text by its form and its checks
module _ (s : List ℕ) where
  long-reads : max_bytes < length s → (o : Option Lines) → read_as (first_refusal (tests_of s o)) o ≡ refused 1
  unfolding tests_by first_refusal
  long-reads h none = refl
  long-reads h (some l) = rw (lt-leb (length s) max_bytes h)

  pub reads-long : max_bytes < length s → reading s ≡ refused 1
  unfolding reading
  reads-long h = long-reads h (form_of s)

  none_reads : (o : Option Lines) → is_some o ≡ false → read_as (first_refusal (tests_of s o)) o ≡ refused 1
  unfolding tests_by first_refusal
  none_reads none e = refl
  none_reads (some l) e = never (sym e)

  reads-no-form : is_some (form_of s) ≡ false → reading s ≡ refused 1
  unfolding reading
  reads-no-form e = none_reads (form_of s) e

  module _ (l : Lines) (e : form_of s ≡ some l) (n : ℕ) (h : n ≡ first_refusal (tests_of s (some l))) where
    reads-failed : (n ≡ 0 → ⊥) → reading s ≡ refused n
    unfolding reading
    reads-failed z = rw (e, ← h, ne_eqb n 0 z)

    reads-passed : n ≡ 0 → reading s ≡ accepted (stored l)
    unfolding reading
    reads-passed z = rw (e, ← h, eq-eqb n 0 z)

-- a text that passes checks 1 to 5 is not too long
formed : (s : List ℕ) (p : PlanData) → tangled_reading s ≡ accepted p → Formed s p
formed s p e = (formed-of tangled_checks_of s p ((tangled-passed s p).0 e)).0

pub not-long : {A : Type 0} (s : List ℕ) (p : PlanData) → max_bytes < length s → tangled_reading s ≡ accepted p → A
not-long s p h e = absurd (omega (arith, (formed s p e).short))

-- the lines of a text in the form
some-lines : (o : Option Lines) → is_some o ≡ true → (l : Lines) × (o ≡ some l)
some-lines none e = never e
some-lines (some l) e = (l, refl)

-- the front of an array is the data
front : {A : Type 0} (xs o ys : List A) (n : ℕ) → ys ≡ over xs o → n ≡ length xs → take n ys ≡ xs
front xs o ys n e f = ap (take n) e ∙ take_at xs _ n (sym f)

pub within : {A : Type 0} (xs o ys : List A) → ys ≡ over xs o → length xs ≤ length ys
within xs o ys e = rw (e, length-append) (omega arith)

-- ---- the arrays of a plan's data
module _ (p : PlanData) (r : Scanned) (sizes : List ℕ) (vias : List Bool) (halves uppers lowers ratings sizes' : List ℕ) (vias' : List Bool) (halves' uppers' lowers' ratings' : List ℕ)
    (K : Kept p r sizes vias halves uppers lowers ratings sizes' vias' halves' uppers' lowers' ratings') where
  pub sizes-front : take r.levels sizes' ≡ p.sizes
  sizes-front = front p.sizes sizes sizes' r.levels K.sizes-kept K.level-lines

  pub vias-front : take r.vertices vias' ≡ p.vias
  vias-front = front p.vias vias vias' r.vertices K.vias-kept K.vertices

  pub uppers-front : take r.segments uppers' ≡ p.uppers
  uppers-front = front p.uppers uppers uppers' r.segments K.uppers-kept K.segments

  pub lowers-front : take r.segments lowers' ≡ p.lowers
  lowers-front = front p.lowers lowers lowers' r.segments K.lowers-kept K.lower-ends

  pub ratings-front : take r.segments ratings' ≡ p.ratings
  ratings-front = front p.ratings ratings ratings' r.segments K.ratings-kept K.rated

  kept-fronts : length sizes' ≡ 64 → length vias' ≡ 1024 → length uppers' ≡ 2048 → Fronts r sizes' vias' uppers' lowers'
  kept-fronts a b c = record {
    levels = omega (arith, K.level-lines, within p.sizes sizes sizes' K.sizes-kept);
    vertices = omega (arith, K.vertices, within p.vias vias vias' K.vias-kept);
    uppers_reach = omega (arith, K.segments, within p.uppers uppers uppers' K.uppers-kept);
    lowers_reach = omega (arith, K.lower-ends, within p.lowers lowers lowers' K.lowers-kept);
    few_levels = omega arith;
    few_vertices = omega arith;
    few_segments = omega arith;
  }

  kept-checks : checks_of (graph_of (take r.levels sizes') (take r.vertices vias') (take r.segments uppers') (take r.segments lowers')) ≡ checks_of p
  kept-checks = (λ i. checks_of (graph_of (sizes-front i) (vias-front i) (uppers-front i) (lowers-front i))) ∙ sym (same-checks p)

  halves-count : Limits p → r.vertices ≡ length p.halves
  halves-count l = K.vertices ∙ sym l.halves_long

  pub halves-front : Limits p → take r.vertices halves' ≡ p.halves
  halves-front l = front p.halves halves halves' r.vertices K.halves-kept (halves-count l)

  pub in-fronts : acceptable p ≡ true → InFronts p r sizes' vias' halves' uppers' lowers' ratings'
  in-fronts ok =
      let l = (sound p ok).limits in
      record {
        lists = record {
          levels_are = sym (ap length sizes-front ∙ l.sizes_long);
          gap_is = sym K.gap;
          sizes_are = sym sizes-front;
          vias_are = sym vias-front;
          halves_are = sym (halves-front l);
          uppers_are = sym uppers-front;
          lowers_are = sym lowers-front;
          ok = ok;
        };
        spaced = sym K.spacing;
        rated = sym ratings-front;
        sizes_reach = omega (arith, K.level-lines, within p.sizes sizes sizes' K.sizes-kept);
        vias_reach = omega (arith, K.vertices, within p.vias vias vias' K.vias-kept);
        halves_reach = omega (arith, halves-count l, within p.halves halves halves' K.halves-kept);
        uppers_reach = omega (arith, K.segments, within p.uppers uppers uppers' K.uppers-kept);
        lowers_reach = omega (arith, K.lower-ends, within p.lowers lowers lowers' K.lowers-kept);
        ratings_reach = omega (arith, K.rated, within p.ratings ratings ratings' K.ratings-kept);
      }

-- what is answered of the data, from arrays that were 0
module _ (p : PlanData) (r : Scanned) (sizes' : List ℕ) (vias' : List Bool) (halves' uppers' lowers' ratings' : List ℕ)
    (K : Kept p r (replicate 64 0) (replicate 1024 false) (replicate 1024 0) (replicate 2048 0) (replicate 2048 0) (replicate 2048 0) sizes' vias' halves' uppers' lowers' ratings') where
  pub kept-plan : ◌≡◌ {A = ReadText}
      (record {
        vertices = r.vertices;
        segments = r.segments;
        plan = stored_plan r.levels r.gap r.spacing sizes' vias' halves' uppers' lowers' ratings';
      })
      (record { vertices = length p.vias; segments = length p.uppers; plan = plan_of p })
  unfolding plan_of
  kept-plan = λ i. record {
    vertices = K.vertices i;
    segments = K.segments i;
    plan = stored_plan (K.levels i) (K.gap i) (K.spacing i) (K.sizes-kept i) (K.vias-kept i) (K.halves-kept i) (K.uppers-kept i) (K.lowers-kept i) (K.ratings-kept i);
  }

  pub kept-answer : ◌≡◌ {A = Verdict ReadText}
      (gives (record {
        vertices = r.vertices;
        segments = r.segments;
        plan = stored_plan r.levels r.gap r.spacing sizes' vias' halves' uppers' lowers' ratings';
      }))
      (answer_of (accepted p))
  unfolding answer_of
  kept-answer = ap gives kept-plan

-- ---- a scanned text, and what the program answers of it
module _ (s : List ℕ) (r : Scanned) (sizes : List ℕ) (vias : List Bool) (halves uppers lowers ratings sizes' : List ℕ) (vias' : List Bool) (halves' uppers' lowers' ratings' : List ℕ)
    (S : Scans s r sizes vias halves uppers lowers ratings sizes' vias' halves' uppers' lowers' ratings') (short : length s ≤ max_bytes) where
  pub reads_kept : (p : PlanData) → tangled_reading s ≡ accepted p → Kept p r sizes vias halves uppers lowers ratings sizes' vias' halves' uppers' lowers' ratings'
  reads_kept p e = let f = formed s p e in rw f.stores at (S.kept f.lines f.form f.two)

  no-form : r.form ≡ false → reading s ≡ refused 1
  no-form f = reads-no-form s (sym S.form ∙ f)

  module _ (f : r.form ≡ true) where
    the-lines : Lines
    the-lines = (some-lines (form_of s) (sym S.form ∙ f)).0

    the_form : form_of s ≡ some the-lines
    unfolding the-lines
    the_form = (some-lines (form_of s) (sym S.form ∙ f)).1

    module _ (g : r.limits ≡ true) where
      the_kept : Kept (stored the-lines) r sizes vias halves uppers lowers ratings sizes' vias' halves' uppers' lowers' ratings'
      the_kept = S.kept the-lines the_form (sym (S.limits the-lines the_form) ∙ g)

      pub the-fronts : length sizes' ≡ 64 → length vias' ≡ 1024 → length uppers' ≡ 2048 → Fronts r sizes' vias' uppers' lowers'
      the-fronts = kept-fronts (stored the-lines) r sizes vias halves uppers lowers ratings sizes' vias' halves' uppers' lowers' ratings' the_kept

    -- what the program found is what the definition finds
    same_first : first_refusal (checks_in r sizes' vias' uppers' lowers') ≡ first_refusal (tests_of s (some the-lines))
    unfolding tests_by
    same_first = agree r.form (leb (length s) max_bytes) r.limits (check2 the-lines) (f ∙ sym (le-leb (length s) max_bytes short))
        (S.limits the-lines the_form)
        (λ g. kept-checks (stored the-lines) r sizes vias halves uppers lowers ratings sizes' vias' halves' uppers' lowers' ratings' (the_kept g))

  -- the number n that the program finds is that of the refusal, and 0 means that there is none
  module _ (n : ℕ) (h : n ≡ first_refusal (checks_in r sizes' vias' uppers' lowers')) where
    pub check-fails : (n ≡ 0 → ⊥) → reading s ≡ refused n
    unfolding first_refusal
    check-fails z = test r.form
        (λ f. reads-failed s (the-lines f) (the_form f) n (h ∙ same_first f) z)
        (λ f. no-form f ∙ ap refused (sym (rw f at h)))

    pub all_pass : n ≡ 0 → Accepts s r sizes vias halves uppers lowers ratings sizes' vias' halves' uppers' lowers' ratings'
    unfolding first_refusal
    all_pass z = test r.form
        (λ f. test r.limits
        (λ g.
        let p = stored (the-lines f) in
        let e : reading s ≡ accepted p = reads-passed s (the-lines f) (the_form f) n (h ∙ same_first f) z in
        record {
          plan = p;
          reads = e;
          kept = the_kept f g;
          fronts = in-fronts p r sizes vias halves uppers lowers ratings sizes' vias' halves' uppers' lowers' ratings' (the_kept f g) (read-acceptable s p e);
        })
        (λ g. absurd (omega (arith, rw (f, g) at h))))
        (λ f. absurd (omega (arith, rw f at h)))

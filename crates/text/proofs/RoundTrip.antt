-- Reading and writing are inverse: the text of an acceptable plan reads as the plan, a plan that was read is acceptable, and its
-- text is the text that was read, byte for byte. Assumes nothing.
use mathlib.Core.Path.{◌≡◌, sym, ◌∙◌, ap}
use mathlib.Core.Bool.{true}
use mathlib.Core.List.{List, [], ◌∷◌, map}
use mathlib.Core.Option.{some}
use Prim.Native.Nat.{ℕ, ◌≤◌}
use native.Mathlib.Omega.{arith}
use borrow.Author.Tests.{leb-true, le-leb, not-false}
use lib.Dec.{leb}
use lib.ListN.{length}
use Rattle.plan.specs.Plan.{PlanData}
use Rattle.plan.specs.Segments.{segments_of, rated_from, rated_of}
use Rattle.plan.specs.Checks.{every, check3, check4, check5, checks_of, tangled_checks_of}
use Rattle.plan.specs.Acceptable.{limits_hold, acceptable}
use Rattle.ints.specs.Refusals.{Test, check, none_refuses}
use Rattle.ints.proofs.Refusals.{none-at, none-append}
use Rattle.ints.proofs.Tests.{and_left, and_right, ◌and◌}
use Rattle.plan.proofs.GraphLaws.{Checked, checked, checks-pass}
use Rattle.plan.proofs.LimitLaws.{LimitTests, limit-tests, limits-hold}
use Rattle.text.specs.Form.{Lines, form_of}
use Rattle.text.specs.Reading.{max_bytes, rating_in_limit, check2, stored, tests_by, text_tests, accepted, reading, tangled_reading}
use Rattle.text.specs.Writing.{text_of}
use Rattle.text.proofs.TestLaws.{every-and}
use Rattle.text.proofs.WrittenForm.{form_text, form-reads, form-writes}
use Rattle.text.proofs.StoredText.{stored-text}
use Rattle.text.proofs.PlanLines.{segment_line_from, ratings-in-limit, segments-hold, lines_from}
use Rattle.text.proofs.PlanLimits.{check2-of, check2-holds, stored-limits, lines-stored-again, lines_ok, lines-limits, ends_below, ends-below, short_line, ends-ok}
use Rattle.text.proofs.WhenRefused.{Reads, read-passed, tangled-passed}
use Rattle.text.proofs.TextLength.{form-short}

-- ---- from data to a text and back
-- what an acceptable plan passes
pub record Acceptable (p : PlanData) : Type 0 where
  pub limits : LimitTests p
  pub checks : Checked p

pub acceptable-of : (p : PlanData) → acceptable p ≡ true → Acceptable p
unfolding acceptable
acceptable-of p h = record {
  limits = limit-tests p (and_left (limits_hold p) (none_refuses (checks_of p)) h);
  checks = checked p (and_right (limits_hold p) (none_refuses (checks_of p)) h);
}

pub acceptable-holds : (p : PlanData) → Acceptable p → acceptable p ≡ true
unfolding acceptable
acceptable-holds p h = limits-hold p h.limits and checks-pass p h.checks

ends : (p : PlanData) → LimitTests p → check3 p ≡ true → every short_line (map segment_line_from (rated_of p)) ≡ true
unfolding rated_of
ends p l c =
    let ss = segments_of p in
    let ws = p.ratings in
    every-and (λ s. ends_below s.segment) (λ s. rating_in_limit s.rating) (map segment_line_from (rated_from ss ws))
    (segments-hold ends_below ss ws (ends-below p l.vertices c)) (ratings-in-limit ss ws l.ratings)

text-form : (p : PlanData) → LimitTests p → text_of p ≡ form_text (lines_from p)
text-form p l = ap text_of (sym (lines-stored-again p l)) ∙ stored-text (lines_from p) (lines-limits p l).ratings

-- How long the text is of a plan within its limits whose segments end at its vertices.
pub limits-short : (p : PlanData) → limits_hold p ≡ true → check3 p ≡ true → length (text_of p) ≤ 51738
unfolding lines_from
limits-short p h c = let l = limit-tests p h in rw (text-form p l) (form-short (lines_from p) (lines-limits p l) (ends p l c))

-- "A text of an acceptable plan has at most 51,738 bytes"
pub text-short : (p : PlanData) → acceptable p ≡ true → length (text_of p) ≤ 51738
text-short p h = let a = acceptable-of p h in limits-short p (limits-hold p a.limits) a.checks.three

-- The text of an acceptable plan reads as the plan.
pub read-written : (p : PlanData) → acceptable p ≡ true → reading (text_of p) ≡ accepted p
unfolding tests_by none_refuses
read-written p h =
    let a = acceptable-of p h in
    let ok = lines_ok p a.limits (ends-ok (map segment_line_from (rated_of p)) (ends p a.limits a.checks.three)) in
    let form : form_of (text_of p) ≡ some (lines_from p) = ap form_of (text-form p a.limits) ∙ form-reads (lines_from p) ok in
    let short = le-leb (length (text_of p)) max_bytes (omega (arith, text-short p h)) in
    let two = check2-holds (lines_from p) (lines-limits p a.limits) in
    let same = lines-stored-again p a.limits in
    let passed : none_refuses (text_tests (text_of p)) ≡ true = rw (form, short, two, same) (checks-pass p a.checks) in
    (read-passed (text_of p) p).1 (record { lines = lines_from p; form = form; stores = same; passed = passed })

-- ---- from a text to data and back
-- what a text passes that was read as p, by whatever checks of a plan
pub record Formed (s : List ℕ) (p : PlanData) : Type 0 where
  pub short : length s ≤ max_bytes
  pub lines : Lines
  pub form : form_of s ≡ some lines
  pub two : check2 lines ≡ true
  pub stores : stored lines ≡ p

pub formed-of : (checks : PlanData → List Test) (s : List ℕ) (p : PlanData) → Reads checks s (form_of s) p → Formed s p × (none_refuses (checks p) ≡ true)
unfolding tests_by
formed-of checks s p r =
    let passed : none_refuses (tests_by checks s (some r.lines)) ≡ true = rw r.form at r.passed in
    let first = check 1 (leb (length s) max_bytes) ∷ check 2 (check2 r.lines) ∷ [] in
    let later = checks (stored r.lines) in
    let rest : none_refuses later ≡ true = and_right (none_refuses first) (none_refuses later) (sym (none-append first later) ∙ passed) in
    let pass = none-at (tests_by checks s (some r.lines)) passed in
    let formed : Formed s p = record {
      short = leb-true (length s) max_bytes (not-false (leb (length s) max_bytes) (pass 0));
      lines = r.lines;
      form = r.form;
      two = not-false (check2 r.lines) (pass 1);
      stores = r.stores;
    } in
    (formed, rw r.stores at rest)

-- its text is the text that was read, and its data are within the limits
formed-text : {s : List ℕ} {p : PlanData} → Formed s p → text_of p ≡ s
formed-text {s} {p} f = ap text_of (sym f.stores) ∙ stored-text f.lines (check2-of f.lines f.two).ratings ∙ sym (form-writes s f.lines f.form).0

formed-limits : {s : List ℕ} {p : PlanData} → Formed s p → LimitTests p
formed-limits {s} {p} f =
    rw f.stores at (stored-limits f.lines (form-writes s f.lines f.form).1 (check2-of f.lines f.two))

-- What is written of a plan that was read is the text that was read, byte for byte.
pub written_read : (s : List ℕ) (p : PlanData) → reading s ≡ accepted p → text_of p ≡ s
written_read s p e = formed-text (formed-of checks_of s p ((read-passed s p).0 e)).0

-- A plan that was read is acceptable.
pub read-acceptable : (s : List ℕ) (p : PlanData) → reading s ≡ accepted p → acceptable p ≡ true
read-acceptable s p e =
    let f = formed-of checks_of s p ((read-passed s p).0 e) in
    acceptable-holds p (record { limits = formed-limits f.0; checks = checked p f.1 })

-- ---- the same of the second way
pub written-tangled : (s : List ℕ) (p : PlanData) → tangled_reading s ≡ accepted p → text_of p ≡ s
written-tangled s p e = formed-text (formed-of tangled_checks_of s p ((tangled-passed s p).0 e)).0

pub tangled-limits : (s : List ℕ) (p : PlanData) → tangled_reading s ≡ accepted p → limits_hold p ≡ true
tangled-limits s p e = limits-hold p (formed-limits (formed-of tangled_checks_of s p ((tangled-passed s p).0 e)).0)

-- what it passes of checks 3 to 5
pub record Through (p : PlanData) : Type 0 where
  pub three : check3 p ≡ true
  pub four : check4 p ≡ true
  pub five : check5 p ≡ true

pub tangled-through : (s : List ℕ) (p : PlanData) → tangled_reading s ≡ accepted p → Through p
unfolding tangled_checks_of
tangled-through s p e =
    let pass = none-at (tangled_checks_of p) (formed-of tangled_checks_of s p ((tangled-passed s p).0 e)).1 in
    record { three = not-false (check3 p) (pass 0); four = not-false (check4 p) (pass 1); five = not-false (check5 p) (pass 2) }

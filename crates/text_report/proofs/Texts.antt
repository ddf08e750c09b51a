-- What becomes of a text, as the programs meet it: by what reading it answered; what its report has at most, and what is printed.
use mathlib.Core.Path.{◌≡◌, refl, sym, ◌∙◌, ap}
use mathlib.Core.List.{List, [], ◌∷◌}
use Prim.Native.Nat.{ℕ, ◌≤◌}
use native.Mathlib.Omega.{arith}
use lib.Dec.{eqb}
use lib.ListN.{length}
use Rattle.ints.specs.Lists.{concat, over}
use Rattle.std.specs.Prelude.{Result, Ok, Err}
use Rattle.ints.specs.Refusals.{first_refusal, number_of, gives, refuses}
use Rattle.ints.specs.declared.refusal.Refusal.{Refusal}
use Rattle.plan.specs.Plan.{PlanData}
use Rattle.plan.proofs.Sound.{sound}
use Rattle.plan_renumber.proofs.Own.{own}
use Rattle.plan_untangle.specs.Order.{order, untangled}
use Rattle.plan_untangle.proofs.Untangled.{order_is, untangled-stays, untangled-own}
use Rattle.text.specs.Reading.{Reading, accepted, refused, reading, tangled_reading}
use Rattle.text.proofs.BothWays.{taken-both}
use Rattle.text.proofs.RoundTrip.{read-acceptable}
use Rattle.text.proofs.Words.{never}
use Rattle.text_untangle.proofs.ArrayLaws.{untangled-ok}
use Rattle.text_write.specs.Again.{refused_line}
use Rattle.text_write.specs.inner.Written.{Fronts}
use Rattle.passes.specs.Drawing.{Drawing, drawing_of}
use Rattle.report.specs.Lines.{report_lines}
use Rattle.report.specs.Printed as report
use Rattle.report.specs.Printed.{printed_of, printed}
use Rattle.report_validity.proofs.Drawn.{drawn-valid}
use Rattle.report_lines.specs.inner.Stored.{max_report}
use Rattle.report_lines.proofs.Lengths.{report-short}
use Rattle.report_lines.proofs.Printable.{printable, printable-by, stays_by}
use Rattle.sheet_data.proofs.ReadBack.{preliminary-long, final-long}
use Rattle.sheet.specs.Tests.{test14}
use Rattle.sheet.specs.Calls.{TextOut, Writes}
use Rattle.sheet.specs.inner.Printed.{Prints}
use Rattle.sheet.proofs.WhenRefused.{given}
use Rattle.sheet_fit.specs.inner.Fitted.{fitted_text}
use Rattle.sheet_fit.proofs.FitLaws.{fitted-long}
use Rattle.text_report.specs.Texts.{report_of}
use Rattle.text_report.specs.Tangled.{tangled_report_of}
use Rattle.text_report.specs.inner.Numbered.{report_numbered}

-- ---- a text that is accepted, and one that is refused
module _ (p : PlanData) where
  pub report-of : (b : List ℕ) → report_of (accepted p) b ≡ fitted_text (concat (report_lines p (drawing_of p))) b
  unfolding report_of
  report-of b = refl

  pub tangled-of : (b : List ℕ) → tangled_report_of (accepted p) b ≡ fitted_text (report_numbered (untangled p) (order p)) b
  unfolding tangled_report_of
  tangled-of b = refl

module _ (r : Refusal) where
  pub report-not : (b : List ℕ) → Writes (report_of (refused (number_of r)) b) (Err r) b
  unfolding report_of
  report-not b = record { answered = refl; left = refl }

  pub tangled-not : (b : List ℕ) → Writes (tangled_report_of (refused (number_of r)) b) (Err r) b
  unfolding tangled_report_of
  tangled-not b = record { answered = refl; left = refl }

-- ---- a text that the first way takes has the same report both ways
pub tangled-same : (s : List ℕ) (p : PlanData) → reading s ≡ accepted p → (b : List ℕ) → tangled_report_of (tangled_reading s) b ≡ report_of (reading s) b
tangled-same s p e b =
    let ok = read-acceptable s p e in
    let d = drawing_of p in
    ap (λ g. tangled_report_of g b) (taken-both s p e) ∙ tangled-of p b ∙ ap (λ (q : PlanData). fitted_text (report_numbered q (order p)) b) (untangled-stays p ok)
    ∙ ap (λ m. fitted_text (report_numbered p m) b) (order_is p ok)
    ∙ ap (λ (c : Drawing). fitted_text (concat (report_lines p c)) b) (stays_by p d (printable p d ok (drawn-valid p ok)) (preliminary-long p ok) (final-long p ok))
    ∙ sym (report-of p b) ∙ ap (λ g. report_of g b) (sym e)

-- ---- how much it has at most
module _ (text : List ℕ) where
  short : (p : PlanData) → reading text ≡ accepted p → length (concat (report_lines p (drawing_of p))) ≤ max_report
  short p e = let a = read-acceptable text p e in report-short (printable p (drawing_of p) a (drawn-valid p a))

  pub report-few : (b : List ℕ) (n : ℕ) → (report_of (reading text) b).result ≡ gives n → n ≤ max_report
  unfolding report_of
  report-few b n = go (reading text) refl
    where
      go : (g : Reading) → reading text ≡ g → (report_of g b).result ≡ gives n → n ≤ max_report
      go (accepted p) e h =
          let w = concat (report_lines p (drawing_of p)) in
          let r = first_refusal (test14 w b ∷ []) in
          omega (arith, short p e, given (eqb r 0) r (length w) n h)
      go (refused k) e h = never (cc)

  pub tangled-few : (b : List ℕ) (n : ℕ) → (tangled_report_of (tangled_reading text) b).result ≡ gives n → n ≤ max_report
  unfolding tangled_report_of
  tangled-few b n = go (tangled_reading text) refl
    where
      go : (g : Reading) → tangled_reading text ≡ g → (tangled_report_of g b).result ≡ gives n → n ≤ max_report
      go (accepted p) e h =
          let q = untangled p in
          let a = untangled-ok text p e in
          let w = report_numbered q (order p) in
          let o = own q (order p) (sound q a).limits.sizes_sum (untangled-own p) in
          let s = report-short (printable-by o.once (printable q (drawing_of q) a (drawn-valid q a))) in
          let r = first_refusal (test14 w b ∷ []) in
          omega (arith, s, given (eqb r 0) r (length w) n h)
      go (refused k) e h = never (cc)

-- ---- what is printed, by what the report answers in a buffer that has room for every report
module _ (text b out : List ℕ) (m : max_report ≤ length b) where
  fits : (p : PlanData) → reading text ≡ accepted p
      → report_of (accepted p) b ≡ record { result = gives (length (concat (report_lines p (drawing_of p)))); buffer = over (concat (report_lines p (drawing_of p))) b }
  unfolding report_of
  fits p e = let w = concat (report_lines p (drawing_of p)) in fitted-long (length w) w b (omega (arith, short text p e))

  prints-report : (n : ℕ) → Writes (report_of (reading text) b) (Ok n) out → Fronts (printed text) b n out
  unfolding printed printed_of report_of
  prints-report n = go (reading text) refl
    where
      go : (g : Reading) → reading text ≡ g → Writes (report_of g b) (Ok n) out → Fronts (printed_of g) b n out
      go (accepted p) e w =
          let told : gives n ≡ gives (length (concat (report_lines p (drawing_of p)))) = w.answered ∙ ap (λ (o : TextOut). o.result) (fits p e) in
          record { count = cc told; bytes = w.left ∙ ap (λ (o : TextOut). o.buffer) (fits p e) }
      go (refused k) e w = let told : gives n ≡ refuses k = w.answered in never (cc)

  -- the line that says so is written after the report was refused
  prints-refused : (f : Refusal) {r : ℕ} {after : List ℕ} → Writes (report_of (reading text) b) (Err f) out → Fronts (refused_line (number_of f)) out r after → Fronts (printed text) b r after
  unfolding printed printed_of report_of refused_line report.refused_line
  prints-refused f {r} {after} w l = go (reading text) refl w
    where
      go : (g : Reading) → reading text ≡ g → Writes (report_of g b) (Err f) out → Fronts (printed_of g) b r after
      go (accepted p) e w =
          let told : refuses (number_of f) ≡ gives (length (concat (report_lines p (drawing_of p)))) = w.answered ∙ ap (λ (o : TextOut). o.result) (fits p e) in
          never (cc)
      go (refused k) e w =
          let told : refuses (number_of f) ≡ refuses k = w.answered in
          let same : number_of f ≡ k = cc told in
          rw (same, w.left) at l

  pub prints : (a : Result ℕ Refusal) {r : ℕ} {after : List ℕ} → Writes (report_of (reading text) b) a out → Prints number_of a out r after → Fronts (printed text) b r after
  prints (Ok n) w h = rw (h.0, h.1) (prints-report n w)
  prints (Err f) w h = prints-refused f w h

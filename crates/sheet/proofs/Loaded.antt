-- What load leaves, by either way, is never refused 13: it can be drawn, and until then line and mark are refused 12. The second way
-- leaves the rearranged plan, and takes what the first way takes and what that refuses with 6.
use mathlib.Core.Path.{◌≡◌, refl, sym, ◌∙◌, ap}
use mathlib.Core.Bool.{Bool, true}
use mathlib.Core.List.{List}
use Prim.Native.Nat.{ℕ}
use lib.ListN.{length, drop, replicate}
use lib.Seq.{take_at}
use lib.Ieee.{Float}
use Rattle.ints.specs.Refusals.{is_first, none_refuses}
use Rattle.plan.specs.Limits.{max_vertices}
use Rattle.plan.specs.Plan.{PlanData, vertex_count, numbers}
use Rattle.plan.specs.Acceptable.{acceptable}
use Rattle.passes.proofs.Sound.{sound}
use Rattle.plan_renumber.specs.Renumber.{own_numbers}
use Rattle.plan_renumber.proofs.Own.{own, own-test, own-numbers}
use Rattle.plan_untangle.specs.Order.{order, untangled}
use Rattle.plan_untangle.proofs.Untangled.{untangled-own, order_is, untangled-stays}
use Rattle.text.specs.Reading.{accepted, reading, tangled_reading}
use Rattle.text.specs.Writing.{text_of}
use Rattle.text.proofs.BothWays.{taken-both, refused-6}
use Rattle.text.proofs.WhenRefused.{read-refused}
use Rattle.text.proofs.RoundTrip.{read-written, read-acceptable}
use Rattle.text_read.specs.Answer.{plan_of, answer_of}
use Rattle.text_untangle.proofs.ArrayLaws.{untangled-ok}
use Rattle.text_write.proofs.AgainLaws.{Again, read-accepted}
use Rattle.sheet.specs.declared.types.Sheet.{Sheet}
use Rattle.sheet.specs.Sheet.{plan_in, remembered_in, loaded_sheet, loaded_as_read, loaded_untangled}
use Rattle.ints.specs.Refusals.{gives, refuses}
use Rattle.sheet.specs.Tests.{holds_plan, holds_numbers}
use Rattle.sheet.specs.Calls.{sheet_out, load, load_tangled, draw, line, report, mark, marks}
use Rattle.sheet.proofs.WhenRefused.{load-refused, load_read, tangled-read, draw-given, line_refused, report-refused, mark-refused, marks-refused}
use Rattle.report_validity.proofs.Stored.{stored-holds}

-- ---- a sheet just loaded
module _ (tangled : Bool) (m : List ℕ) (p : PlanData) where
  abbrev sheet : Sheet
  sheet = loaded_sheet tangled m p

  pub just-line : (n : ℕ) (b : List ℕ) → (line sheet n b).result ≡ refuses 12
  unfolding loaded_sheet is_first
  just-line n b = (line_refused sheet n b 12).1 refl

  pub just-report : (b : List ℕ) → (report sheet b).result ≡ refuses 12
  unfolding loaded_sheet is_first
  just-report b = (report-refused sheet b 12).1 refl

  pub just-mark : (n : ℕ) → mark sheet n ≡ refuses 12
  unfolding loaded_sheet is_first
  just-mark n = (mark-refused sheet n 12).1 refl

  pub just-marks : (b : List Float) → (marks sheet b).result ≡ refuses 12
  unfolding loaded_sheet is_first
  just-marks b = (marks-refused sheet b 12).1 refl

  -- with a plan that passes the checks, and its own numbers
  module _ (a : acceptable p ≡ true) (o : own_numbers p m ≡ true) where
    again : Again (text_of p) (plan_of p) (vertex_count p) (length p.uppers)
    unfolding answer_of
    again = read-accepted (text_of p) _ (ap answer_of (sym (read-written p a)))

    holds : holds_plan sheet ≡ true
    unfolding loaded_sheet
    holds = stored-holds again.stored

    pub just-plan : plan_in sheet ≡ p
    unfolding loaded_sheet
    just-plan = let e = sym again.read ∙ read-written p a in cc

    pub just-numbers : remembered_in sheet ≡ m
    unfolding loaded_sheet
    just-numbers = take_at m (drop (length m) (replicate max_vertices 0)) (vertex_count p) (own p m (sound p a).total o).once.long

    holds-numbers : holds_numbers sheet ≡ true
    holds-numbers = rw (just-plan, just-numbers) o

    pub just-draws : (draw sheet).result ≡ gives tt
    unfolding loaded_sheet none_refuses
    just-draws = (draw-given sheet).1 (rw (holds, holds-numbers))

-- ---- by the first way
pub leaves-read : (s : Sheet) (text : List ℕ) (p : PlanData) → reading text ≡ accepted p → load s text ≡ sheet_out (gives tt) (loaded_as_read p)
unfolding load
leaves-read s text p e = rw e

module _ (s : Sheet) (text : List ℕ) (h : (load s text).result ≡ gives tt) where
  leaves-loaded : (load s text).sheet ≡ loaded_as_read ((load_read s text).0 h).0
  leaves-loaded = let r = (load_read s text).0 h in rw (leaves-read s text r.0 r.1)

  pub loaded-draws : (draw (load s text).sheet).result ≡ gives tt
  loaded-draws =
      let r = (load_read s text).0 h in
      let p = r.0 in
      rw leaves-loaded (just-draws _ (numbers 0 (vertex_count p)) p (read-acceptable text p r.1) (own-test p (numbers 0 (vertex_count p)) (own-numbers p)))

  pub loaded-line : (n : ℕ) (b : List ℕ) → (line (load s text).sheet n b).result ≡ refuses 12
  loaded-line n b = rw leaves-loaded (just-line _ _ _ n b)

  pub loaded-report : (b : List ℕ) → (report (load s text).sheet b).result ≡ refuses 12
  loaded-report b = rw leaves-loaded (just-report _ _ _ b)

  pub loaded-mark : (n : ℕ) → mark (load s text).sheet n ≡ refuses 12
  loaded-mark n = rw leaves-loaded (just-mark _ _ _ n)

  pub loaded-marks : (b : List Float) → (marks (load s text).sheet b).result ≡ refuses 12
  loaded-marks b = rw leaves-loaded (just-marks _ _ _ b)

-- ---- by the second way
module _ (s : Sheet) (text : List ℕ) (p : PlanData) (e : tangled_reading text ≡ accepted p) where
  pub leaves-untangled : load_tangled s text ≡ sheet_out (gives tt) (loaded_untangled p)
  unfolding load_tangled
  leaves-untangled = rw e

  pub untangled-draws : (draw (load_tangled s text).sheet).result ≡ gives tt
  untangled-draws = rw leaves-untangled (just-draws true (order p) (untangled p) (untangled-ok text p e) (untangled-own p))

  -- "Drawing, optimum and list are judged on the rearranged plan."
  pub untangled-plan : plan_in (load_tangled s text).sheet ≡ untangled p
  untangled-plan = rw leaves-untangled (just-plan true (order p) (untangled p) (untangled-ok text p e) (untangled-own p))

  pub untangled-numbers : remembered_in (load_tangled s text).sheet ≡ order p
  untangled-numbers = rw leaves-untangled (just-numbers true (order p) (untangled p) (untangled-ok text p e) (untangled-own p))

-- "A plan without crossings gives the same sheet either way, apart from what it remembers of its loading": the way.
pub same-sheet : (s : Sheet) (text : List ℕ) → (load s text).result ≡ gives tt → let l = (load s text).sheet in
    load_tangled s text ≡ sheet_out (gives tt) (record { header = record { stage = l.header.stage; tangled = true }; plan = l.plan; drawing = l.drawing; remembered = l.remembered })
unfolding loaded_sheet
same-sheet s text h =
    let r = (load_read s text).0 h in
    let p = r.0 in
    let a = read-acceptable text p r.1 in
    rw (leaves-untangled s text p (taken-both text p r.1), leaves-loaded s text h, untangled-stays p a, order_is p a)

-- What the first way refuses with 6 the second takes.
pub takes-6 : (s : Sheet) (text : List ℕ) → (load s text).result ≡ refuses 6 → (load_tangled s text).result ≡ gives tt
takes-6 s text h = (tangled-read s text).1 (refused-6 text ((read-refused text 6).1 ((load-refused s text 6).0 h)))

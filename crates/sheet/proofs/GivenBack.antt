-- "Loading by E1 and then asking for all lines gives the input again, for every accepted plan", before and after draw: the sheet holds the
-- rearranged plan and its order, numbered back by it the plan is that of the text, and a plan that was read is written as its text.
use mathlib.Core.Path.{◌≡◌, refl, ◌∙◌, ap}
use mathlib.Core.Bool.{true, false}
use mathlib.Core.List.{List, [], ◌∷◌}
use Prim.Native.Nat.{ℕ, ◌<◌, ◌≤◌}
use borrow.Author.Tests.{lt-ltb, le-ltb, not-false}
use lib.ListN.{length, get_or}
use Rattle.ints.specs.Lists.{over}
use Rattle.ints.specs.Refusals.{none_refuses}
use Rattle.ints.proofs.Refusals.{none-0, none-at}
use Rattle.ints.proofs.Tests.{◌and◌}
use Rattle.plan.specs.Plan.{PlanData}
use Rattle.plan_untangle.specs.Order.{order, untangled}
use Rattle.plan_untangle.proofs.Untangled.{untangled-back}
use Rattle.text.specs.Reading.{accepted, tangled_reading}
use Rattle.text.specs.Writing.{lines_of, text_of}
use Rattle.text.proofs.RoundTrip.{written-tangled, tangled-limits, tangled-through}
use Rattle.sheet.specs.declared.types.Sheet.{Sheet}
use Rattle.sheet.specs.Sheet.{is_empty, plan_in, remembered_in, loaded_sheet, drawn_sheet}
use Rattle.ints.specs.Refusals.{gives}
use Rattle.sheet.specs.Tests.{holds_plan, holds_numbers, text_lines_in, test7_text, test14, plan_as_read, text_line_of, whole_text_of}
use Rattle.sheet.specs.Calls.{TextOut, load_tangled, draw_tests, draw, text_line_tests, text_line, whole_text_tests, whole_text}
use Rattle.sheet.proofs.WhenRefused.{draw-given, can_give_back, backs-given}
use Rattle.sheet.proofs.Loaded.{leaves-untangled, untangled-draws, untangled-plan, untangled-numbers}
use Rattle.sheet.proofs.Drawn.{draw-again, drawn-same}

-- A text in a buffer, with its length.
abbrev pub written : List ℕ → List ℕ → TextOut
written w b = record { result = gives (length w); buffer = over w b }

-- ---- a sheet that can be drawn and was loaded by E1's way gives its text
module _ (t : Sheet) (h : (draw t).result ≡ gives tt) (w : t.header.tangled ≡ true) where
  pub gives_back : can_give_back t ≡ true
  gives_back =
      let at = none-at (draw_tests t) ((draw-given t).0 h) in
      let stands : is_empty t.header.stage ≡ false = at 0 in
      let plan : holds_plan t ≡ true = not-false (holds_plan t) (at 1) in
      let numbers : holds_numbers t ≡ true = not-false (holds_numbers t) (at 2) in
      rw (stands, w, plan, numbers)

  pub gives_line : (n : ℕ) (b : List ℕ) → n < text_lines_in t → length (text_line_of t n) ≤ length b → text_line t n b ≡ written (text_line_of t n) b
  unfolding text_line none_refuses
  gives_line n b l m =
      let more = test7_text t n ∷ test14 (text_line_of t n) b ∷ [] in
      let passed : none_refuses (text_line_tests t n b) ≡ true = backs-given t more ∙ (gives_back and rw (lt-ltb n (text_lines_in t) l, le-ltb (length b) (length (text_line_of t n)) m)) in
      rw (none-0 (text_line_tests t n b) refl, passed)

  pub gives_whole : (b : List ℕ) → length (whole_text_of t) ≤ length b → whole_text t b ≡ written (whole_text_of t) b
  unfolding whole_text none_refuses
  gives_whole b m =
      let passed : none_refuses (whole_text_tests t b) ≡ true = backs-given t (test14 (whole_text_of t) b ∷ []) ∙ (gives_back and rw (le-ltb (length b) (length (whole_text_of t)) m)) in
      rw (none-0 (whole_text_tests t b) refl, passed)

-- ---- after an accepted load by E1's way
module _ (text : List ℕ) (p : PlanData) (e : tangled_reading text ≡ accepted p) where
  -- a sheet that holds what such a load left
  pub record LeftBy (t : Sheet) : Type 0 where
    pub draws : (draw t).result ≡ gives tt
    pub way : t.header.tangled ≡ true
    pub plan : plan_in t ≡ untangled p
    pub numbers : remembered_in t ≡ order p

  module _ {t : Sheet} (l : LeftBy t) where
    as_read : plan_as_read t ≡ p
    unfolding plan_as_read
    as_read = let c = tangled-through text p e in rw (l.plan, l.numbers) (untangled-back p (tangled-limits text p e) c.three c.four c.five)

    -- all lines are the input
    pub text-again : whole_text_of t ≡ text
    unfolding whole_text_of
    text-again = ap text_of as_read ∙ written-tangled text p e

    pub whole_again : (b : List ℕ) → length text ≤ length b → whole_text t b ≡ written text b
    whole_again b m = gives_whole t l.draws l.way b (rw text-again m) ∙ ap (λ (w : List ℕ). written w b) text-again

    -- and one by one they are its lines
    line-again : (n : ℕ) → text_line_of t n ≡ get_or (lines_of p) n []
    unfolding text_line_of
    line-again n = ap (λ (q : PlanData). get_or (lines_of q) n []) as_read

    pub each_again : (n : ℕ) (b : List ℕ) → n < text_lines_in t → length (get_or (lines_of p) n []) ≤ length b → text_line t n b ≡ written (get_or (lines_of p) n []) b
    each_again n b k m = gives_line t l.draws l.way n b k (rw (line-again n) m) ∙ ap (λ (w : List ℕ). written w b) (line-again n)

  module _ (s : Sheet) where
    pub just-loaded : LeftBy (load_tangled s text).sheet
    unfolding loaded_sheet
    just-loaded = record {
      draws = untangled-draws s text p e;
      way = rw (leaves-untangled s text p e);
      plan = untangled-plan s text p e;
      numbers = untangled-numbers s text p e;
    }

    pub and-drawn : LeftBy (draw (load_tangled s text).sheet).sheet
    unfolding drawn_sheet
    and-drawn =
        let l = (load_tangled s text).sheet in
        let d = untangled-draws s text p e in
        let same = drawn-same l d in
        record {
          draws = ap (λ o. o.result) (draw-again l) ∙ d;
          way = rw same just-loaded.way;
          plan = rw same just-loaded.plan;
          numbers = rw same just-loaded.numbers;
        }

    -- "drawn or not"
    pub given_back : (b : List ℕ) → length text ≤ length b → whole_text (load_tangled s text).sheet b ≡ written text b
    given_back b = whole_again just-loaded b

    pub given-back-drawn : (b : List ℕ) → length text ≤ length b → whole_text (draw (load_tangled s text).sheet).sheet b ≡ written text b
    given-back-drawn b = whole_again and-drawn b

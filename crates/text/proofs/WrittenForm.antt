-- The whole form in both directions: the text written of some lines is read as these lines, and lines that were read are
-- written again as the text, byte for byte.
use mathlib.Core.Path.{◌≡◌, refl, sym, ◌∙◌, ap}
use mathlib.Core.Bool.{Bool, true, false}
use mathlib.Core.List.{List, [], ◌∷◌, ◌++◌, map, append_assoc, append-nil}
use mathlib.Core.Option.{Option, none, some}
use Prim.Native.Nat.{ℕ, ◌≤◌, ◌<◌}
use native.Mathlib.Omega.{arith}
use borrow.Author.Tests.{le-leb}
use lib.ListN.{length, length-append}
use Rattle.ints.specs.Lists.{concat}
use Rattle.plan.specs.Checks.{every}
use Rattle.text.specs.Bytes.{bytes}
use Rattle.text.specs.Decimal.{decimal}
use Rattle.text.specs.Parser.{Got, got, nothing, word, many, number}
use Rattle.text.specs.Form.{Vertex, SegmentLine, Lines, via, level_line, segment_line, plan_text, whole, form_of}
use Rattle.text.specs.Writing.{last_line}
use Rattle.text.proofs.Words.{never, word-is}
use Rattle.ints.proofs.Tests.{◌and◌}
use Rattle.text.proofs.TestLaws.{every_one, every-cons}
use Rattle.text.proofs.ParserLaws.{then-both, then-got, then-word, before, parts-7, many-reads, many-writes}
use Rattle.text.proofs.DecimalLaws.{fits, then-number, number-written}
use Rattle.text.proofs.WrittenLines.{vertex_text, row_text, row_ok, row_fits, segment_text, segment_ok, level-reads, level-writes, segment_reads, segment-writes}

-- ---- what is written of lines
unfoldable pub head_text : ℕ → ℕ → ℕ → List ℕ
head_text k g s = bytes "(plan " ++ decimal k ++ bytes " " ++ decimal g ++ bytes " " ++ decimal s ++ bytes ")\n"

unfoldable pub form_text : Lines → List ℕ
form_text l = head_text l.levels l.gap l.spacing ++ (concat (map row_text l.rows) ++ (concat (map segment_text l.segments) ++ last_line))

-- Lines that can be read.
pub record LinesOk (l : Lines) : Type 0 where
  pub levels : fits l.levels ≡ true
  pub gap : fits l.gap ≡ true
  pub spacing : fits l.spacing ≡ true
  pub rows : every row_ok l.rows ≡ true
  pub segments : every segment_ok l.segments ≡ true

-- ---- n turns are enough: each member of a list takes a byte at least
turns : {A : Type 0} (w : A → List ℕ) → ((a : A) → 0 < length (w a)) → (xs : List A) → length xs ≤ length (concat (map w xs))
unfolding concat
turns w h [] = omega arith
turns w h (x ∷ xs) = simp length-append (omega (arith, h x, turns w h xs))

vertex-long : (v : Vertex) → 0 < length (vertex_text v)
unfolding vertex_text
vertex-long v = go v.via v.half
  where
    go : (b : Bool) (h : ℕ) → 0 < length (vertex_text (record { via = b; half = h }))
    go true h = omega arith
    go false h = omega arith

row-long : (vs : List Vertex) → length vs < length (row_text vs)
unfolding row_text
row-long vs = simp length-append (omega (arith, turns vertex_text vertex-long vs))

segment-long : (s : SegmentLine) → 0 < length (segment_text s)
unfolding segment_text
segment-long s = omega arith

rows_fit : (n : ℕ) (rows : List (List Vertex)) → length (concat (map row_text rows)) ≤ n → every row_ok rows ≡ true → every (row_fits n) rows ≡ true
unfolding concat every
rows_fit n [] l e = refl
rows_fit n (vs ∷ rows) l e =
    let k = every_one row_ok vs rows e in
    let m = simp length-append at l in
    let few = le-leb (length vs) n (omega (arith, row-long vs)) in
    every-cons (row_fits n) vs rows (k.0 and few) (rows_fit n rows (omega arith) k.1)

-- ---- what is written is read
level-stops : (n : ℕ) (ss : List SegmentLine) → level_line n (concat (map segment_text ss) ++ last_line) ≡ nothing
unfolding level_line segment_text word concat
level-stops n [] = refl
level-stops n (s ∷ ss) = refl

segment-stops : segment_line last_line ≡ nothing
unfolding segment_line word
segment-stops = refl

module _ (l : Lines) (ok : LinesOk l) where
  plan-reads : (n : ℕ) → length (form_text l) ≤ n → plan_text n (form_text l) ≡ got l []
  unfolding plan_text form_text head_text
  plan-reads n h =
      let k = decimal l.levels in
      let g = decimal l.gap in
      let s = decimal l.spacing in
      let rows = concat (map row_text l.rows) in
      let segments = concat (map segment_text l.segments) in
      let m = simp length-append at h in
      let few-rows : length l.rows ≤ n = omega (arith, turns row_text (λ vs. omega (arith, row-long vs)) l.rows) in
      let few_segments : length l.segments ≤ n = omega (arith, turns segment_text segment-long l.segments) in
      let rows_ok = rows_fit n l.rows (omega arith) ok.rows in
      let read-rows = many-reads (level_line n) row_text (row_fits n) (level-reads n) n l.rows (segments ++ last_line) few-rows rows_ok (level-stops n l.segments) in
      let read-segments = many-reads segment_line segment_text segment_ok segment_reads n l.segments last_line few_segments ok.segments segment-stops in
      let t₄ = bytes ")\n" ++ (rows ++ (segments ++ last_line)) in
      let t₃ = bytes " " ++ (s ++ t₄) in
      let t₂ = bytes " " ++ (g ++ t₃) in
      ap (plan_text n) (parts-7 (bytes "(plan ") k (bytes " ") g (bytes " ") s (bytes ")\n") (rows ++ (segments ++ last_line)))
      ∙ then-word (bytes "(plan ") (k ++ t₂) _
      ∙ then-number l.levels t₂ _ ok.levels refl
      ∙ then-word (bytes " ") (g ++ t₃) _
      ∙ then-number l.gap t₃ _ ok.gap refl
      ∙ then-word (bytes " ") (s ++ t₄) _
      ∙ then-number l.spacing t₄ _ ok.spacing refl
      ∙ then-word (bytes ")\n") (rows ++ (segments ++ last_line)) _
      ∙ then-got _ read-rows
      ∙ then-got _ read-segments
      ∙ then-word last_line [] _

  pub form-reads : form_of (form_text l) ≡ some l
  unfolding form_of
  form-reads = ap whole (plan-reads (length (form_text l)) (omega arith))

-- ---- what is read is what was written
plan-parts : (a b c d e f g r q z t : List ℕ) → a ++ b ++ c ++ d ++ e ++ f ++ g ++ (r ++ (q ++ z)) ++ t ≡ a ++ (b ++ (c ++ (d ++ (e ++ (f ++ (g ++ (r ++ (q ++ (z ++ t)))))))))
plan-parts a b c d e f g r q z t = simp append_assoc

plan-writes : (n : ℕ) (l : Lines) (s t : List ℕ) → plan_text n s ≡ got l t → (s ≡ form_text l ++ t) × LinesOk l
unfolding plan_text form_text head_text
plan-writes n l s t e =
    then-both (word (bytes "(plan ") s) _ e (λ _ u p q. then-both (number u) _ q (λ k u₁ p₁ q₁. then-both (word (bytes " ") u₁) _ q₁ (λ _ u₂ p₂ q₂.
    then-both (number u₂) _ q₂ (λ g u₃ p₃ q₃. then-both (word (bytes " ") u₃) _ q₃ (λ _ u₄ p₄ q₄. then-both (number u₄) _ q₄ (λ d u₅ p₅ q₅.
    then-both (word (bytes ")\n") u₅) _ q₅ (λ _ u₆ p₆ q₆. then-both (many n (level_line n) u₆) _ q₆ (λ ls u₇ p₇ q₇. then-both (many n segment_line u₇) _ q₇ (λ ss u₈ p₈ q₈.
    then-both (word last_line u₈) _ q₈ (λ _ u₉ p₉ q₉.
    let a = number-written k u u₁ p₁ in
    let b = number-written g u₂ u₃ p₃ in
    let c = number-written d u₄ u₅ p₅ in
    let rs = many-writes (level_line n) row_text row_ok (level-writes n) n ls u₆ u₇ p₇ in
    let gs = many-writes segment_line segment_text segment_ok segment-writes n ss u₇ u₈ p₈ in
    let is : record { levels = k; gap = g; spacing = d; rows = ls; segments = ss } ≡ l = cc in
    let end : u₉ ≡ t = cc in
    rw (← is, ← end) (
      before (bytes "(plan ") (word-is (bytes "(plan ") s u p) (before (decimal k) a.text (before (bytes " ") (word-is (bytes " ") u₁ u₂ p₂)
          (before (decimal g) b.text (before (bytes " ") (word-is (bytes " ") u₃ u₄ p₄) (before (decimal d) c.text
          (before (bytes ")\n") (word-is (bytes ")\n") u₅ u₆ p₆) (before (concat (map row_text ls)) rs.0 (before (concat (map segment_text ss)) gs.0
          (word-is last_line u₈ u₉ p₉)))))))))
          ∙ sym (plan-parts (bytes "(plan ") (decimal k) (bytes " ") (decimal g) (bytes " ") (decimal d) (bytes ")\n") (concat (map row_text ls)) (concat (map segment_text ss)) last_line u₉),
      record { levels = a.below; gap = b.below; spacing = c.below; rows = rs.1; segments = gs.1 },
    )))))))))))

whole-writes : (n : ℕ) (s : List ℕ) (l : Lines) → whole (plan_text n s) ≡ some l → (s ≡ form_text l) × LinesOk l
whole-writes n s l e = go (plan_text n s) refl e
  where
    go : (g : Got Lines) → plan_text n s ≡ g → whole g ≡ some l → (s ≡ form_text l) × LinesOk l
    go (got m []) p q = let is : m ≡ l = cc in let w = plan-writes n l s [] (rw is at p) in (w.0 ∙ append-nil (form_text l), w.1)
    go (got m (b ∷ t)) p q = never (cc)
    go nothing p q = never (cc)

pub form-writes : (s : List ℕ) (l : Lines) → form_of s ≡ some l → (s ≡ form_text l) × LinesOk l
unfolding form_of
form-writes s l e = whole-writes (length s) s l e

-- ---- no text has more of anything than bytes: a greater number than its length reads it alike
pub form-enough : (n : ℕ) (s : List ℕ) → length s ≤ n → whole (plan_text n s) ≡ form_of s
unfolding form_of
form-enough n s h = go (whole (plan_text n s)) (whole (plan_text (length s) s)) refl refl
  where
    same : (m : ℕ) (l : Lines) → length s ≤ m → (s ≡ form_text l) × LinesOk l → whole (plan_text m s) ≡ some l
    same m l k w = ap (λ t. whole (plan_text m t)) w.0 ∙ ap whole (plan-reads l w.1 m (omega (arith, ap length w.0)))

    go : (x y : Option Lines) → whole (plan_text n s) ≡ x → whole (plan_text (length s) s) ≡ y → x ≡ y
    go none none p q = refl
    go x (some l) p q = sym p ∙ same n l h (whole-writes (length s) s l q)
    go (some l) none p q = sym (same (length s) l (omega arith) (whole-writes n s l p)) ∙ q

-- The rules of the form for a vertex, a level line, a rating and a segment line, in both directions. What is written of one of these
-- is read as it, and what its rule finds is written again as the bytes that it took.
use mathlib.Core.Path.{◌≡◌, refl, sym, ◌∙◌, ap}
use mathlib.Core.Bool.{Bool, true, false, cond, ◌&&◌}
use mathlib.Core.List.{List, [], ◌∷◌, ◌++◌, map, append_assoc}
use mathlib.Core.Option.{Option, none, some}
use Prim.Native.Nat.{ℕ}
use native.Mathlib.Omega.{arith}
use borrow.Author.Tests.{lt-ltb, leb-true, eqb-true}
use lib.Dec.{ltb, leb, eqb}
use lib.ListN.{length}
use Rattle.ints.specs.Lists.{concat}
use Rattle.plan.specs.Checks.{every}
use Rattle.ints.proofs.Tests.{and_left, and_right, conj-at, ◌and◌}
use Rattle.text.specs.Bytes.{bytes}
use Rattle.text.specs.Decimal.{decimal}
use Rattle.text.specs.Parser.{Got, got, nothing, Rule, give, or_else, either, word, many, number}
use Rattle.text.specs.Form.{Vertex, SegmentLine, box, via, level_line, rating, segment_line}
use Rattle.text.proofs.Words.{never, word-is}
use Rattle.text.proofs.TestLaws.{every_one, every-cons}
use Rattle.text.proofs.ParserLaws.{then-both, then-got, then-word, before, parts-3, parts-6, Reads, Writes, many-reads, many-writes}
use Rattle.text.proofs.DecimalLaws.{fits, no_digit, then-number, number-written}

-- ---- a vertex
unfoldable pub vertex_text : Vertex → List ℕ
vertex_text v =
    let box = bytes " (box " ++ decimal v.half ++ bytes ")" in
    cond v.via (bytes " (via)") box

-- A vertex that can be read: a via has half-width 0.
abbrev pub vertex_ok : Vertex → Bool
vertex_ok v = cond v.via (eqb v.half 0) (fits v.half)

abbrev pub vertex : Rule Vertex
vertex = either box via

box-reads : (h : ℕ) (t : List ℕ) → fits h ≡ true → box (bytes " (box " ++ decimal h ++ bytes ")" ++ t) ≡ got (record { via = false; half = h }) t
unfolding box
box-reads h t l = ap box (parts-3 (bytes " (box ") (decimal h) (bytes ")") t)
    ∙ then-word (bytes " (box ") (decimal h ++ (bytes ")" ++ t)) _ ∙ then-number h (bytes ")" ++ t) _ l refl ∙ then-word (bytes ")") t _

via-reads : (t : List ℕ) → vertex (bytes " (via)" ++ t) ≡ got (record { via = true; half = 0 }) t
unfolding box via word
via-reads t = refl

pub vertex-reads : Reads vertex vertex_text vertex_ok
unfolding vertex_text
vertex-reads v t ok = go v.via v.half ok
  where
    go : (b : Bool) (h : ℕ) → vertex_ok (record { via = b; half = h }) ≡ true → vertex (vertex_text (record { via = b; half = h }) ++ t) ≡ got (record { via = b; half = h }) t
    go true h e = rw (eqb-true h 0 e) (via-reads t)
    go false h e = rw (box-reads h t e)

either-found : {A X : Type 0} (g h : Got A) {a : A} {t : List ℕ} → or_else g h ≡ got a t → (g ≡ got a t → X) → (h ≡ got a t → X) → X
either-found (got a s) h e f k = f e
either-found nothing h e f k = k e

box-writes : (v : Vertex) (s t : List ℕ) → box s ≡ got v t → (s ≡ vertex_text v ++ t) × (vertex_ok v ≡ true)
unfolding vertex_text box
box-writes v s t e =
    then-both (word (bytes " (box ") s) _ e (λ _ u p q. then-both (number u) _ q (λ h x p₁ q₁. then-both (word (bytes ")") x) _ q₁ (λ _ y p₂ q₂.
    let n = number-written h u x p₁ in
    let is : record { via = false; half = h } ≡ v = cc in
    let end : y ≡ t = cc in
    rw (← is, ← end) (
      before (bytes " (box ") (word-is (bytes " (box ") s u p) (before (decimal h) n.text (word-is (bytes ")") x y p₂)) ∙ sym (parts-3 (bytes " (box ") (decimal h) (bytes ")") y),
      n.below,
    ))))

via-writes : (v : Vertex) (s t : List ℕ) → via s ≡ got v t → (s ≡ vertex_text v ++ t) × (vertex_ok v ≡ true)
unfolding vertex_text via
via-writes v s t e =
    then-both (word (bytes " (via)") s) _ e (λ _ u p q.
    let is : record { via = true; half = 0 } ≡ v = cc in
    let end : u ≡ t = cc in
    rw (← is, ← end) (word-is (bytes " (via)") s u p, refl))

pub vertex-writes : Writes vertex vertex_text vertex_ok
vertex-writes v s t e = either-found (box s) (via s) e (box-writes v s t) (via-writes v s t)

-- ---- a level line
unfoldable pub row_text : List Vertex → List ℕ
row_text vs = bytes "(level" ++ concat (map vertex_text vs) ++ bytes ")\n"

-- "at least one" vertex
abbrev pub row_ok : List Vertex → Bool
row_ok vs = ltb 0 (length vs) && every vertex_ok vs

row-parts : (a b c d t : List ℕ) → a ++ (b ++ c) ++ d ++ t ≡ a ++ (b ++ (c ++ (d ++ t)))
row-parts a b c d t = simp append_assoc

row-stops : (t : List ℕ) → vertex (bytes ")\n" ++ t) ≡ nothing
unfolding box via word
row-stops t = refl

module _ (n : ℕ) where
  -- n turns are enough
  abbrev pub row_fits : List Vertex → Bool
  row_fits vs = row_ok vs && leb (length vs) n

  pub level-reads : Reads (level_line n) row_text row_fits
  unfolding level_line row_text concat
  level-reads [] t ok = never ok
  level-reads (v ∷ vs) t ok =
      let all = and_right (ltb 0 (length (v ∷ vs))) (every vertex_ok (v ∷ vs)) (and_left (row_ok (v ∷ vs)) (leb (length (v ∷ vs)) n) ok) in
      let few = leb-true (length (v ∷ vs)) n (and_right (row_ok (v ∷ vs)) (leb (length (v ∷ vs)) n) ok) in
      let k = every_one vertex_ok v vs all in
      let more = concat (map vertex_text vs) in
      ap (level_line n) (row-parts (bytes "(level") (vertex_text v) more (bytes ")\n") t)
      ∙ then-word (bytes "(level") (vertex_text v ++ (more ++ (bytes ")\n" ++ t))) _
      ∙ then-got _ (vertex-reads v (more ++ (bytes ")\n" ++ t)) k.0)
      ∙ then-got _ (many-reads vertex vertex_text vertex_ok vertex-reads n vs (bytes ")\n" ++ t) (omega arith) k.1 (row-stops t))
      ∙ then-word (bytes ")\n") t _

  pub level-writes : Writes (level_line n) row_text row_ok
  unfolding level_line row_text concat
  level-writes r s t e =
      then-both (word (bytes "(level") s) _ e (λ _ u p q. then-both (vertex u) _ q (λ v u₁ p₁ q₁. then-both (many n vertex u₁) _ q₁ (λ vs u₂ p₂ q₂.
      then-both (word (bytes ")\n") u₂) _ q₂ (λ _ u₃ p₃ q₃.
      let one = vertex-writes v u u₁ p₁ in
      let more = many-writes vertex vertex_text vertex_ok vertex-writes n vs u₁ u₂ p₂ in
      let is : v ∷ vs ≡ r = cc in
      let end : u₃ ≡ t = cc in
      rw (← is, ← end) (
        before (bytes "(level") (word-is (bytes "(level") s u p) (before (vertex_text v) one.0 (before (concat (map vertex_text vs)) more.0 (word-is (bytes ")\n") u₂ u₃ p₃)))
            ∙ sym (row-parts (bytes "(level") (vertex_text v) (concat (map vertex_text vs)) (bytes ")\n") u₃),
        lt-ltb 0 (length (v ∷ vs)) (omega arith) and every-cons vertex_ok v vs one.1 more.1,
      )))))

-- ---- a rating, where it is written
abbrev pub rating_text : Option ℕ → List ℕ
rating_text none = []
rating_text (some w) = bytes " " ++ decimal w

abbrev pub rating_ok : Option ℕ → Bool
rating_ok none = true
rating_ok (some w) = fits w

rating-reads : (w : ℕ) (t : List ℕ) → fits w ≡ true → no_digit t ≡ true → rating (bytes " " ++ decimal w ++ t) ≡ got (some w) t
unfolding rating
rating-reads w t ok e = ap rating (append_assoc (bytes " ") (decimal w) t) ∙ then-word (bytes " ") (decimal w ++ t) _ ∙ then-number w t _ ok e

-- before the end of its line
ratings-read : (o : Option ℕ) (t : List ℕ) → rating_ok o ≡ true → either rating (give none) (rating_text o ++ (bytes ")\n" ++ t)) ≡ got o (bytes ")\n" ++ t)
unfolding rating word
ratings-read none t ok = refl
ratings-read (some w) t ok = rw (rating-reads w (bytes ")\n" ++ t) ok refl)

rating-writes : (o : Option ℕ) (s t : List ℕ) → rating s ≡ got o t → (s ≡ rating_text o ++ t) × (rating_ok o ≡ true)
unfolding rating
rating-writes o s t e =
    then-both (word (bytes " ") s) _ e (λ _ u p q. then-both (number u) _ q (λ w x p₁ q₁.
    let n = number-written w u x p₁ in
    let is : some w ≡ o = cc in
    let end : x ≡ t = cc in
    rw (← is, ← end) (before (bytes " ") (word-is (bytes " ") s u p) n.text ∙ sym (append_assoc (bytes " ") (decimal w) x), n.below)))

ratings-write : (o : Option ℕ) (s t : List ℕ) → either rating (give none) s ≡ got o t → (s ≡ rating_text o ++ t) × (rating_ok o ≡ true)
ratings-write o s t e = either-found (rating s) (got none s) e (rating-writes o s t)
    (λ f.
    let is : none ≡ o = cc in
    let end : s ≡ t = cc in
    rw (← is, ← end) (refl, refl))

-- ---- a segment line
unfoldable pub segment_text : SegmentLine → List ℕ
segment_text s =
    bytes "(seg " ++ decimal s.segment.upper ++ bytes " " ++ decimal s.segment.lower ++ rating_text s.rating ++ bytes ")\n"

abbrev pub segment_ok : SegmentLine → Bool
segment_ok s = fits s.segment.upper && fits s.segment.lower && rating_ok s.rating

pub segment_reads : Reads segment_line segment_text segment_ok
unfolding segment_line segment_text
segment_reads s t ok =
    let a = decimal s.segment.upper in
    let b = decimal s.segment.lower in
    let w = rating_text s.rating in
    let test = conj-at (fits s.segment.upper) (fits s.segment.lower ∷ rating_ok s.rating ∷ []) ok in
    let t₂ = w ++ (bytes ")\n" ++ t) in
    let t₁ = bytes " " ++ (b ++ t₂) in
    ap segment_line (parts-6 (bytes "(seg ") a (bytes " ") b w (bytes ")\n") t)
    ∙ then-word (bytes "(seg ") (a ++ t₁) _
    ∙ then-number s.segment.upper t₁ _ (test 0) refl
    ∙ then-word (bytes " ") (b ++ t₂) _
    ∙ then-number s.segment.lower t₂ _ (test 1) (no_digit_lem s.rating)
    ∙ then-got _ (ratings-read s.rating t (test 2))
    ∙ then-word (bytes ")\n") t _
  where
    no_digit_lem : (o : Option ℕ) → no_digit (rating_text o ++ (bytes ")\n" ++ t)) ≡ true
    no_digit_lem none = refl
    no_digit_lem (some w) = refl

pub segment-writes : Writes segment_line segment_text segment_ok
unfolding segment_line segment_text
segment-writes g s t e =
    then-both (word (bytes "(seg ") s) _ e (λ _ u p q. then-both (number u) _ q (λ a u₁ p₁ q₁. then-both (word (bytes " ") u₁) _ q₁ (λ _ u₂ p₂ q₂.
    then-both (number u₂) _ q₂ (λ b u₃ p₃ q₃. then-both (either rating (give none) u₃) _ q₃ (λ w u₄ p₄ q₄. then-both (word (bytes ")\n") u₄) _ q₄ (λ _ u₅ p₅ q₅.
    let m = number-written a u u₁ p₁ in
    let n = number-written b u₂ u₃ p₃ in
    let r = ratings-write w u₃ u₄ p₄ in
    let is : record { segment = record { upper = a; lower = b }; rating = w } ≡ g = cc in
    let end : u₅ ≡ t = cc in
    rw (← is, ← end) (
      before (bytes "(seg ") (word-is (bytes "(seg ") s u p) (before (decimal a) m.text (before (bytes " ") (word-is (bytes " ") u₁ u₂ p₂)
          (before (decimal b) n.text (before (rating_text w) r.0 (word-is (bytes ")\n") u₄ u₅ p₅)))))
          ∙ sym (parts-6 (bytes "(seg ") (decimal a) (bytes " ") (decimal b) (rating_text w) (bytes ")\n") u₅),
      m.below and n.below and r.1,
    )))))))

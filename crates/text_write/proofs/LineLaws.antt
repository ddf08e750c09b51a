-- The lines of a plan's text by number, and the vertices of a level one after another.
use mathlib.Core.Path.{◌≡◌, refl, sym, ◌∙◌, ap}
use mathlib.Core.Bool.{Bool, true, false}
use mathlib.Core.List.{List, [], ◌∷◌, ◌++◌, map, append_assoc, map-append}
use Prim.Native.Nat.{ℕ, zero, suc, ◌+◌, ◌-◌, ◌≤◌, ◌<◌}
use native.Mathlib.Omega.{arith}
use native.Mathlib.Numerals.{add-one}
use lib.ListN.{length, get_or, take, drop, length-append, length-map, get_or-append, take-append-drop}
use lib.Seq.{get_or-append-add, take-suc, take_all}
use Rattle.ints.specs.Lists.{sum, concat}
use Rattle.ints.proofs.Lists.{map-get_or, concat-append, concat-one}
use Rattle.plan.specs.Plan.{PlanData, numbers, levels_from, levels_of}
use Rattle.plan.specs.Segments.{segments_from, segments_of, rated_from, rated_of}
use Rattle.plan.specs.inner.Graph.{segment}
use Rattle.plan.specs.Acceptable.{limits_hold}
use Rattle.plan.proofs.LevelLaws.{numbers-append}
use Rattle.plan.proofs.RatedLaws.{rated, rated-at, rated-count}
use Rattle.plan.proofs.SegmentLaws.{segment-at, segments-count}
use Rattle.text.specs.Writing.{plan_line, vertex_words, level_line_of, segment_line_of, last_line, lines_of, text_of}
use Rattle.text_write.specs.inner.Written.{Room, Wrote, Fronts}
use Rattle.text_write.specs.inner.Data.{vertices_of, numbers_of, row_words, words_of, rated_segment, line_of, level_vertices, LineRoom}
use Rattle.text_write.proofs.Written.{and_then, wrote_none, wrote-long, front_of}

-- ---- lists of lists
pub concat-more : (ls : List (List ℕ)) (n : ℕ) → n < length ls → concat (take (n + 1) ls) ≡ concat (take n ls) ++ get_or ls n []
concat-more ls n h = rw (add-one, take-suc ls n [] h, concat-append) (ap (λ (l : List ℕ). concat (take n ls) ++ l) (concat-one (get_or ls n [])))

pub concat-part : (ls : List (List ℕ)) (n : ℕ) → length (concat (take n ls)) ≤ length (concat ls)
concat-part ls n =
    let e : concat ls ≡ concat (take n ls) ++ concat (drop n ls) = ap concat (sym (take-append-drop n ls)) ∙ concat-append (take n ls) (drop n ls) in
    omega (arith, ap length e ∙ length-append (concat (take n ls)) (concat (drop n ls)))

-- ---- the vertices of a level
numbers-one : (v : ℕ) → numbers v 1 ≡ v ∷ []
unfolding numbers
numbers-one v = refl

module _ (p : PlanData) where
  pub row-none : (v : ℕ) → row_words p (numbers v 0) ≡ []
  unfolding numbers concat
  row-none v = refl

  row-append : (a b : List ℕ) → row_words p (a ++ b) ≡ row_words p a ++ row_words p b
  row-append a b = rw (map-append (vertex_words p) a b) (concat-append (map (vertex_words p) a) (map (vertex_words p) b))

  pub row_more : (v n : ℕ) → row_words p (numbers v (n + 1)) ≡ row_words p (numbers v n) ++ vertex_words p (v + n)
  row_more v n = rw (numbers-append v n 1, numbers-one, row-append) (ap (λ (l : List ℕ). row_words p (numbers v n) ++ l) (concat-one (vertex_words p (v + n))))

  pub row-part : (v n m : ℕ) → n ≤ m → length (row_words p (numbers v n)) ≤ length (row_words p (numbers v m))
  row-part v n m h =
      let e : n + (m - n) ≡ m = omega arith in
      let f : row_words p (numbers v m) ≡ row_words p (numbers v n) ++ row_words p (numbers (v + n) (m - n)) =
      ap (λ (k : ℕ). row_words p (numbers v k)) (sym e) ∙ ap (row_words p) (numbers-append v n (m - n)) ∙ row-append (numbers v n) (numbers (v + n) (m - n)) in
      omega (arith, ap length f ∙ length-append (row_words p (numbers v n)) (row_words p (numbers (v + n) (m - n))))

pub words-of : (vias : List Bool) (halves : List ℕ) (v : ℕ) → words_of (get_or vias v false) (get_or halves v 0) ≡ vertex_words (vertices_of vias halves) v
unfolding vertex_words
words-of vias halves v = refl

-- one vertex more
module _ (vias : List Bool) (halves : List ℕ) (first i : ℕ) where
  pub vertex-more : {o q r : List ℕ} {from at to : ℕ} → Wrote (row_words (vertices_of vias halves) (numbers first i)) o from at q
      → Wrote (words_of (get_or vias (first + i) false) (get_or halves (first + i) 0)) q at to r
      → Wrote (row_words (vertices_of vias halves) (numbers first (i + 1))) o from to r
  vertex-more h k = rw (row_more (vertices_of vias halves) first i, ← words-of vias halves (first + i)) (and_then h k)

  pub vertex-room : {o q : List ℕ} {from at : ℕ} (count : ℕ) → i < count → Room (row_words (vertices_of vias halves) (numbers first count)) o from
      → Wrote (row_words (vertices_of vias halves) (numbers first i)) o from at q → Room (words_of (get_or vias (first + i) false) (get_or halves (first + i) 0)) q at
  vertex-room {o} {q} {from} {at} count l r h =
      let p = vertices_of vias halves in
      let part = row-part p first (i + 1) count (omega arith) in
      let more = ap length (row_more p first i) ∙ length-append (row_words p (numbers first i)) (vertex_words p (first + i)) in
      rw (words-of vias halves (first + i)) (omega (arith, wrote-long h, h.next))

-- ---- lines by number
level-at : (v : ℕ) (ns : List ℕ) (l : ℕ) → l < length ns → get_or (levels_from v ns) l [] ≡ numbers (v + sum (take l ns)) (get_or ns l 0)
unfolding levels_from sum
level-at v [] l h = absurd (omega arith)
level-at v (n ∷ ns) zero h = let e : v + 0 ≡ v = omega arith in rw e
level-at v (n ∷ ns) (suc l) h =
    let e : v + (n + sum (take l ns)) ≡ v + n + sum (take l ns) = omega arith in
    rw e (level-at (v + n) ns l (omega arith))

levels-count : (v : ℕ) (ns : List ℕ) → length (levels_from v ns) ≡ length ns
unfolding levels_from
levels-count v [] = refl
levels-count v (n ∷ ns) = ap suc (levels-count (v + n) ns)

module _ (p : PlanData) where
  abbrev level_lines : List (List ℕ)
  level_lines = map (level_line_of p) (levels_from 0 p.sizes)

  abbrev segment_lines : List (List ℕ)
  segment_lines = map segment_line_of (rated_from (segments_from p.uppers p.lowers) p.ratings)

  level-lines : length level_lines ≡ length p.sizes
  level-lines = length-map (levels_from 0 p.sizes) (level_line_of p) ∙ levels-count 0 p.sizes

  -- as many lower ends and ratings as upper ends
  abbrev pub Even : Type 0
  Even = (length p.lowers ≡ length p.uppers) × (length p.ratings ≡ length p.uppers)

  rated-all : Even → length p.ratings ≡ length (segments_from p.uppers p.lowers)
  rated-all e = e.1 ∙ sym (segments-count p.uppers p.lowers e.0)

  segment-lines : Even → length segment_lines ≡ length p.uppers
  segment-lines e =
      let ss = segments_from p.uppers p.lowers in
      length-map (rated_from ss p.ratings) segment_line_of ∙ rated-count ss p.ratings (rated-all e) ∙ segments-count p.uppers p.lowers e.0

  lines_from : lines_of p ≡ plan_line p ∷ (level_lines ++ (segment_lines ++ last_line ∷ []))
  unfolding lines_of levels_of segments_of rated_of
  lines_from = ap (λ (l : List (List ℕ)). plan_line p ∷ l) (append_assoc level_lines segment_lines (last_line ∷ []))

  pub line-plan : line_of p 0 ≡ plan_line p
  unfolding lines_of
  line-plan = refl

  pub line-level : (n : ℕ) → 0 < n → n ≤ length p.sizes → line_of p n ≡ level_line_of p (level_vertices p.sizes (n - 1))
  line-level zero l h = absurd (omega arith)
  line-level (suc n) l h =
      let e : suc n - 1 ≡ n = omega arith in
      let f : 0 + sum (take n p.sizes) ≡ sum (take n p.sizes) = omega arith in
      let g : n < length level_lines = omega (arith, level-lines) in
      rw e (ap (λ (ls : List (List ℕ)). get_or ls (suc n) []) lines_from ∙ get_or-append level_lines (segment_lines ++ last_line ∷ []) [] n g
      ∙ map-get_or (level_line_of p) (levels_from 0 p.sizes) n [] [] (omega (arith, levels-count 0 p.sizes))
      ∙ ap (level_line_of p) (level-at 0 p.sizes n (omega arith) ∙ ap (λ (k : ℕ). numbers k (get_or p.sizes n 0)) f))

  after-levels : (i : ℕ) → line_of p (suc (length p.sizes + i)) ≡ get_or (segment_lines ++ last_line ∷ []) i []
  after-levels i = rw (← level-lines) (ap (λ (ls : List (List ℕ)). get_or ls (suc (length level_lines + i)) []) lines_from ∙ get_or-append-add level_lines (segment_lines ++ last_line ∷ []) i [])

  pub line-segment : (n : ℕ) → length p.sizes < n → Even → n - 1 - length p.sizes < length p.uppers → let i = n - 1 - length p.sizes in
      line_of p n ≡ segment_line_of (rated_segment (get_or p.uppers i 0) (get_or p.lowers i 0) (get_or p.ratings i 0))
  line-segment n l e h =
      let i = n - 1 - length p.sizes in
      let ss = segments_from p.uppers p.lowers in
      let count = segments-count p.uppers p.lowers e.0 in
      let f : n ≡ suc (length p.sizes + i) = omega arith in
      ap (line_of p) f ∙ after-levels i
      ∙ get_or-append segment_lines (last_line ∷ []) [] i (omega (arith, segment-lines e))
      ∙ map-get_or segment_line_of (rated_from ss p.ratings) i (rated (segment 0 0) 0) [] (omega (arith, rated-count ss p.ratings (rated-all e), count))
      ∙ ap segment_line_of (rated-at ss p.ratings i (rated-all e) (omega (arith, count)) ∙ ap (λ s. rated s (get_or p.ratings i 0)) (segment-at p.uppers p.lowers i e.0 h))

  pub lines-count : Even → length (lines_of p) ≡ length p.sizes + length p.uppers + 2
  lines-count e = rw lines_from (omega (arith, length-append level_lines (segment_lines ++ last_line ∷ []), length-append segment_lines (last_line ∷ []), level-lines, segment-lines e))

  pub line-last : (n : ℕ) → length p.sizes < n → Even → length p.uppers ≤ n - 1 - length p.sizes → n < length (lines_of p)
      → line_of p n ≡ last_line
  line-last n l e h k =
      let f : n ≡ suc (length p.sizes + length p.uppers) = omega (arith, lines-count e) in
      let g : length segment_lines + 0 ≡ length p.uppers = omega (arith, segment-lines e) in
      ap (line_of p) f ∙ after-levels (length p.uppers)
      ∙ ap (λ (j : ℕ). get_or (segment_lines ++ last_line ∷ []) j []) (sym g)
      ∙ get_or-append-add segment_lines (last_line ∷ []) 0 []

-- a level line asks for the vertices alone, and the plan line for the numbers
module _ (p : PlanData) where
  words_same : (vs : List ℕ) → map (vertex_words p) vs ≡ map (vertex_words (vertices_of p.vias p.halves)) vs
  unfolding vertex_words
  words_same [] = refl
  words_same (v ∷ vs) = rw (words_same vs)

  pub level-same : (vs : List ℕ) → level_line_of p vs ≡ level_line_of (vertices_of p.vias p.halves) vs
  unfolding level_line_of
  level-same vs = rw (words_same vs)

  pub plan-same : plan_line p ≡ plan_line (numbers_of p.levels p.gap p.spacing)
  unfolding plan_line
  plan-same = refl

-- ---- the whole text
module _ (p : PlanData) where
  pub text-none : (o : List ℕ) → Wrote (concat (take 0 (lines_of p))) o 0 0 o
  unfolding concat
  text-none o = wrote_none o 0

  pub text-more : (n : ℕ) {o q r : List ℕ} {at to : ℕ} → n < length (lines_of p) → Wrote (concat (take n (lines_of p))) o 0 at q → Wrote (line_of p n) q at to r
      → Wrote (concat (take (n + 1) (lines_of p))) o 0 to r
  text-more n h a b = rw (concat-more (lines_of p) n h) (and_then a b)

  pub text-room : (n : ℕ) {o q : List ℕ} {at : ℕ} → limits_hold p ≡ true → length (text_of p) ≤ length o → n < length (lines_of p) → Wrote (concat (take n (lines_of p))) o 0 at q → LineRoom p n q at
  unfolding text_of
  text-room n {o} {q} {at} a l h w = record {
    plan = a;
    line = h;
    room =
        let part = concat-part (lines_of p) (n + 1) in
        let more = ap length (concat-more (lines_of p) n h) ∙ length-append (concat (take n (lines_of p))) (line_of p n) in
        omega (arith, wrote-long w, w.next);
  }

  pub text-all : (n : ℕ) {o q : List ℕ} {at : ℕ} → length (text_of p) ≤ length o → length (lines_of p) ≤ n → Wrote (concat (take n (lines_of p))) o 0 at q → Fronts (text_of p) o at q
  unfolding text_of
  text-all n {o} {q} {at} l h w =
      let whole = rw (take_all n (lines_of p) h) at w in
      front_of whole l

-- ---- lines as the code picks them
module _ (p : PlanData) (n : ℕ) where
  pub line-0 : n ≡ 0 → line_of p n ≡ plan_line (numbers_of p.levels p.gap p.spacing)
  line-0 e = ap (line_of p) e ∙ line-plan p ∙ plan-same p

  pub line-l : (n ≡ 0 → ⊥) → n ≤ length p.sizes → line_of p n ≡ level_line_of (vertices_of p.vias p.halves) (level_vertices p.sizes (n - 1))
  line-l e h = line-level p n (omega arith) h ∙ level-same p (level_vertices p.sizes (n - 1))

pub level-inside : (ns : List ℕ) (l : ℕ) → l < length ns → sum (take l ns) + get_or ns l 0 ≤ sum ns
unfolding sum
level-inside [] l h = absurd (omega arith)
level-inside (n ∷ ns) zero h = omega arith
level-inside (n ∷ ns) (suc l) h = omega (arith, level-inside ns l (omega arith))

-- Lines of a names text one after another, and where the names stand.
use mathlib.Core.Path.{◌≡◌, refl, sym, ◌∙◌, ap}
use mathlib.Core.Bool.{Bool, true, false, cond, not, ◌&&◌}
use mathlib.Core.List.{List, [], ◌∷◌}
use Prim.Native.Nat.{ℕ, suc, ◌+◌, ◌-◌, ◌≤◌, ◌<◌}
use native.Mathlib.Omega.{arith}
use native.Mathlib.Decide.{dec_lt, ℕ_discrete}
use native.Mathlib.Numerals.{add-one}
use borrow.Author.Tests.{eq-eqb, ne_eqb, le-leb, lt-leb}
use lib.Dec.{eqb}
use lib.ListN.{length, get_or, set, take, drop, length-take, length-drop, length-set, get_or-eq_default}
use lib.Seq.{drop-drop, get_or-set_same, get_or-set_other}
use Rattle.ints.proofs.Lists.{drop-take}
use Rattle.ints.proofs.Tests.{and_left}
use Rattle.text.specs.Bytes.{bytes}
use Rattle.text.specs.Parser.{Got, got, nothing}
use Rattle.text.proofs.Words.{never}
use Rattle.text_scan.specs.inner.Scanned.{Finds, number_then}
use Rattle.text_scan.proofs.Lines.{found, found-not}
use Rattle.script_words.specs.Parts.{parts, onto}
use Rattle.script_words.specs.inner.Ends.{between, PartEnds}
use Rattle.picture_names.specs.Chars.{is_name}
use Rattle.picture_names.specs.Names.{Names, bad, named, answer_of, is_empty, number_of, is_box, is_good, with, names_from, lines_named, names_of, max_names}
use Rattle.picture_names.specs.inner.Indexed.{named?, Says, name_at, HoldsNames, Takes, Indexed}
use Rattle.std.specs.Prelude.{Result, Ok, Err}
use Rattle.picture_names.specs.declared.types.BadLine.{BadLine}

-- ---- lists
empty-long : {A : Type 0} (l : List A) → is_empty l ≡ eqb (length l) 0
empty-long [] = refl
empty-long (x ∷ l) = sym (ne_eqb (suc (length l)) 0 (λ e. omega arith))

pub parts-some : (sep : ℕ) (s : List ℕ) → is_empty (parts sep s) ≡ false
unfolding parts
parts-some sep [] = refl
parts-some sep (b ∷ s) = go (eqb b sep) (parts sep s)
  where
    go : (t : Bool) (ws : List (List ℕ)) → is_empty (cond t ([] ∷ ws) (onto (b ∷ []) ws)) ≡ false
    go true ws = refl
    go false [] = refl
    go false (w ∷ ws) = refl

-- ---- the line from a place on
module _ (s : List ℕ) (n : ℕ) (vias : List Bool) (names : List (List ℕ)) (from to : ℕ) (e : PartEnds 10 s from to) where
  pub last-good : length s ≤ to → to - from ≡ 0 → names_from n vias names (parts 10 (drop from s)) ≡ named names
  unfolding names_from
  last-good h z = rw (e.last h, z)

  pub last-bad : length s ≤ to → 0 < to - from → names_from n vias names (parts 10 (drop from s)) ≡ bad n
  unfolding names_from
  last-bad h k =
      let z : is_empty (between from to s) ≡ false = empty-long (between from to s) ∙ ne_eqb (length (between from to s)) 0
      (λ q. absurd (omega (arith, q, length-take (to - from) (drop from s), length-drop from s, e.inside, e.onward))) in
      rw (e.last h, z)

  pub line-bad : to < length s → is_good vias names (number_of (between from to s)) ≡ false → names_from n vias names (parts 10 (drop from s)) ≡ bad n
  unfolding names_from
  line-bad h g = rw (e.cut h, parts-some 10 (drop (to + 1) s), g)

  pub line-good : to < length s → is_good vias names (number_of (between from to s)) ≡ true
      → names_from n vias names (parts 10 (drop from s)) ≡ names_from (n + 1) vias (with names (number_of (between from to s))) (parts 10 (drop (to + 1) s))
  unfolding names_from
  line-good h g = rw (e.cut h, parts-some 10 (drop (to + 1) s), g, add-one n)

-- ---- a line that has no number or no name
module _ (vias : List Bool) (l : List (List ℕ)) where
  pub not-said : (g : Got ℕ) → named? g ≡ false → is_good vias l g ≡ false
  not-said nothing e = refl
  not-said (got n name) e = rw e

  pub said : (g : Got ℕ) (n : ℕ) (name : List ℕ) → g ≡ got n name → named? g ≡ true → is_good vias l g ≡ (is_box vias n && is_empty (get_or l n []))
  said g n name e t = let u : is_name name ≡ true = sym (ap named? e) ∙ t in rw (e, u)

pub with-long : (l : List (List ℕ)) (g : Got ℕ) → length (with l g) ≡ length l
with-long l nothing = refl
with-long l (got n name) = length-set l n name

-- ---- a box without a name
-- past the end there is no box
pub box-inside : (vias : List Bool) (v : ℕ) → is_box vias v ≡ true → v < length vias
box-inside vias v e = elim (dec_lt v (length vias)) [
  | yes h ↦ h
  | no h ↦
      let z : is_box vias v ≡ false = ap not (get_or-eq_default vias true (omega arith)) in
      let q : ◌≡◌ {A = Bool} false true = sym z ∙ e in
      absurd (omega (arith, zero_one q))
]
  where
    zero_one : false ≡ true → ◌≡◌ {A = ℕ} 0 1
    zero_one q = cc

module _ (vias : List Bool) (v : ℕ) where
  pub box-none : length vias ≤ v → is_box vias v ≡ false
  box-none h = ap not (get_or-eq_default vias true h)

place-empty : (text : List ℕ) (s e : ℕ) → s ≤ e → e ≤ length text → is_empty (take (e - s) (drop s text)) ≡ eqb s e
place-empty text s e h k = empty-long (take (e - s) (drop s text)) ∙ elim (ℕ_discrete s e) [
  | yes q ↦
      eq-eqb (length (take (e - s) (drop s text))) 0 (omega (arith, q, length-take (e - s) (drop s text), length-drop s text)) ∙ sym (eq-eqb s e q)
  | no q ↦ ne_eqb (length (take (e - s) (drop s text))) 0
      (λ z. q (omega (arith, z, length-take (e - s) (drop s text), length-drop s text))) ∙ sym (ne_eqb s e q)
]

module _ (vias : List Bool) (text starts ends : List ℕ) (l : List (List ℕ)) (n : length l ≡ length vias) (h : HoldsNames text starts ends l) where
  pub free-is : (v : ℕ) → (is_box vias v && is_empty (get_or l v [])) ≡ (is_box vias v && eqb (get_or starts v 0) (get_or ends v 0))
  free-is v = go (is_box vias v) (box-inside vias v)
    where
      go : (t : Bool) → (t ≡ true → v < length vias) → (t && is_empty (get_or l v [])) ≡ (t && eqb (get_or starts v 0) (get_or ends v 0))
      go false k = refl
      go true k =
          let m : v < length l = omega (arith, k refl, n) in
          ap is_empty (sym (h.names v m)) ∙ place-empty text (get_or starts v 0) (get_or ends v 0) (h.ordered v m) (h.inside v m)

  -- ---- a name more
  pub one_more : (v from to start : ℕ) → v < length l → v < length starts → v < length ends → from ≤ to → to ≤ length text → start ≤ to - from
      → HoldsNames text (set starts v (from + start)) (set ends v to) (set l v (drop start (between from to text)))
  one_more v from to start vl vs ve o i st = record { names = names; ordered = ordered; inside = inside }
    where
      name : take (to - (from + start)) (drop (from + start) text) ≡ drop start (between from to text)
      name =
          let e : to - from - start ≡ to - (from + start) = omega arith in
          sym (drop-take start (to - from) (drop from text) ∙ rw (e, drop-drop start from text))

      starts-at : get_or (set starts v (from + start)) v 0 ≡ from + start
      starts-at = get_or-set_same starts v (from + start) 0 vs

      ends_at : get_or (set ends v to) v 0 ≡ to
      ends_at = get_or-set_same ends v to 0 ve

      old : (w : ℕ) → w < length (set l v (drop start (between from to text))) → w < length l
      old w k = omega (arith, k, length-set l v (drop start (between from to text)))

      names : (w : ℕ) → w < length (set l v (drop start (between from to text)))
          → name_at text (set starts v (from + start)) (set ends v to) w ≡ get_or (set l v (drop start (between from to text))) w []
      names w k = elim (ℕ_discrete w v) [
        | yes q ↦ rw (q, starts-at, ends_at, get_or-set_same l v (drop start (between from to text)) [] vl) name
        | no q ↦
            rw (get_or-set_other starts v w (from + start) 0 q, get_or-set_other ends v w to 0 q, get_or-set_other l v w (drop start (between from to text)) [] q)
            (h.names w (old w k))
      ]

      ordered : (w : ℕ) → w < length (set l v (drop start (between from to text))) → get_or (set starts v (from + start)) w 0 ≤ get_or (set ends v to) w 0
      ordered w k = elim (ℕ_discrete w v) [
        | yes q ↦ rw (q, starts-at, ends_at) (omega arith)
        | no q ↦ rw (get_or-set_other starts v w (from + start) 0 q, get_or-set_other ends v w to 0 q) (h.ordered w (old w k))
      ]

      inside : (w : ℕ) → w < length (set l v (drop start (between from to text))) → get_or (set ends v to) w 0 ≤ length text
      inside w k = elim (ℕ_discrete w v) [
        | yes q ↦ rw (q, ends_at) i
        | no q ↦ rw (get_or-set_other ends v w to 0 q) (h.inside w (old w k))
      ]

-- ---- what a line says
-- the rule of the definition is the scanner's
same-rule : (s : List ℕ) → number_of s ≡ number_then (bytes " ") s
unfolding number_of number_then
same-rule s = refl

module _ {line : List ℕ} {f : Bool} {v next : ℕ} (n : Finds (number_then (bytes " ")) line 0 f v next) where
  pub says_none : f ≡ false → Says line f v next
  says_none e = record {
    yes = λ t. never (sym e ∙ t);
    name = e ∙ sym (ap named? (same-rule line ∙ found-not n e));
    inside = n.inside;
  }

  numbered : f ≡ true → number_of line ≡ got v (drop next line)
  numbered e = same-rule line ∙ found n e

  pub says-not : f ≡ true → is_name (drop next line) ≡ false → Says line false 0 next
  says-not e k = record { yes = never; name = sym (ap named? (numbered e) ∙ k); inside = n.inside }

  pub says-name : f ≡ true → is_name (drop next line) ≡ true → Says line f v next
  says-name e k = record { yes = numbered; name = e ∙ sym (ap named? (numbered e) ∙ k); inside = n.inside }

module _ (vias : List Bool) (text : List ℕ) (from to : ℕ) (starts ends : List ℕ) {f : Bool} {v next : ℕ} (s : Says (between from to text) f v next) where
  pub unsaid-takes : f ≡ false → Takes vias text from to starts ends starts ends false
  unsaid-takes e = record {
    good = λ l n h. sym (not-said vias l (number_of (between from to text)) (sym s.name ∙ e));
    holds = λ l n h t. never t;
  }

  is-good : f ≡ true → (l : List (List ℕ)) → length l ≡ length vias → HoldsNames text starts ends l
      → is_good vias l (number_of (between from to text)) ≡ (is_box vias v && eqb (get_or starts v 0) (get_or ends v 0))
  is-good e l n h =
      said vias l (number_of (between from to text)) v (drop next (between from to text)) (s.yes e) (sym s.name ∙ e)
      ∙ free-is vias text starts ends l n h v

  -- what is_free answered
  module _ {r : Bool} (k : r ≡ (is_box vias v && eqb (get_or starts v 0) (get_or ends v 0))) where
    pub unfree-takes : f ≡ true → r ≡ false → Takes vias text from to starts ends starts ends false
    unfree-takes e t = record { good = λ l n h. sym (is-good e l n h ∙ sym k ∙ t); holds = λ l n h t. never t }

    pub free-inside : r ≡ true → v < length vias
    free-inside t = box-inside vias v (and_left (is_box vias v) (eqb (get_or starts v 0) (get_or ends v 0)) (sym k ∙ t))

    pub free-takes : f ≡ true → r ≡ true → length vias ≤ length starts → length vias ≤ length ends → from ≤ to → to ≤ length text
        → Takes vias text from to starts ends (set starts v (from + next)) (set ends v to) true
    free-takes e t ls le o i = record {
      good = λ l n h. sym (is-good e l n h ∙ sym k ∙ t);
      holds = λ l n h _. rw (s.yes e) (one_more vias text starts ends l n h v from to next (omega (arith, n, free-inside t)) (omega (arith, free-inside t))
          (omega (arith, free-inside t)) o i (omega (arith, s.inside, length-take (to - from) (drop from text))));
    }

-- ---- between two lines: the names so far, and what the lines from here on give
pub record SoFar (vias : List Bool) (text starts ends : List ℕ) (from line : ℕ) : Type 0 where
  pub names : List (List ℕ)
  pub count : length names ≡ length vias
  pub holds : HoldsNames text starts ends names
  pub rest : lines_named vias text ≡ names_from line vias names (parts 10 (drop from text))

module _ (vias : List Bool) (text starts ends : List ℕ) where
  refused-here : (n : Names) (line : ℕ) → n ≡ bad line → Indexed n text starts ends (Err (record { 0 = line }))
  refused-here n line e = record { answer = sym (ap answer_of e); holds = λ l q. absurd (other l q) }
    where
      other : (l : List (List ℕ)) → n ≡ named l → ⊥
      other l q = let z : ◌≡◌ {A = ℕ} 0 1 = cc in omega arith

  module _ (from line to : ℕ) (f : SoFar vias text starts ends from line) (e : PartEnds 10 text from to) where
    pub rest-bad : length text ≤ to → from < to → Indexed (lines_named vias text) text starts ends (Err (record { 0 = line }))
    rest-bad h k = refused-here (lines_named vias text) line (f.rest ∙ last-bad text line vias f.names from to e h (omega arith))

    pub rest-good : length text ≤ to → to ≤ from → Indexed (lines_named vias text) text starts ends (Ok tt)
    rest-good h k =
        let z = f.rest ∙ last-good text line vias f.names from to e h (omega arith) in
        record { answer = sym (ap answer_of z); holds = λ l q. same l (sym z ∙ q) }
      where
        same : (l : List (List ℕ)) → named f.names ≡ named l → HoldsNames text starts ends l
        same l q = let z : f.names ≡ l = cc in rw z at f.holds

    pub line_refused : (s' e' : List ℕ) → to < length text → Takes vias text from to starts ends s' e' false → Indexed (lines_named vias text) text s' e' (Err (record { 0 = line }))
    line_refused s' e' h t = record {
      answer = sym (ap answer_of at);
      holds = λ l q. absurd (other l q);
    }
      where
        at : lines_named vias text ≡ bad line
        at = f.rest ∙ line-bad text line vias f.names from to e h (sym (t.good f.names f.count f.holds))

        other : (l : List (List ℕ)) → lines_named vias text ≡ named l → ⊥
        other l q = let z : ◌≡◌ {A = ℕ} 0 1 = cc at in omega arith

    pub line_taken : (s' e' : List ℕ) → to < length text → Takes vias text from to starts ends s' e' true → SoFar vias text s' e' (to + 1) (line + 1)
    line_taken s' e' h t = record {
      names = with f.names (number_of (between from to text));
      count = with-long f.names (number_of (between from to text)) ∙ f.count;
      holds = t.holds f.names f.count f.holds refl;
      rest = f.rest ∙ line-good text line vias f.names from to e h (sym (t.good f.names f.count f.holds));
    }

-- ---- the whole text
module _ (vias : List Bool) (text : List ℕ) where
  pub too_long : (starts ends : List ℕ) → max_names < length text → Indexed (names_of vias text) text starts ends (Err (record { 0 = 0 }))
  unfolding names_of
  too_long starts ends h = rw (lt-leb (length text) max_names h) (refused-here vias text starts ends (bad 0) 0 refl)

  pub not-too-long : {starts ends : List ℕ} {r : Result Unit BadLine} → length text ≤ max_names → Indexed (lines_named vias text) text starts ends r
      → Indexed (names_of vias text) text starts ends r
  unfolding names_of
  not-too-long h i = rw (le-leb (length text) max_names h) i

-- Fronts of a name that end at a place, and the first row of a name.
use mathlib.Core.Path.{◌≡◌, refl, sym, ◌∙◌, ap}
use mathlib.Core.Bool.{Bool, true, false, cond, ◌&&◌}
use mathlib.Core.List.{List, [], ◌∷◌}
use Prim.Native.Nat.{ℕ, zero, suc, ◌+◌, ◌-◌, ◌≤◌, ◌<◌}
use native.Mathlib.Omega.{arith}
use native.Mathlib.Numerals.{add-one}
use borrow.Author.Tests.{eq-eqb, ne_eqb}
use lib.Dec.{leb, eqb}
use lib.ListN.{length, get_or, take, drop, length-take, length-drop}
use native.Mathlib.Decide.{ℕ_discrete}
use lib.Seq.{drop-drop, take-length, take-take}
use Rattle.ints.proofs.Laws.{if-ind}
use Rattle.script_words.specs.Parts.{word_at}
use Rattle.script_words.specs.inner.Ends.{PartEnds, between}
use Rattle.script_words.proofs.PartLaws.{part-first, rest}
use Rattle.picture_rows.specs.Rows.{columns, last_of, longest, is_space, begins, cut_end, row, is_whole, rows}
use Rattle.picture_rows.specs.inner.Found.{FirstRow}

pub cond_both : {A : Type 0} (a b : Bool) (x y : A) → cond a (cond b x y) y ≡ cond (a && b) x y
cond_both true b x y = refl
cond_both false b x y = refl

-- ---- the longest front
pub last_none : (t : ℕ → Bool) → last_of t 0 ≡ 0
unfolding last_of
last_none t = refl

pub last_more : (t : ℕ → Bool) (i : ℕ) → last_of t (i + 1) ≡ cond (t (i + 1)) (i + 1) (last_of t i)
unfolding last_of
last_more t i = rw (add-one i)

pub last_under : (t : ℕ → Bool) (n : ℕ) → last_of t n ≤ n
unfolding last_of
last_under t zero = omega arith
last_under t (suc n) = if-ind (t (suc n)) (suc n) (last_of t n) (λ k. k ≤ suc n) (λ e. omega arith) (λ e. omega (arith, last_under t n))

-- what is asked of the end of a front
abbrev pub ends_at : (ℕ → Bool) → ℕ → List ℕ → ℕ → Bool
ends_at st most name e = st (get_or name e 32) && leb (columns (take e name)) most

module _ (st : ℕ → Bool) (most : ℕ) (name : List ℕ) where
  pub longest-all : (i : ℕ) → i ≡ length name → last_of (ends_at st most name) i ≡ longest st most name
  unfolding longest
  longest-all i e = ap (last_of (ends_at st most name)) e

  pub last_step : (i wide end : ℕ) → wide ≡ columns (take (i + 1) name) → end ≡ last_of (ends_at st most name) i
      → cond (st (get_or name (i + 1) 32)) (cond (leb wide most) (i + 1) end) end ≡ last_of (ends_at st most name) (i + 1)
  last_step i wide end w e =
      rw (w, e)
      (cond_both (st (get_or name (i + 1) 32)) (leb (columns (take (i + 1) name)) most) (i + 1) (last_of (ends_at st most name) i) ∙ sym (last_more (ends_at st most name) i))

  pub longest-under : longest st most name ≤ length name
  unfolding longest
  longest-under = last_under (ends_at st most name) (length name)

-- ---- a row that is cut
module _ (most : ℕ) (name : List ℕ) (e : ℕ) (h : e ≡ longest begins most name) where
  pub cut-none : e ≡ 0 → 0 ≡ cut_end most name
  unfolding cut_end
  cut-none z =
      let q : longest begins most name ≡ 0 = sym h ∙ z in
      rw q (if-ind (eqb (get_or name 0 0) 32) 0 0 (λ n. 0 ≡ n) (λ _. refl) (λ _. refl))

  pub cut-space : get_or name (e - 1) 0 ≡ 32 → e - 1 ≡ cut_end most name
  unfolding cut_end
  cut-space s = rw (← h, eq-eqb (get_or name (e - 1) 0) 32 s)

  pub cut-plain : (get_or name (e - 1) 0 ≡ 32 → ⊥) → e ≡ cut_end most name
  unfolding cut_end
  cut-plain s = rw (← h, ne_eqb (get_or name (e - 1) 0) 32 s)

-- ---- the first row
module _ (cols : ℕ) where
  pub no_rows : (name : List ℕ) → rows cols 0 name ≡ []
  unfolding rows
  no_rows name = refl

  pub rows_none : (left : ℕ) (name : List ℕ) → length name ≤ 0 → rows cols left name ≡ []
  unfolding rows
  rows_none zero name h = refl
  rows_none (suc n) [] h = refl
  rows_none (suc n) (b ∷ s) h = absurd (omega arith)

  first-is : (n : ℕ) (name : List ℕ) → 0 < length name → rows cols (suc n) name ≡ cond (is_whole n (longest is_space cols name) name)
      (row (take (longest is_space cols name) name) false ∷ rows cols n (drop (longest is_space cols name + 1) name))
      (let inside = cond (eqb n 0) name (word_at name 0) in
      row (take (cut_end (cols - 1) inside) inside) true ∷ rows cols n (drop (length (word_at name 0) + 1) name))
  unfolding rows
  first-is n [] h = absurd (omega arith)
  first-is n (b ∷ s) h = rw (add-one, add-one)

  module _ (left : ℕ) (name : List ℕ) (l : 0 < left) (h : 0 < length name) (e : ℕ) (q : e ≡ longest is_space cols name) where
    pub row-whole : is_whole (left - 1) e name ≡ true → FirstRow cols left name e false (e + 1)
    row-whole t = record {
      gives =
          let s : left ≡ suc (left - 1) = omega arith in
          let t' : is_whole (left - 1) (longest is_space cols name) name ≡ true = rw (← q) t in
          ap (λ (n : ℕ). rows cols n name) s ∙ first-is (left - 1) name h ∙ rw (t', q);
      inside = omega (arith, q, longest-under is_space cols name);
      onward = (omega arith, omega (arith, q, longest-under is_space cols name));
    }

    pub row-part : (w m room : ℕ) → is_whole (left - 1) e name ≡ false → PartEnds 32 name 0 w → room ≡ cond (eqb left 1) (length name) w
        → m ≡ cut_end (cols - 1) (take room name) → m ≤ length (take room name) → FirstRow cols left name m true (w + 1)
    row-part w m room t p r mq mh = record {
      gives =
          let s : left ≡ suc (left - 1) = omega arith in
          let t' : is_whole (left - 1) (longest is_space cols name) name ≡ false = rw (← q) t in
          ap (λ (n : ℕ). rows cols n name) s ∙ first-is (left - 1) name h ∙ rw (t', word-long, ← inside) (ap (λ f. row f true ∷ rows cols (left - 1) (drop (w + 1) name)) front);
      inside = omega (arith, mh, length-take room name);
      onward = (omega arith, omega (arith, p.inside));
    }
      where
        word : word_at name 0 ≡ take w name
        word = let z : w - 0 ≡ w = omega arith in part-first 32 name 0 w p ∙ ap (λ (n : ℕ). take n name) z

        word-long : length (word_at name 0) ≡ w
        word-long = ap length word ∙ omega (arith, length-take w name, p.inside)

        inside : take room name ≡ cond (eqb (left - 1) 0) name (word_at name 0)
        inside = elim (ℕ_discrete left 1) [
          | yes z ↦
              let k : room ≡ length name = r ∙ rw (eq-eqb left 1 z) in
              let y : left - 1 ≡ 0 = omega arith in
              rw (k, take-length name, eq-eqb (left - 1) 0 y)
          | no z ↦
              let k : room ≡ w = r ∙ rw (ne_eqb left 1 z) in
              rw (k, ne_eqb (left - 1) 0 (λ y. z (omega (arith, y, l)))) (sym word)
        ]

        front : take (cut_end (cols - 1) (take room name)) (take room name) ≡ take m name
        front = rw (← mq) (take-take m room name (omega (arith, mh, length-take room name)))

-- ---- rows of what is left of a name, of which a part is lent
module _ (cols left : ℕ) (name : List ℕ) (start : ℕ) {end : ℕ} {cut : Bool} {next : ℕ} (f : FirstRow cols left (between start (length name) name) end cut next) where
  pub row_on : rows cols left (drop start name) ≡ row (take end (drop start name)) cut ∷ rows cols (left - 1) (drop (start + next) name)
  row_on =
      let r = rest start name in
      (rw r at f.gives) ∙ ap (λ (l : List ℕ). row (take end (drop start name)) cut ∷ rows cols (left - 1) l) (drop-drop next start name)

  pub row_inside : start ≤ length name → (start + end ≤ length name) × (start < start + next) × (start + next ≤ length name + 1)
  row_inside h =
      let l : length (between start (length name) name) ≡ length name - start = ap length (rest start name) ∙ length-drop start name in
      (omega (arith, l, f.inside), omega (arith, f.onward.0), omega (arith, l, f.onward.1))

  pub count-on : length (rows cols left (drop start name)) ≡ suc (length (rows cols (left - 1) (drop (start + next) name)))
  count-on = ap length row_on

pub rows_end : (cols left : ℕ) (name : List ℕ) (start : ℕ) → length name ≤ start → rows cols left (drop start name) ≡ []
rows_end cols left name start h = rows_none cols left (drop start name) (simp length-drop (omega arith))

-- The cases of the rules for a vertex and for a line, as the program meets them.
use mathlib.Core.Path.{◌≡◌, refl, sym, ◌∙◌, ap}
use mathlib.Core.Bool.{Bool, true, false, cond}
use mathlib.Core.List.{List}
use mathlib.Core.Option.{Option, none, some}
use Prim.Native.Nat.{ℕ, ◌+◌, ◌<◌}
use lib.ListN.{length, drop, drop_of_length-le}
use Rattle.text.specs.Bytes.{bytes}
use Rattle.text.specs.Parser.{Got, got, nothing, Rule, give, then, either, word, number}
use Rattle.text.specs.Form.{Vertex, SegmentLine, box, via, rating, segment_line}
use Rattle.text_scan.specs.inner.Scanned.{Finds, HasWord, number_then, vertex, plan_line, Ends}
use native.Mathlib.Omega.{arith}
use lib.Seq.{drop-cons}

-- ---- what a scanner found, or not
module _ {w s : List ℕ} {at : ℕ} {t : Bool} (h : HasWord w s at t) where
  pub has : t ≡ true → word w (drop at s) ≡ got tt (drop (at + length w) s)
  has e = h.gives ∙ rw e

  pub has-not : t ≡ false → word w (drop at s) ≡ nothing
  has-not e = h.gives ∙ rw e

module _ {A : Type 0} {r : Rule A} {s : List ℕ} {at : ℕ} {t : Bool} {a : A} {next : ℕ} (h : Finds r s at t a next) where
  pub found : t ≡ true → r (drop at s) ≡ got a (drop next s)
  found e = h.gives ∙ rw e

  pub found-not : t ≡ false → r (drop at s) ≡ nothing
  found-not e = h.gives ∙ rw e

-- ---- rules one after another
-- the second rule's value is taken on
pub then-then : {A B C : Type 0} (g : Got A) (f : A → Rule B) (h : B → Rule C) → then (then g f) h ≡ then g (λ a s. then (f a s) h)
then-then (got a s) f h = refl
then-then nothing f h = refl

pub then_same : {A B : Type 0} (g : Got A) (f h : A → Rule B) → ((a : A) (s : List ℕ) → f a s ≡ h a s) → then g f ≡ then g h
then_same (got a s) f h e = e a s
then_same nothing f h e = refl

-- what is found goes on under a test
pub then-cond : {A B : Type 0} (t : Bool) (a : A) (s : List ℕ) (f : A → B) → then (cond t (got a s) nothing) (λ x u. got (f x) u) ≡ cond t (got (f a) s) nothing
then-cond true a s f = refl
then-cond false a s f = refl

-- ---- a number and a word
module _ (w s : List ℕ) where
  pub then-none : number s ≡ nothing → number_then w s ≡ nothing
  unfolding number_then
  then-none e = rw e

  pub then-not : (n : ℕ) (t : List ℕ) → number s ≡ got n t → word w t ≡ nothing → number_then w s ≡ nothing
  unfolding number_then
  then-not n t e f = rw (e, f)

  pub then_found : (n : ℕ) (t u : List ℕ) → number s ≡ got n t → word w t ≡ got tt u → number_then w s ≡ got n u
  unfolding number_then
  then_found n t u e f = rw (e, f)

-- a rule that goes on after a number and a word
pub number-then : {B : Type 0} (w s : List ℕ) (k : ℕ → Rule B) → then (number s) (λ n t. then (word w t) (λ _ u. k n u)) ≡ then (number_then w s) k
unfolding number_then
number-then w s k =
    then_same (number s) (λ n t. then (word w t) (λ _ u. k n u)) (λ n t. then (then (word w t) (λ _ u. got n u)) k) (λ n t. sym (then-then (word w t) (λ _ u. got n u) k))
    ∙ sym (then-then (number s) (λ n t. then (word w t) (λ _ u. got n u)) k)

-- ---- a vertex
module _ (s : List ℕ) where
  pub box-none : word (bytes " (box ") s ≡ nothing → box s ≡ nothing
  unfolding box
  box-none e = rw e

  pub box-gives : (f : Bool) (n : ℕ) (t u : List ℕ) → word (bytes " (box ") s ≡ got tt t → number_then (bytes ")") t ≡ cond f (got n u) nothing
      → box s ≡ cond f (got (record { via = false; half = n }) u) nothing
  unfolding box
  box-gives f n t u e g =
      let k : ℕ → Rule Vertex = λ h v. got (record { via = false; half = h }) v in
      rw e (number-then (bytes ")") t k ∙ ap (λ (x : Got ℕ). then x k) g ∙ then-cond f n u (λ h. record { via = false; half = h }))

  pub via-none : word (bytes " (via)") s ≡ nothing → via s ≡ nothing
  unfolding via
  via-none e = rw e

  pub via-found : (t : List ℕ) → word (bytes " (via)") s ≡ got tt t → via s ≡ got (record { via = true; half = 0 }) t
  unfolding via
  via-found t e = rw e

  pub vertex-box : (v : Vertex) (t : List ℕ) → box s ≡ got v t → vertex s ≡ got v t
  vertex-box v t e = rw e

  pub vertex-via : box s ≡ nothing → vertex s ≡ via s
  vertex-via e = rw e

-- ---- a rating
module _ (s : List ℕ) where
  pub rating-none : word (bytes " ") s ≡ nothing → either rating (give none) s ≡ got none s
  unfolding rating
  rating-none e = rw e

  module _ (t : List ℕ) (e : word (bytes " ") s ≡ got tt t) where
    pub rating-not : number t ≡ nothing → either rating (give none) s ≡ got none s
    unfolding rating
    rating-not f = rw (e, f)

    pub rating-found : (w : ℕ) (u : List ℕ) → number t ≡ got w u → either rating (give none) s ≡ got (some w) u
    unfolding rating
    rating-found w u f = rw (e, f)

-- ---- a segment line
module _ (s : List ℕ) where
  pub segment-none : word (bytes "(seg ") s ≡ nothing → segment_line s ≡ nothing
  unfolding segment_line
  segment-none e = rw e

  module _ (t : List ℕ) (e : word (bytes "(seg ") s ≡ got tt t) where
    abbrev line_of : ℕ → ℕ → Option ℕ → SegmentLine
    line_of a b w = record { segment = record { upper = a; lower = b }; rating = w }

    -- what follows the upper end
    abbrev rest : ℕ → Rule SegmentLine
    rest a u = then (number u) (λ b v. then (either rating (give none) v) (λ w x. then (word (bytes ")\n") x) (λ _ y. got (line_of a b w) y)))

    segment-opens : segment_line s ≡ then (number_then (bytes " ") t) rest
    unfolding segment_line
    segment-opens = rw e (number-then (bytes " ") t rest)

    pub segment-not : number_then (bytes " ") t ≡ nothing → segment_line s ≡ nothing
    segment-not f = segment-opens ∙ rw f

    module _ (a : ℕ) (u : List ℕ) (f : number_then (bytes " ") t ≡ got a u) where
      pub segment-no-lower : number u ≡ nothing → segment_line s ≡ nothing
      segment-no-lower g = segment-opens ∙ rw (f, g)

      module _ (b : ℕ) (w : Option ℕ) (v x : List ℕ) (g : number u ≡ got b v) (h : either rating (give none) v ≡ got w x) where
        segment-ends : segment_line s ≡ then (word (bytes ")\n") x) (λ _ y. got (line_of a b w) y)
        segment-ends = segment-opens ∙ rw (f, g, h)

        pub segment-open : word (bytes ")\n") x ≡ nothing → segment_line s ≡ nothing
        segment-open i = segment-ends ∙ rw i

        pub segment-found : (y : List ℕ) → word (bytes ")\n") x ≡ got tt y → segment_line s ≡ got (line_of a b w) y
        segment-found y i = segment-ends ∙ rw i

-- ---- the plan line
module _ (s : List ℕ) where
  pub plan-none : word (bytes "(plan ") s ≡ nothing → plan_line s ≡ nothing
  unfolding plan_line
  plan-none e = rw e

  module _ (t : List ℕ) (e : word (bytes "(plan ") s ≡ got tt t) where
    pub plan-no-levels : number_then (bytes " ") t ≡ nothing → plan_line s ≡ nothing
    unfolding plan_line
    plan-no-levels f = rw (e, f)

    pub plan-no-gap : (k : ℕ) (u : List ℕ) → number_then (bytes " ") t ≡ got k u → number_then (bytes " ") u ≡ nothing → plan_line s ≡ nothing
    unfolding plan_line
    plan-no-gap k u f g = rw (e, f, g)

    pub plan-gives : (b : Bool) (k g d : ℕ) (u v w : List ℕ) → number_then (bytes " ") t ≡ got k u → number_then (bytes " ") u ≡ got g v → number_then (bytes ")\n") v ≡ cond b (got d w) nothing
        → plan_line s ≡ cond b (got (record { levels = k; gap = g; spacing = d }) w) nothing
    unfolding plan_line
    plan-gives b k g d u v w f h i = rw (e, f, h, i) (then-cond b d w (λ x. record { levels = k; gap = g; spacing = x }))

-- ---- the end
module _ (s : List ℕ) (at : ℕ) where
  pub end_none : word (bytes "(end)\n") (drop at s) ≡ nothing → Ends s at false
  end_none e = record { gives = λ l. rw e }

  pub end_is : word (bytes "(end)\n") (drop at s) ≡ got tt (drop (at + 6) s) → at + 6 ≡ length s → Ends s at true
  end_is e h = record { gives = λ l. rw (e, drop_of_length-le s {i = at + 6} (omega arith)) }

  pub end_more : word (bytes "(end)\n") (drop at s) ≡ got tt (drop (at + 6) s) → at + 6 < length s → Ends s at false
  end_more e h = record { gives = λ l. rw (e, drop-cons s (at + 6) 0 h) }

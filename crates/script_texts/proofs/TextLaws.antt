-- The cases of an escaped text at a position, as the program meets them, and texts cut to a buffer's length. Assumes nothing.
use mathlib.Core.Path.{◌≡◌, refl, ◌∙◌, ap}
use mathlib.Core.Bool.{Bool, true, false, cond, ◌&&◌, false≢true}
use mathlib.Core.List.{List, [], ◌∷◌, ◌++◌, append-nil}
use mathlib.Core.Option.{Option, none, some}
use Prim.Native.Nat.{ℕ, suc, ◌+◌, ◌-◌, ◌*◌, ◌≤◌, ◌<◌}
use native.Mathlib.Omega.{arith}
use native.Mathlib.Decide.{dec_lt}
use native.Mathlib.Numerals.{add-one, add-two}
use borrow.Author.Tests.{eq-eqb, ne_eqb, le-leb, lt-leb, lt-ltb, le-ltb}
use lib.Dec.{leb}
use lib.ListN.{length, get_or, take, drop, length-take, length-drop, drop_of_length-le}
use lib.Seq.{drop-cons, take_all}
use Rattle.ints.proofs.Tests.{and-false}
use Rattle.plan.specs.Limits.{within}
use Rattle.script_texts.specs.Texts.{follows, hex_value, is_hex, unescaped, escaped, hexadecimal}
use Rattle.script_words.specs.inner.Puts.{Puts}
use Rattle.script_words.proofs.Filling.{fill_more}
use Rattle.script_texts.specs.inner.Units.{Stands, cut}

-- ---- hexadecimal digits: the ranges one after another
module _ (lo hi n : ℕ) where
  pub within_low : n < lo → within lo hi n ≡ false
  within_low h = rw (lt-leb lo n h)

  pub within-high : hi < n → within lo hi n ≡ false
  within-high h = rw (lt-leb n hi h, and-false (leb lo n))

  within_none : (lo ≤ n → n ≤ hi → ⊥) → within lo hi n ≡ false
  within_none h = elim (dec_lt n lo) [
    | yes k ↦ within_low k
    | no k ↦ within-high (elim (dec_lt hi n) [ yes m ↦ m | no m ↦ absurd (h (omega arith) (omega arith)) ])
  ]

  pub within-yes : lo ≤ n → n ≤ hi → within lo hi n ≡ true
  within-yes h k = rw (le-leb lo n h, le-leb n hi k)

module _ (b : ℕ) where
  pub hex-digit : 48 ≤ b → b ≤ 57 → hex_value b ≡ b - 48
  unfolding hex_value
  hex-digit h k = rw (within-yes 48 57 b h k)

  pub hex-upper : 65 ≤ b → b ≤ 70 → hex_value b ≡ b - 55
  unfolding hex_value
  hex-upper h k = rw (within-high 48 57 b (omega arith), within-yes 65 70 b h k)

  pub hex-lower : 97 ≤ b → b ≤ 102 → hex_value b ≡ b - 87
  unfolding hex_value
  hex-lower h k = rw (within-high 48 57 b (omega arith), within-high 65 70 b (omega arith), within-yes 97 102 b h k)

  pub hex-none : (48 ≤ b → b ≤ 57 → ⊥) → (65 ≤ b → b ≤ 70 → ⊥) → (97 ≤ b → b ≤ 102 → ⊥) → hex_value b ≡ 16
  unfolding hex_value
  hex-none x y z = rw (within_none 48 57 b x, within_none 65 70 b y, within_none 97 102 b z)

-- ---- what stands at a position
hex-few : (l : List ℕ) → length l < 2 → hexadecimal l ≡ none
unfolding hexadecimal
hex-few [] h = refl
hex-few (x ∷ []) h = refl
hex-few (x ∷ y ∷ l) h = absurd (omega arith)

module _ (s : List ℕ) (at : ℕ) where
  pub plain_at : at < length s → (get_or s at 0 ≡ 92 → ⊥) → unescaped (drop at s) ≡ follows (get_or s at 0) (unescaped (drop (at + 1) s))
  unfolding unescaped
  plain_at h n = rw (add-one, drop-cons s at 0 h, ne_eqb (get_or s at 0) 92 n)

  pub escape-at : at < length s → get_or s at 0 ≡ 92 → unescaped (drop at s) ≡ escaped (drop (at + 1) s)
  unfolding unescaped
  escape-at h e = rw (add-one, drop-cons s at 0 h, eq-eqb (get_or s at 0) 92 e)

  pub text-end : length s ≤ at → unescaped (drop at s) ≡ some []
  unfolding unescaped
  text-end h = rw (drop_of_length-le s h)

  pub escape_end : length s ≤ at → escaped (drop at s) ≡ none
  unfolding escaped
  escape_end h = rw (drop_of_length-le s h)

  module _ (h : at < length s) where
    pub escape-n : get_or s at 0 ≡ 110 → escaped (drop at s) ≡ follows 10 (unescaped (drop (at + 1) s))
    unfolding escaped
    escape-n e = rw (add-one, drop-cons s at 0 h, e)

    pub escape-t : get_or s at 0 ≡ 116 → escaped (drop at s) ≡ follows 9 (unescaped (drop (at + 1) s))
    unfolding escaped
    escape-t e = rw (add-one, drop-cons s at 0 h, e)

    pub escape-r : get_or s at 0 ≡ 114 → escaped (drop at s) ≡ follows 13 (unescaped (drop (at + 1) s))
    unfolding escaped
    escape-r e = rw (add-one, drop-cons s at 0 h, e)

    pub escape-backslash : get_or s at 0 ≡ 92 → escaped (drop at s) ≡ follows 92 (unescaped (drop (at + 1) s))
    unfolding escaped
    escape-backslash e = rw (add-one, drop-cons s at 0 h, e)

    pub escape-x : get_or s at 0 ≡ 120 → escaped (drop at s) ≡ hexadecimal (drop (at + 1) s)
    unfolding escaped
    escape-x e = rw (add-one, drop-cons s at 0 h, e)

    pub escape-other : (get_or s at 0 ≡ 110 → ⊥) → (get_or s at 0 ≡ 116 → ⊥) → (get_or s at 0 ≡ 114 → ⊥) → (get_or s at 0 ≡ 92 → ⊥) → (get_or s at 0 ≡ 120 → ⊥)
        → escaped (drop at s) ≡ none
    unfolding escaped
    escape-other a b c d e = let x = get_or s at 0 in rw (
      drop-cons s at 0 h,
      ne_eqb x 110 a,
      ne_eqb x 116 b,
      ne_eqb x 114 c,
      ne_eqb x 92 d,
      ne_eqb x
          120 e,
    )

  pub hex-short : length s < at + 2 → hexadecimal (drop at s) ≡ none
  hex-short h = hex-few (drop at s) (simp length-drop (omega arith))

  hex-both : at + 1 < length s → hexadecimal (drop at s) ≡ cond (is_hex (get_or s at 0) && is_hex (get_or s (at + 1) 0))
      (follows (16 * hex_value (get_or s at 0) + hex_value (get_or s (at + 1) 0)) (unescaped (drop (at + 2) s))) none
  unfolding hexadecimal
  hex-both h = rw (add-one at, add-two at, drop-cons s at 0 (omega arith), drop-cons s (suc at) 0 (omega arith))

  module _ (h : at + 1 < length s) where
    pub hex-not-first : 16 ≤ hex_value (get_or s at 0) → hexadecimal (drop at s) ≡ none
    hex-not-first k = hex-both h ∙ rw (le-ltb (hex_value (get_or s at 0)) 16 k)

    pub hex-not-second : 16 ≤ hex_value (get_or s (at + 1) 0) → hexadecimal (drop at s) ≡ none
    hex-not-second k = hex-both h ∙ rw (le-ltb (hex_value (get_or s (at + 1) 0)) 16 k, and-false (is_hex (get_or s at 0)))

    pub hex-is : hex_value (get_or s at 0) < 16 → hex_value (get_or s (at + 1) 0) < 16 → hexadecimal (drop at s) ≡ follows
        (16 * hex_value (get_or s at 0) + hex_value (get_or s (at + 1) 0)) (unescaped (drop (at + 2) s))
    hex-is k l = hex-both h ∙ rw (lt-ltb (hex_value (get_or s at 0)) 16 k, lt-ltb (hex_value (get_or s (at + 1) 0)) 16 l)

-- ---- nothing, or a byte
pub nothing-stands : (f : List ℕ → Option (List ℕ)) (s : List ℕ) (at : ℕ) → f (drop at s) ≡ none → at ≤ length s → Stands f s at false 0 at
nothing-stands f s at e h = record { gives = e; onward = λ q. absurd (false≢true q); inside = h }

pub byte-stands : (f : List ℕ → Option (List ℕ)) (s : List ℕ) (at byte next : ℕ) → f (drop at s) ≡ follows byte (unescaped (drop next s)) → at < next
    → next ≤ length s → Stands f s at true byte next
byte-stands f s at byte next e h k = record { gives = e; onward = λ q. h; inside = k }

module _ {f : List ℕ → Option (List ℕ)} {s : List ℕ} {at : ℕ} {good : Bool} {byte next : ℕ} (e : Stands f s at good byte next) where
  pub stands-none : good ≡ false → f (drop at s) ≡ none
  stands-none g = e.gives ∙ rw g

  pub stands-byte : good ≡ true → f (drop at s) ≡ follows byte (unescaped (drop next s))
  stands-byte g = e.gives ∙ rw g

-- ---- a text in a buffer
-- bytes before a text
abbrev pub joined : List ℕ → Option (List ℕ) → Option (List ℕ)
joined p none = none
joined p (some t) = some (p ++ t)

pub cut-more : (byte n r : ℕ) (out after : List ℕ) (o : Option (List ℕ)) (m : ℕ) → length out ≡ m → Puts byte n out r after
    → cut m (joined (take r after) o) ≡ cut m (joined (take n out) (follows byte o))
cut-more byte n r out after none m e p = refl
cut-more byte n r out after (some t) m e p = ap some (fill_more byte n r out after t m e p)

pub cut-none : (m : ℕ) (o : Option (List ℕ)) → cut m (joined [] o) ≡ cut m o
cut-none m none = refl
cut-none m (some t) = refl

pub cut_all : (m n : ℕ) (out : List ℕ) → n ≤ m → cut m (joined (take n out) (some [])) ≡ some (take n out)
cut_all m n out h = ap some (ap (take m) (append-nil (take n out)) ∙ take_all m (take n out) (simp length-take (omega arith)))

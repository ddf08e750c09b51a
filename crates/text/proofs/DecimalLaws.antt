-- Decimal numbers: what `decimal` writes, `number` reads, and what `number` reads, `decimal` writes again byte for byte. Both
-- directions go one digit at a time from the left: the digits of 10 v + d are those of v, and then d.
use mathlib.Core.Path.{◌≡◌, refl, sym, ◌∙◌}
use mathlib.Core.Bool.{Bool, true, false, not}
use mathlib.Core.List.{List, [], ◌∷◌, ◌++◌, append_assoc, append-nil}
use Prim.Native.Nat.{ℕ, zero, suc, ◌+◌, ◌-◌, ◌*◌, ◌/◌, ◌%◌, ◌≤◌, ◌<◌}
use native.Mathlib.Omega.{arith}
use borrow.Author.Tests.{ltb-true, lt-ltb, le-ltb, le-leb, ne_eqb, eqb-true, eqb-false, not-true}
use lib.Dec.{ltb, eqb}
use lib.ListN.{length, get_or, length-append}
use Rattle.ints.proofs.Laws.{cases}
use Rattle.plan.specs.Checks.{every}
use Rattle.text.specs.Decimal.{digits, decimal}
use Rattle.text.specs.Parser.{Got, got, Rule, then, is_digit, digits_after, number}
use Rattle.ints.proofs.Tests.{test}
use Rattle.text.proofs.TestLaws.{every_one, every_append}
use Rattle.text.proofs.ParserLaws.{never-got, then-got}
use Rattle.text.proofs.Numbers.{digit_low, digit-high, cap, cap-all, cap-go}

-- ---- the digits of a number
-- n + 1 digits are more than enough
digits-enough : (m k n : ℕ) → n < m → n < k → digits m n ≡ digits k n
unfolding digits
digits-enough zero k n h g = absurd (omega arith)
digits-enough (suc m) zero n h g = absurd (omega arith)
digits-enough (suc m) (suc k) n h g = cases 10 n
    (λ l. rw (le-ltb n 10 l, digits-enough m k (n / 10) (omega arith) (omega arith)))
    (λ l. rw (lt-ltb n 10 l))

pub decimal-one : (n : ℕ) → n < 10 → decimal n ≡ (48 + n) ∷ []
unfolding digits decimal
decimal-one n h = let e : n % 10 ≡ n = omega arith in rw (lt-ltb n 10 h, e)

pub decimal-last : (n : ℕ) → 10 ≤ n → decimal n ≡ decimal (n / 10) ++ (48 + n % 10) ∷ []
unfolding digits decimal
decimal-last n h = rw (le-ltb n 10 h, digits-enough n (suc (n / 10)) (n / 10) (omega arith) (omega arith))

pub decimal-more : (v d : ℕ) → 0 < v → d < 10 → decimal (v * 10 + d) ≡ decimal v ++ (48 + d) ∷ []
decimal-more v d h l =
    let q : (v * 10 + d) / 10 ≡ v = omega arith in
    let r : (v * 10 + d) % 10 ≡ d = omega arith in
    decimal-last (v * 10 + d) (omega arith) ∙ rw (q, r)

-- ---- how many they are
abbrev pub ten_to : ℕ → ℕ
ten_to zero = 1
ten_to (suc j) = 10 * ten_to j

pub decimal-length : (j n : ℕ) → n < ten_to (suc j) → length (decimal n) ≤ suc j
decimal-length zero n h = rw (decimal-one n h) (omega arith)
decimal-length (suc j) n h = cases 10 n
    (λ l. rw (decimal-last n l) (simp length-append (omega (arith, decimal-length j (n / 10) (omega arith)))))
    (λ l. rw (decimal-one n l) (omega arith))

-- ---- what is written is read
is_digit_lem : (d : ℕ) → d < 10 → is_digit (48 + d) ≡ true
is_digit_lem d h = rw (le-leb 48 (48 + d) (omega arith), le-leb (48 + d) 57 (omega arith))

digits_step : (k v d : ℕ) (t : List ℕ) → d < 10 → digits_after (suc k) v ((48 + d) ∷ t) ≡ digits_after k (v * 10 + d) t
unfolding digits_after
digits_step k v d t h = let e : 48 + d - 48 ≡ d = omega arith in rw (is_digit_lem d h, e)

-- A number that can be read: five digits at most.
abbrev pub fits : ℕ → Bool
fits n = ltb n 100000

-- the text goes on with no digit
abbrev pub no_digit : List ℕ → Bool
no_digit [] = true
no_digit (b ∷ s) = not (is_digit b)

digits-end : (k v : ℕ) (t : List ℕ) → no_digit t ≡ true → digits_after k v t ≡ got v t
unfolding digits_after
digits-end zero v t h = refl
digits-end (suc k) v [] h = refl
digits-end (suc k) v (b ∷ s) h = rw (not-true (is_digit b) h)

-- n, of at most j digits, is read, and `left` more may follow
record Starts (n j : ℕ) : Type 0 where
  left : ℕ
  enough : 5 ≤ left + j
  reads : (t : List ℕ) → number (decimal n ++ t) ≡ digits_after left n t

starts-one : (j n : ℕ) → 0 < n → n < 10 → Starts n (suc j)
unfolding number
starts-one j n h l = record {
  left = 4;
  enough = omega arith;
  reads = λ t.
      let e : 48 + n - 48 ≡ n = omega arith in
      rw (decimal-one n l, is_digit_lem n l, ne_eqb (48 + n) 48 (omega arith), e);
}

starts : (j n : ℕ) → 0 < n → n < ten_to (suc j) → j ≤ 4 → Starts n (suc j)
starts zero n h l m = starts-one zero n h l
starts (suc j) n h l m = cases 10 n
    (λ g. let r = starts j (n / 10) (omega arith) (omega arith) (omega arith) in more g r r.left refl)
    (λ g. starts-one (suc j) n h g)
  where
    more : 10 ≤ n → (r : Starts (n / 10) (suc j)) (k : ℕ) → r.left ≡ k → Starts n (suc (suc j))
    more g r zero e = absurd (omega (arith, r.enough))
    more g r (suc k) e = record {
      left = k;
      enough = omega (arith, r.enough);
      reads = λ t.
          let d : n / 10 * 10 + n % 10 ≡ n = omega arith in
          rw (decimal-last n g, append_assoc) (r.reads ((48 + n % 10) ∷ t) ∙ rw (e, digits_step k (n / 10) (n % 10) t (omega arith), d));
    }

-- A number of five digits at most is read from its decimal form.
pub number-decimal : (n : ℕ) (t : List ℕ) → n < 100000 → no_digit t ≡ true → number (decimal n ++ t) ≡ got n t
unfolding number digits decimal
number-decimal zero t h e = refl
number-decimal (suc n) t h e = let r = starts 4 (suc n) (omega arith) h (omega arith) in r.reads t ∙ digits-end r.left (suc n) t e

pub then-number : {B : Type 0} (n : ℕ) (t : List ℕ) (f : ℕ → Rule B) → fits n ≡ true → no_digit t ≡ true → then (number (decimal n ++ t)) f ≡ f n t
then-number n t f h e = then-got f (number-decimal n t (ltb-true n 100000 h) e)

-- ---- what is read is written again
-- n stands at the start of s, before t
pub record Written (n : ℕ) (s t : List ℕ) : Type 0 where
  pub text : s ≡ decimal n ++ t
  pub below : fits n ≡ true

digits-written : (k v n : ℕ) (s t : List ℕ) → 0 < v → k ≤ 4 → v < cap k → digits_after k v s ≡ got n t → Written n (decimal v ++ s) t
unfolding digits_after
digits-written zero v n s t h l m e = let q : v ≡ n = cc in record { text = cc; below = lt-ltb n 100000 (omega arith) }
digits-written (suc k) v n [] t h l m e = let q : v ≡ n = cc in record { text = cc; below = lt-ltb n 100000 (omega (arith, cap-all (suc k) v m)) }
digits-written (suc k) v n (b ∷ s) t h l m e =
    go (is_digit b) refl (λ w. digits-written k (v * 10 + (b - 48)) n s t (omega arith) (omega arith) w)
  where
    stop : is_digit b ≡ false → Written n (decimal v ++ b ∷ s) t
    stop d = let f : ◌≡◌ {A = Got ℕ} (got v (b ∷ s)) (got n t) = rw d at e in let q : v ≡ n = cc in record { text = cc; below = lt-ltb n 100000 (omega (arith, cap-all (suc k) v m)) }

    go : (c : Bool) → is_digit b ≡ c → (v * 10 + (b - 48) < cap k → digits_after k (v * 10 + (b - 48)) s ≡ got n t → Written n (decimal (v * 10 + (b - 48)) ++ s) t) → Written n (decimal v ++ b ∷ s) t
    go false d more = stop d
    go true d more =
        let lo = digit_low b d in
        let hi = digit-high b d in
        let j : suc k - 1 ≡ k = omega arith in
        let c : 48 + (b - 48) ≡ b = omega arith in
        let w = more (rw j at (cap-go (suc k) v (b - 48) (omega arith) l m (omega arith))) (rw d at e) in
        let same : decimal (v * 10 + (b - 48)) ++ s ≡ decimal v ++ b ∷ s = rw (decimal-more v (b - 48) h (omega arith), c, append_assoc) in
        record { text = sym same ∙ w.text; below = w.below }

-- A number that was read has five digits at most, and its decimal form is the very bytes read.
pub number-written : (n : ℕ) (s t : List ℕ) → number s ≡ got n t → Written n s t
unfolding number digits decimal
number-written n [] t e = never-got e
number-written n (b ∷ s) t e = test (is_digit b) (λ d. test (eqb b 48) (λ z. zero-digit d z) (λ z. more-digits d z)) (λ d. never-got (rw d at e))
  where
    zero-digit : is_digit b ≡ true → eqb b 48 ≡ true → Written n (b ∷ s) t
    zero-digit d z =
        let f : ◌≡◌ {A = Got ℕ} (got 0 s) (got n t) = rw (d, z) at e in
        let q : 0 ≡ n = cc in
        let c = eqb-true b 48 z in
        record { text = rw (← q) (cc); below = lt-ltb n 100000 (omega arith) }

    more-digits : is_digit b ≡ true → eqb b 48 ≡ false → Written n (b ∷ s) t
    more-digits d z =
        let lo = digit_low b d in
        let hi = digit-high b d in
        let ne = eqb-false b 48 z in
        let c : 48 + (b - 48) ≡ b = omega arith in
        let w = digits-written 4 (b - 48) n s t (omega arith) (omega arith) (omega arith) (rw (d, z) at e) in
        record { text = rw (decimal-one (b - 48) (omega arith), c) at w.text; below = w.below }

-- ---- the shortest form
-- the value of digits, after those of v
abbrev pub value_after : ℕ → List ℕ → ℕ
value_after v [] = v
value_after v (b ∷ bs) = value_after (v * 10 + (b - 48)) bs

-- w is n in decimal, digits only, with no leading zero except 0 itself
pub record Shortest (n : ℕ) (w : List ℕ) : Type 0 where
  pub digits_only : every is_digit w ≡ true
  pub value : value_after 0 w ≡ n
  pub leading : 0 < n → 48 < get_or w 0 0
  pub zero_itself : n ≡ 0 → w ≡ 48 ∷ []

value-last : (v b : ℕ) (w : List ℕ) → value_after v (w ++ b ∷ []) ≡ value_after v w * 10 + (b - 48)
value-last v b [] = refl
value-last v b (c ∷ w) = value-last (v * 10 + (c - 48)) b w

first-stays : (w u : List ℕ) → 48 < get_or w 0 0 → 48 < get_or (w ++ u) 0 0
first-stays [] u h = absurd (omega arith)
first-stays (b ∷ w) u h = h

shortest : (m n : ℕ) → n < m → Shortest n (decimal n)
unfolding every
shortest zero n l = absurd (omega arith)
shortest (suc m) n l = cases 10 n
    (λ h.
    let r = shortest m (n / 10) (omega arith) in
    record {
      digits_only = rw (decimal-last n h) (every_append is_digit (decimal (n / 10)) ((48 + n % 10) ∷ []) r.digits_only (rw (is_digit_lem (n % 10) (omega arith))));
      value = rw (decimal-last n h) (omega (arith, value-last 0 (48 + n % 10) (decimal (n / 10)), r.value));
      leading = λ p. rw (decimal-last n h) (first-stays (decimal (n / 10)) ((48 + n % 10) ∷ []) (r.leading (omega arith)));
      zero_itself = λ z. absurd (omega arith);
    })
    (λ h. record {
      digits_only = rw (decimal-one n h, is_digit_lem n h);
      value = rw (decimal-one n h) (omega arith);
      leading = λ p. rw (decimal-one n h) (omega arith);
      zero_itself = λ z. rw (decimal-one n h, z);
    })

pub decimal-shortest : (n : ℕ) → Shortest n (decimal n)
decimal-shortest n = shortest (suc n) n (omega arith)

-- no other text is that
digits_value : (v : ℕ) (w : List ℕ) → 0 < v → every is_digit w ≡ true → decimal (value_after v w) ≡ decimal v ++ w
digits_value v [] h e = sym (append-nil (decimal v))
digits_value v (b ∷ w) h e =
    let k = every_one is_digit b w e in
    let lo = digit_low b k.0 in
    let hi = digit-high b k.0 in
    let c : 48 + (b - 48) ≡ b = omega arith in
    digits_value (v * 10 + (b - 48)) w (omega arith) k.1 ∙ rw (decimal-more v (b - 48) h (omega arith), c, append_assoc)

pub shortest-only : (n : ℕ) (w : List ℕ) → Shortest n w → w ≡ decimal n
shortest-only zero w h = h.zero_itself refl ∙ sym (decimal-one 0 (omega arith))
shortest-only (suc n) [] h = absurd (omega (arith, h.leading (omega arith)))
shortest-only (suc n) (b ∷ w) h =
    let k = every_one is_digit b w h.digits_only in
    let lo = h.leading (omega arith) in
    let hi = digit-high b k.0 in
    let c : 48 + (b - 48) ≡ b = omega arith in
    let z : 0 * 10 + (b - 48) ≡ b - 48 = omega arith in
    sym (rw (← h.value) (rw z (digits_value (b - 48) w (omega arith) k.1 ∙ rw (decimal-one (b - 48) (omega arith), c))))

-- and no digits of the same value are fewer
pub decimal-least : (w : List ℕ) → 0 < length w → every is_digit w ≡ true → length (decimal (value_after 0 w)) ≤ length w
decimal-least [] h e = absurd (omega arith)
decimal-least (b ∷ []) h e =
    let hi = digit-high b (every_one is_digit b [] e).0 in
    rw (decimal-one (0 * 10 + (b - 48)) (omega arith)) (omega arith)
decimal-least (b ∷ c ∷ w) h e = let k = every_one is_digit b (c ∷ w) e in cases b 48
    (λ l. let z : 0 * 10 + (b - 48) ≡ 0 = omega arith in rw z (omega (arith, decimal-least (c ∷ w) (omega arith) k.1)))
    (λ l.
    let hi = digit-high b k.0 in
    let z : 0 * 10 + (b - 48) ≡ b - 48 = omega arith in
    rw (z, digits_value (b - 48) (c ∷ w) (omega arith) k.1, decimal-one (b - 48) (omega arith)) (omega arith))

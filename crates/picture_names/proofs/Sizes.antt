-- What is proved of accepted names: as many as vertices, none of a line empty, all together no longer than the text.
use mathlib.Core.Path.{◌≡◌, refl, ◌∙◌}
use mathlib.Core.Bool.{Bool, true, cond, ◌&&◌}
use mathlib.Core.List.{List, [], ◌∷◌, map}
use Prim.Native.Nat.{ℕ, zero, suc, ◌+◌, ◌≤◌, ◌<◌}
use native.Mathlib.Omega.{arith}
use lib.Dec.{leb, eqb}
use lib.ListN.{length, get_or, set, replicate, length-replicate}
use borrow.Author.Tests.{leb-true}
use Rattle.ints.specs.Lists.{sum}
use Rattle.ints.proofs.Laws.{if-ind}
use Rattle.ints.proofs.Tests.{and_left, and_right}
use Rattle.text.specs.Parser.{Got, got, nothing, then, word, number, digits_after, is_digit}
use Rattle.text.specs.Bytes.{bytes}
use Rattle.script_words.specs.Parts.{parts, onto}
use Rattle.picture_names.specs.Chars.{is_name}
use Rattle.picture_names.specs.Names.{Names, bad, named, is_empty, number_of, is_box, is_good, with, names_from, lines_named, names_of, max_names}
use Rattle.picture_names.proofs.CharLaws.{empty-not}
use Rattle.picture_names.proofs.NameLaws.{with-long}

-- ---- what a rule leaves is no longer than what it was given
abbrev Leaves : {A : Type 0} → Got A → ℕ → Type 0
Leaves (got a t) n = length t ≤ n
Leaves nothing n = Unit {0}

digits-leave : (n v : ℕ) (s : List ℕ) (m : ℕ) → length s ≤ m → Leaves (digits_after n v s) m
unfolding digits_after
digits-leave zero v s m h = h
digits-leave (suc n) v [] m h = h
digits-leave (suc n) v (b ∷ s) m h =
    if-ind (is_digit b) (digits_after n _ s) (got v (b ∷ s)) (λ g. Leaves g m) (λ e. digits-leave n _ s m (omega arith)) (λ e. h)

number-leaves : (s : List ℕ) → Leaves (number s) (length s)
unfolding number
number-leaves [] = tt
number-leaves (b ∷ s) =
    if-ind (is_digit b) _ nothing (λ g. Leaves g (suc (length s)))
    (λ e. if-ind (eqb b 48) (got 0 s) _ (λ g. Leaves g (suc (length s))) (λ q. omega arith) (λ q. digits-leave 4 _ s (suc (length s)) (omega arith)))
    (λ e. tt)

word-leaves : (w s : List ℕ) (m : ℕ) → length s ≤ m → Leaves (word w s) m
unfolding word
word-leaves [] s m h = h
word-leaves (a ∷ w) [] m h = tt
word-leaves (a ∷ w) (b ∷ s) m h = if-ind (eqb a b) (word w s) nothing (λ g. Leaves g m) (λ e. word-leaves w s m (omega arith)) (λ e. tt)

then-leaves : (g : Got ℕ) (m : ℕ) → Leaves g m → Leaves (then g (λ n t. then (word (bytes " ") t) (λ _ u. got n u))) m
then-leaves nothing m h = tt
then-leaves (got n t) m h = go (word (bytes " ") t) (word-leaves (bytes " ") t m h)
  where
    go : (k : Got (Unit {0})) → Leaves k m → Leaves (then k (λ _ u. got n u)) m
    go nothing h = tt
    go (got x u) h = h

line-leaves : (l : List ℕ) → Leaves (number_of l) (length l)
unfolding number_of
line-leaves l = then-leaves (number l) (length l) (number-leaves l)

-- ---- the lengths of names
abbrev pub lengths : List (List ℕ) → ℕ
lengths l = sum (map length l)

none-long : (n : ℕ) → lengths (replicate n []) ≡ 0
unfolding sum
none-long zero = refl
none-long (suc n) = omega (arith, none-long n)

set_long : (l : List (List ℕ)) (v : ℕ) (name : List ℕ) → is_empty (get_or l v []) ≡ true → lengths (set l v name) ≤ lengths l + length name
unfolding sum
set_long [] v name e = omega arith
set_long ([] ∷ l) zero name e = omega arith
set_long ((x ∷ y) ∷ l) zero name e = let z : ◌≡◌ {A = ℕ} 0 1 = cc in absurd (omega arith)
set_long (x ∷ l) (suc v) name e = omega (arith, set_long l v name e)

with-lengths : (vias : List Bool) (l : List (List ℕ)) (g : Got ℕ) (m : ℕ) → Leaves g m → is_good vias l g ≡ true → lengths (with l g) ≤ lengths l + m
with-lengths vias l nothing m h e = omega arith
with-lengths vias l (got n name) m h e =
    omega (arith, set_long l n name (and_right (is_box vias n) (is_empty (get_or l n [])) (and_right (is_name name) (is_box vias n && is_empty (get_or l n [])) e)))

onto-lengths : (b : ℕ) (ws : List (List ℕ)) → lengths (onto (b ∷ []) ws) ≡ suc (lengths ws)
unfolding sum
onto-lengths b [] = omega arith
onto-lengths b (w ∷ ws) = omega arith

pub parts-lengths : (sep : ℕ) (s : List ℕ) → lengths (parts sep s) ≤ length s
unfolding sum parts
parts-lengths sep [] = omega arith
parts-lengths sep (b ∷ s) =
    if-ind (eqb b sep) ([] ∷ parts sep s) (onto (b ∷ []) (parts sep s)) (λ ws. lengths ws ≤ suc (length s)) (λ e. omega (arith, parts-lengths sep s))
    (λ e. omega (arith, parts-lengths sep s, onto-lengths b (parts sep s)))

-- ---- all lines
pub record Sized (n m : ℕ) (l : List (List ℕ)) : Type 0 where
  pub count : length l ≡ n
  pub short : lengths l ≤ m

abbrev SizedIf : ℕ → ℕ → Names → Type 0
SizedIf n m (bad k) = Unit {0}
SizedIf n m (named l) = Sized n m l

from-sized : (n : ℕ) (vias : List Bool) (l ls : List (List ℕ)) → SizedIf (length l) (lengths l + lengths ls) (names_from n vias l ls)
unfolding names_from sum
from-sized n vias l [] = record { count = refl; short = omega arith }
from-sized n vias l (p ∷ ls) =
    let more = names_from (suc n) vias (with l (number_of p)) ls in
    let all = lengths l + (length p + lengths ls) in
    if-ind (is_empty ls) (cond (is_empty p) (named l) (bad n)) (cond (is_good vias l (number_of p)) more (bad n)) (SizedIf (length l) all)
    (λ e. if-ind (is_empty p) (named l) (bad n) (SizedIf (length l) all) (λ q. record { count = refl; short = omega arith }) (λ q. tt))
    (λ e. if-ind (is_good vias l (number_of p)) more (bad n) (SizedIf (length l) all)
    (λ q. wider (with-long l (number_of p)) (omega (arith, with-lengths vias l (number_of p) (length p) (line-leaves p) q)) more (from-sized (suc n) vias (with l (number_of p)) ls)) (λ q. tt))
  where
    wider : {a b m k : ℕ} → a ≡ b → m ≤ k → (r : Names) → SizedIf a m r → SizedIf b k r
    wider e h (bad i) s = tt
    wider e h (named i) s = record { count = s.count ∙ e; short = omega (arith, h, s.short) }

pub names-sized : (vias : List Bool) (s : List ℕ) {l : List (List ℕ)} → names_of vias s ≡ named l → Sized (length vias) max_names l
unfolding names_of
names-sized vias s {l} e = rw e at (if-ind (leb (length s) max_names) (lines_named vias s) (bad 0) (SizedIf (length vias) max_names) (λ q. good (leb-true (length s) max_names q)) (λ q. tt))
  where
    good : length s ≤ max_names → SizedIf (length vias) max_names (lines_named vias s)
    good h = wide (lines_named vias s) (from-sized 1 vias (replicate (length vias) []) (parts 10 s))
      where
        wide : (r : Names) → SizedIf (length (replicate {A = List ℕ} (length vias) [])) (lengths (replicate (length vias) []) + lengths (parts 10 s)) r → SizedIf (length vias) max_names r
        wide (bad i) t = tt
        wide (named i) t = record { count = t.count ∙ length-replicate (length vias) []; short = omega (arith, t.short, none-long (length vias), parts-lengths 10 s, h) }

-- "no accepted name is empty": a line is good only with a name, which has a byte
pub good-name : (vias : List Bool) (l : List (List ℕ)) (n : ℕ) (name : List ℕ) → is_good vias l (got n name) ≡ true → 0 < length name
good-name vias l n [] e = let q = and_left (is_name []) (is_box vias n && is_empty (get_or l n [])) e in let z : ◌≡◌ {A = ℕ} 0 1 = cc empty-not in absurd (omega arith)
good-name vias l n (b ∷ name) e = omega arith

-- Grammar rules: what a rule finds at the start of a text, and how rules follow one another.
use Rattle.std.specs.Prelude.{Bool, cond, ◌&&◌, List, [], ◌∷◌, ℕ, zero, suc, ◌+◌, ◌-◌, ◌*◌, leb, eqb}

-- A value and the rest of the text, or nothing.
pub data Got (A : Type 0) : Type 0 where
  got : A → List ℕ → Got A
  nothing : Got A

abbrev pub Rule : Type 0 → Type 0
Rule A = List ℕ → Got A

-- A rule that finds the value a and takes nothing.
abbrev pub give : {A : Type 0} → A → Rule A
give a s = got a s

-- One rule after another: the second may use what the first found.
abbrev pub then : {A B : Type 0} → Got A → (A → Rule B) → Got B
then (got a s) f = f a s
then nothing f = nothing

abbrev pub ◌>>=◌ : {A B : Type 0} → Rule A → (A → Rule B) → Rule B
◌>>=◌ r f = λ s. then (r s) f

abbrev pub ◌>>◌ : {A B : Type 0} → Rule A → Rule B → Rule B
◌>>◌ r q = λ s. then (r s) (λ a. q)

-- The first rule, or the second where the first finds nothing.
abbrev pub or_else : {A : Type 0} → Got A → Got A → Got A
or_else (got a s) g = got a s
or_else nothing g = g

abbrev pub either : {A : Type 0} → Rule A → Rule A → Rule A
either r q = λ s. let other = q s in or_else (r s) other

-- The word w.
unfoldable pub word : List ℕ → Rule (Unit {0})
word [] s = got tt s
word (w ∷ ws) [] = nothing
word (w ∷ ws) (b ∷ s) =
    let more = word ws s in
    cond (eqb w b) more nothing

-- As many times as the rule finds something, at most n times.
abbrev pub again : {A : Type 0} → Got A → List ℕ → (List ℕ → Got (List A)) → Got (List A)
again nothing s more = got [] s
again (got a t) s more = then (more t) (λ l u. got (a ∷ l) u)

unfoldable pub many : {A : Type 0} → ℕ → Rule A → Rule (List A)
many zero r s = got [] s
many (suc n) r s = again (r s) s (λ t. many n r t)

-- "Numbers are decimal, one to five digits, no leading zero except 0 itself."
abbrev pub is_digit : ℕ → Bool
is_digit b = leb 48 b && leb b 57

-- At most n digits more, after digits of the value v.
unfoldable pub digits_after : ℕ → ℕ → Rule ℕ
digits_after zero v s = got v s
digits_after (suc n) v [] = got v []
digits_after (suc n) v (b ∷ s) =
    let more = digits_after n (v * 10 + (b - 48)) s in
    cond (is_digit b) more (got v (b ∷ s))

unfoldable pub number : Rule ℕ
number [] = nothing
number (b ∷ s) =
    let more = digits_after 4 (b - 48) s in
    let some = cond (eqb b 48) (got 0 s) more in
    cond (is_digit b) some nothing

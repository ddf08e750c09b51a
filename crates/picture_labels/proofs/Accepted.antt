-- A name that is accepted has a column: of its widest word the greater of 1 and its columns are its columns.
use mathlib.Core.Path.{◌≡◌, refl, ◌∙◌, ap}
use mathlib.Core.Bool.{true, false}
use mathlib.Core.List.{List, [], ◌∷◌, map}
use Prim.Native.Nat.{ℕ, ◌≤◌, ◌<◌, min, max}
use native.Mathlib.Omega.{arith}
use borrow.Author.Tests.{le-leb, lt-leb, ne_eqb}
use Rattle.ints.specs.Lists.{greatest}
use Rattle.ints.proofs.Laws.{cases}
use Rattle.script_words.specs.Parts.{parts, onto}
use Rattle.picture_names.specs.Chars.{begun, seen_more, seen_after, is_whole, is_name}
use Rattle.picture_names.specs.declared.types.Seen.TheVariants.{Bad}
use Rattle.picture_rows.specs.Rows.{columns_of, columns, widest}
use Rattle.picture_rows.proofs.ColumnLaws.{col-ascii, col-two, col-more, columns-append, columns-one}

bad-stays : (s : List ℕ) → seen_after Bad s ≡ Bad
unfolding seen_after seen_more
bad-stays [] = refl
bad-stays (b ∷ s) = bad-stays s

first_good : (b : ℕ) (s : List ℕ) → is_name (b ∷ s) ≡ true → begun b ≡ Bad → ⊥
unfolding is_name seen_after seen_more
first_good b s e q =
    let f : is_whole (seen_after (begun b) s) ≡ false = ap is_whole (ap (λ t. seen_after t s) q ∙ bad-stays s) in
    let z : ◌≡◌ {A = ℕ} 0 1 = cc in
    omega arith

low-bad : (b : ℕ) → b ≤ 0x20 → begun b ≡ Bad
unfolding begun
low-bad b h = rw (le-leb b 0x20 h)

later-bad : (b : ℕ) → 0x80 ≤ b → b < 0xC0 → begun b ≡ Bad
unfolding begun
later-bad b h k = rw (lt-leb b 0x20 (omega arith), lt-leb b 0x7E (omega arith), le-leb b 0xC1 (omega arith))

-- a byte that begins a character has a column
first-wide : (b : ℕ) → (begun b ≡ Bad → ⊥) → 1 ≤ columns_of b
first-wide b n =
    cases 0x80 b
    (λ h. cases 0xC0 b (λ k. cases 0xE0 b (λ l. omega (arith, col-more b l)) (λ l. omega (arith, col-two b k l))) (λ k. absurd (n (later-bad b h k))))
    (λ h. omega (arith, col-ascii b h))

onto-wide : (b : ℕ) (ws : List (List ℕ)) → columns_of b ≤ greatest (map columns (onto (b ∷ []) ws))
unfolding greatest
onto-wide b [] = omega (arith, columns-one b)
onto-wide b (w ∷ ws) = omega (arith, columns-append (b ∷ []) w, columns-one b)

word_wide : (b : ℕ) (s : List ℕ) → (b ≡ 32 → ⊥) → columns_of b ≤ widest (b ∷ s)
unfolding widest parts
word_wide b s n = rw (ne_eqb b 32 n) (onto-wide b (parts 32 s))

pub accepted-wide : (name : List ℕ) → is_name name ≡ true → 1 ≤ widest name
unfolding is_name seen_after
accepted-wide [] e = let z : ◌≡◌ {A = ℕ} 0 1 = cc in absurd (omega arith)
accepted-wide (b ∷ s) e =
    let n = first_good b s e in
    omega (arith, first-wide b n, word_wide b s (λ q. n (low-bad b (omega arith))))

pub accepted-asked : (name : List ℕ) → is_name name ≡ true → max 1 (min 12 (widest name)) ≡ min 12 (widest name)
accepted-asked name e = omega (arith, accepted-wide name e)

-- TEXT at the end of a line: "`\n \t \r \\ \x_hh` for bytes"; every other byte stands for itself.
use Rattle.std.specs.Prelude.{Bool, cond, ◌&&◌, List, [], ◌∷◌, ℕ, ◌+◌, ◌-◌, ◌*◌, ltb, eqb}
use Rattle.std.proofs.Math.Option.{Option, none, some}
use Rattle.plan.specs.Limits.{within}

-- A byte before a text.
abbrev pub follows : ℕ → Option (List ℕ) → Option (List ℕ)
follows b none = none
follows b (some t) = some (b ∷ t)

-- What a hexadecimal digit of either case stands for; 16 if it is none.
unfoldable pub hex_value : ℕ → ℕ
hex_value b = cond (within 48 57 b) (b - 48) (cond (within 65 70 b) (b - 55) (cond (within 97 102 b) (b - 87) 16))

abbrev pub is_hex : ℕ → Bool
is_hex b = ltb (hex_value b) 16

-- The bytes that a text stands for; none if it has a backslash with anything else after it.
unfoldable mutual
  pub unescaped : List ℕ → Option (List ℕ)
  unescaped [] = some []
  unescaped (b ∷ s) =
      let plain = follows b (unescaped s) in
      let other = escaped s in
      cond (eqb b 92) other plain

  -- After a backslash,
  pub escaped : List ℕ → Option (List ℕ)
  escaped [] = none
  escaped (c ∷ s) =
      let n = follows 10 (unescaped s) in
      let t = follows 9 (unescaped s) in
      let r = follows 13 (unescaped s) in
      let backslash = follows 92 (unescaped s) in
      let x = hexadecimal s in
      let not_r = cond (eqb c 92) backslash (cond (eqb c 120) x none) in
      let not_t = cond (eqb c 114) r not_r in
      let not_n = cond (eqb c 116) t not_t in
      cond (eqb c 110) n not_n

  -- after a backslash and an x.
  pub hexadecimal : List ℕ → Option (List ℕ)
  hexadecimal [] = none
  hexadecimal (h ∷ []) = none
  hexadecimal (h ∷ l ∷ s) =
      let byte = follows (16 * hex_value h + hex_value l) (unescaped s) in
      cond (is_hex h && is_hex l) byte none

-- Where the part of s that begins at `from` ends: at a separator, or at the end of s.
use Rattle.std.specs.Prelude.{◌≡◌, List, [], ◌∷◌, ℕ, ◌+◌, ◌-◌, ◌≤◌, ◌<◌, length, take, drop}
use Rattle.script_words.specs.Parts.{parts}

-- s from one place to another.
abbrev pub between : ℕ → ℕ → List ℕ → List ℕ
between from to s = take (to - from) (drop from s)

pub record PartEnds (sep : ℕ) (s : List ℕ) (from to : ℕ) : Type 0 where
  pub onward : from ≤ to
  pub inside : to ≤ length s
  pub last : length s ≤ to → parts sep (drop from s) ≡ between from to s ∷ []
  pub cut : to < length s → parts sep (drop from s) ≡ between from to s ∷ parts sep (drop (to + 1) s)

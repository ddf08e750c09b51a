-- Positions and ratings side by side: each of the two lists again, cut in two, and less an offset. Assumes nothing.
use mathlib.Core.Path.{◌≡◌, refl, sym, ap}
use mathlib.Core.List.{List, [], ◌∷◌, map}
use Prim.Native.Nat.{ℕ, zero, suc, ◌+◌, ◌≤◌}
use native.Mathlib.Omega.{arith}
use lib.ListN.{length, take, drop}
use lib.IntN.{ℤ}
use Rattle.ints.specs.Lists.{sum}
use Rattle.run.specs.Run.{Lead, lead_positions, leads_of, total_rating}
use Rattle.run.specs.inner.Coordinates.{less, less_lead}

-- ---- each of the two lists
pub lead-positions : (xs : List ℤ) (ws : List ℕ) → length xs ≤ length ws → lead_positions (leads_of xs ws) ≡ xs
unfolding leads_of
lead-positions [] ws h = refl
lead-positions (x ∷ xs) [] h = absurd (omega arith)
lead-positions (x ∷ xs) (w ∷ ws) h = ap (λ ys. x ∷ ys) (lead-positions xs ws (omega arith))

pub total-leads : (xs : List ℤ) (ws : List ℕ) → length ws ≤ length xs → total_rating (leads_of xs ws) ≡ sum ws
unfolding leads_of total_rating sum
total-leads [] [] h = refl
total-leads [] (w ∷ ws) h = absurd (omega arith)
total-leads (x ∷ xs) [] h = refl
total-leads (x ∷ xs) (w ∷ ws) h = ap (λ (n : ℕ). w + n) (total-leads xs ws (omega arith))

pub length-leads : (xs : List ℤ) (ws : List ℕ) → length xs ≤ length ws → length (leads_of xs ws) ≡ length xs
unfolding leads_of
length-leads [] ws h = refl
length-leads (x ∷ xs) [] h = absurd (omega arith)
length-leads (x ∷ xs) (w ∷ ws) h = ap suc (length-leads xs ws (omega arith))

-- ---- cut in two
no-leads : (xs : List ℤ) → leads_of xs [] ≡ []
unfolding leads_of
no-leads [] = refl
no-leads (x ∷ xs) = refl

pub leads-take : (n : ℕ) (xs : List ℤ) (ws : List ℕ) → take n (leads_of xs ws) ≡ leads_of (take n xs) (take n ws)
unfolding leads_of
leads-take zero xs ws = refl
leads-take (suc n) [] ws = refl
leads-take (suc n) (x ∷ xs) [] = refl
leads-take (suc n) (x ∷ xs) (w ∷ ws) = ap (λ (ls : List Lead). record { at = x; rating = w } ∷ ls) (leads-take n xs ws)

pub leads-drop : (n : ℕ) (xs : List ℤ) (ws : List ℕ) → drop n (leads_of xs ws) ≡ leads_of (drop n xs) (drop n ws)
unfolding leads_of
leads-drop zero xs ws = refl
leads-drop (suc n) [] ws = refl
leads-drop (suc n) (x ∷ xs) [] = sym (no-leads (drop n xs))
leads-drop (suc n) (x ∷ xs) (w ∷ ws) = leads-drop n xs ws

-- ---- less an offset
pub leads-less : (o : ℕ) (xs : List ℤ) (ws : List ℕ) → map (less_lead o) (leads_of xs ws) ≡ leads_of (map (less o) xs) ws
unfolding leads_of
leads-less o [] ws = refl
leads-less o (x ∷ xs) [] = refl
leads-less o (x ∷ xs) (w ∷ ws) = ap (λ (ls : List Lead). record { at = less o x; rating = w } ∷ ls) (leads-less o xs ws)

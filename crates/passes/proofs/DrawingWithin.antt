-- The drawing lies within ±2^40, and its list within its limits. Assumes nothing.
use mathlib.Core.Path.{◌≡◌, sym, ◌∙◌, ap, subst}
use mathlib.Core.Bool.{Bool, true, ◌&&◌}
use mathlib.Core.List.{List, [], ◌++◌, append_assoc, append-nil}
use Prim.Native.Nat.{ℕ, ◌+◌, ◌*◌, ◌≤◌}
use native.Mathlib.Omega.{arith}
use borrow.Author.Tests.{le-leb}
use lib.ListN.{length, get_or, length-append, get_or-eq_default}
use lib.IntN.{ℤ, pos}
use Rattle.ints.proofs.Laws.{apart, cases}
use Rattle.ints.proofs.Reach.{within-make, within-each}
use Rattle.plan.specs.Plan.{PlanData, vertex_count}
use Rattle.preliminary.specs.Positions.{preliminary}
use Rattle.passes.specs.State.{position_of, start_at}
use Rattle.passes.specs.Drawing.{listed, drawing_of}
use Rattle.ints.specs.Reach.{reach, is_within, all_within}
use Rattle.passes.specs.Words.{boxes_listed, max_listed, drawing_within}
use Rattle.plan.proofs.All.{All, all_nil, all_map, all_left, all-get, all-of-get}
use Rattle.passes.proofs.Sound.{Sound, sound}
use Rattle.passes.specs.inner.Schedule.{Visit, visit_all, first_pass, second_pass, third_pass, start}
use Rattle.passes.proofs.Schedule.{visit-append, first-visits, second-visits, third-visits}
use Rattle.passes.proofs.Moments.{final, drawing, drawing-is}
use Rattle.passes.proofs.Reach.{Lies}
use Rattle.passes.proofs.Growth.{LiesAt, lies-at-more}
use Rattle.passes.proofs.Within.{grow_first, grow-second, grow-third, grow-all}
use Rattle.passes.proofs.Tally.{first-length, second-length}
use Rattle.passes.proofs.Listed.{final-load, listed-boxes, listed-count, listed-all}
use Rattle.passes.proofs.Preliminary.{Preliminary}
use Rattle.plan.specs.Acceptable.{acceptable}
use Rattle.passes.proofs.Kept.{kept}

-- ---- pass by pass: 2^26 at the start, 1,088 × 64,000 more in pass 1, 1,088 times the double of that and 1,000 in pass 2
abbrev after_one : ℕ
after_one = 136740864

abbrev after_two : ℕ
after_two = 297685948928

module _ {p : PlanData} (so : Sound p) (pre : Preliminary p) where
  preliminary-lies : (v : ℕ) → Lies 67108864 67108864 (position_of (preliminary p) v)
  preliminary-lies v = cases (vertex_count p) v
      (λ h. rw (get_or-eq_default (preliminary p) (pos 0) {n = v} (omega (arith, pre.long))) (record { right = omega arith; left = omega arith }))
      (λ h. record { right = omega (arith, pre.small v h); left = omega (arith, pre.small v h) })

  start-lies : LiesAt 67108864 (start p)
  unfolding start_at
  start-lies = record { at = preliminary-lies; steps = all_nil }

  first-lies : (a b : List Visit) → first_pass p ≡ a ++ b → LiesAt after_one (visit_all p a (start p))
  unfolding visit_all
  first-lies a b e = let g = grow-all p 1 64000 (grow_first so pre) [] (b ++ (second_pass p ++ third_pass p)) 67108864
      (append_assoc (first_pass p) (second_pass p) (third_pass p) ∙ ap (λ vs. vs ++ (second_pass p ++ third_pass p)) e ∙ append_assoc a b (second_pass p ++ third_pass p))
      (all_left a b (subst (All (λ w. w.pass ≡ 1)) e (all_map (λ w i. i.pass) (first-visits p)))) start-lies in
      lies-at-more after_one (omega (arith, first-length so, length-append a b, ap length e)) g

  second-lies : LiesAt after_two (visit_all p (first_pass p ++ second_pass p) (start p))
  second-lies = let g = grow-all p 2 (2 * after_one + 1000) (λ w past coming e M z l. grow-second so pre w past coming e after_one M first-lies z l) (first_pass p) (third_pass p) after_one
      (append_assoc (first_pass p) (second_pass p) (third_pass p)) (all_map (λ w i. i.pass) (second-visits p)) (first-lies (first_pass p) [] (sym (append-nil (first_pass p)))) in
      rw (visit-append p (first_pass p) (second_pass p) (start p)) (lies-at-more after_two (omega (arith, second-length so)) g)

  pub final-lies : LiesAt after_two (final p)
  final-lies = let g = grow-all p 3 0 (grow-third so pre) (first_pass p ++ second_pass p) [] after_two (ap (λ vs. first_pass p ++ second_pass p ++ vs) (sym (append-nil (third_pass p))))
      (all_map (λ w i. i.pass) (third-visits p)) second-lies in
      rw (visit-append p (first_pass p ++ second_pass p) (third_pass p) (start p)) (lies-at-more after_two (omega arith) g)

-- ---- the test
pub within-lies : (M : ℕ) → M ≤ reach → (z : ℤ) → Lies M M z → is_within z ≡ true
within-lies M h z l = within-make z (omega (arith, l.right, l.left, apart z))

lies_within : (M : ℕ) → M ≤ reach → {xs : List ℤ} → All (Lies M M) xs → all_within xs ≡ true
lies_within M h {xs} a = within-each xs (λ i k. within-lies M h (get_or xs i (pos 0)) (all-get xs (pos 0) a i k))

five : (a b c d e : Bool) → a ≡ true → b ≡ true → c ≡ true → d ≡ true → e ≡ true → a && b && c && d && e ≡ true
five a b c d e f g h i j = rw (f, g, h, i, j)

pub drawing-within : {p : PlanData} → Sound p → Preliminary p → drawing_within (record { preliminary = preliminary p; final = (final p).at; placings = listed p (final p).trace }) ≡ true
unfolding drawing_within
drawing-within {p} so pre = let l = final-lies so pre in let ss = (final p).trace in let bs = boxes_listed (listed p ss) in
    let n : length bs ≤ max_listed = omega (arith, listed-boxes p ss, final-load so pre) in
    five _ _ _ _ _ (lies_within 67108864 (omega arith) (all-of-get (preliminary p) (pos 0) (λ v h. preliminary-lies so pre v)))
    (lies_within after_two (omega arith) (all-of-get (final p).at (pos 0) (λ v h. l.at v))) (lies_within after_two (omega arith) (listed-all p l.steps))
    (le-leb (length (listed p ss)) max_listed (omega (arith, listed-count p ss))) (le-leb (length bs) max_listed n)

pub drawn-within : (p : PlanData) → acceptable p ≡ true → drawing_within (drawing_of p) ≡ true
unfolding drawing
drawn-within p ok = ap drawing_within (drawing-is p) ∙ drawing-within (sound p ok) (kept p ok)

-- Lists longer than any lawful one are refused with 8, cut or not, and so is an answer buffer that is too long: what the call
-- place-run answers to a request does not change when only so much of its lists is left as buffers of 65 (66 distances, 2,049
-- neighbours and ratings) and more have room for. A list of which less than the room is left was not cut at all. Assumes nothing.
use mathlib.Core.Path.{◌≡◌, sym, ◌∙◌, ap}
use mathlib.Core.Bool.{true, false, ◌&&◌}
use mathlib.Core.List.{List}
use Prim.Native.Nat.{ℕ, ◌+◌, ◌-◌, ◌≤◌, ◌<◌, min}
use native.Mathlib.Omega.{arith}
use native.Mathlib.Decide.{dec_lt}
use borrow.Author.Tests.{leb-true, eqb-true}
use lib.Dec.{leb, eqb}
use lib.ListN.{length, take, replicate, length-take, length-replicate}
use lib.Seq.{take_all}
use lib.IntN.{ℤ}
use Rattle.ints.specs.Lists.{sum}
use Rattle.ints.proofs.Tests.{test, and_left, and_right}
use Rattle.std.specs.Prelude.{Option, None, Some}
use Rattle.run.specs.Call.{Request, member_of, is_small, is_fitting, is_in_reach, is_sound, is_taken, out, call_of}
use Rattle.run.proofs.WhenRefused.{taken-row}
use Rattle.script_runs.specs.inner.Filled.{Buffers, shortened}

-- ---- what is said of lengths
record Sizes (q : Request) (answer : List ℤ) : Type 0 where
  few : q.boxes ≤ 64
  near : sum q.counts ≤ 2048
  answers : length answer ≡ q.boxes
  olds : length q.old ≡ q.boxes
  counts : length q.counts ≡ q.boxes
  neighbours : length q.neighbours ≡ sum q.counts
  ratings : length q.ratings ≡ sum q.counts
  distances : length q.distances ≡ member_of q.left + q.boxes + member_of q.right - 1

sizes : (q : Request) (answer : List ℤ) → is_taken q answer ≡ true → Sizes q answer
sizes q answer e =
    let a = eqb (length answer) q.boxes in
    let o = eqb (length q.old) q.boxes in
    let c = eqb (length q.counts) q.boxes in
    let n = eqb (length q.neighbours) (sum q.counts) in
    let w = eqb (length q.ratings) (sum q.counts) in
    let d = eqb (length q.distances) (member_of q.left + q.boxes + member_of q.right - 1) in
    let both = and_left (is_small q && is_fitting q answer) (is_in_reach q) (and_left (is_small q && is_fitting q answer && is_in_reach q) (is_sound q) (sym (taken-row q answer) ∙ e)) in
    let s = and_left (is_small q) (is_fitting q answer) both in
    let f = and_right (is_small q) (is_fitting q answer) both in
    let f5 = and_left (a && o && c && n && w) d f in
    let f4 = and_left (a && o && c && n) w f5 in
    let f3 = and_left (a && o && c) n f4 in
    let f2 = and_left (a && o) c f3 in
    record {
      few = leb-true q.boxes 64 (and_left (leb q.boxes 64) (leb (sum q.counts) 2048) s);
      near = leb-true (sum q.counts) 2048 (and_right (leb q.boxes 64) (leb (sum q.counts) 2048) s);
      answers = eqb-true (length answer) q.boxes (and_left a o f2);
      olds = eqb-true (length q.old) q.boxes (and_right a o f2);
      counts = eqb-true (length q.counts) q.boxes (and_right (a && o) c f3);
      neighbours = eqb-true (length q.neighbours) (sum q.counts) (and_right (a && o && c) n f4);
      ratings = eqb-true (length q.ratings) (sum q.counts) (and_right (a && o && c && n) w f5);
      distances = eqb-true (length q.distances) (member_of q.left + q.boxes + member_of q.right - 1) (and_right (a && o && c && n && w) d f);
    }

one-member : (b : Option ℤ) → member_of b ≤ 1
one-member None = omega arith
one-member (Some x) = omega arith

refused : (q : Request) (answer : List ℤ) → is_taken q answer ≡ false → call_of q answer ≡ out 8 answer
unfolding call_of
refused q answer e = rw e

not_taken : (q : Request) (answer : List ℤ) → 64 < length answer → is_taken q answer ≡ false
not_taken q answer h = test (is_taken q answer) (λ t. let s = sizes q answer t in absurd (omega (arith, s.few, s.answers))) (λ f. f)

-- ---- a list that is shorter than the room, or is so once it is cut, is not cut
uncut : {A : Type 0} (m : ℕ) (xs : List A) → length xs < m → take m xs ≡ xs
uncut m xs h = take_all m xs (omega arith)

uncut' : {A : Type 0} (m : ℕ) (xs : List A) → length (take m xs) < m → take m xs ≡ xs
uncut' m xs h = uncut m xs (omega (arith, simp length-take at h))

-- Rooms that hold one more than any lawful request.
pub record Roomy (b : Buffers) : Type 0 where
  pub old : 64 < length b.old
  pub distances : 65 < length b.distances
  pub counts : 64 < length b.counts
  pub neighbours : 2048 < length b.neighbours
  pub ratings : 2048 < length b.ratings

module _ (b : Buffers) (h : Roomy b) (q : Request) (answer : List ℤ) where
  -- ---- a request that is taken is whole, before and after
  whole_before : is_taken q answer ≡ true → shortened b q ≡ q
  whole_before t =
      let s = sizes q answer t in
      let o = uncut (length b.old) q.old (omega (arith, h.old, s.few, s.olds)) in
      let d = uncut (length b.distances) q.distances (omega
      (arith, h.distances, s.few, s.distances, one-member q.left, one-member q.right)) in
      let c = uncut (length b.counts) q.counts (omega (arith, h.counts, s.few, s.counts)) in
      let n = uncut (length b.neighbours) q.neighbours (omega (arith, h.neighbours, s.near, s.neighbours)) in
      let w = uncut (length b.ratings) q.ratings (omega (arith, h.ratings, s.near, s.ratings)) in
      rw (o, d, c, n, w)

  whole-after : is_taken (shortened b q) answer ≡ true → shortened b q ≡ q
  whole-after t =
      let s = sizes (shortened b q) answer t in
      let o = uncut' (length b.old) q.old (omega (arith, h.old, s.few, s.olds)) in
      let d = uncut' (length b.distances) q.distances (omega
      (arith, h.distances, s.few, s.distances, one-member q.left, one-member q.right)) in
      let c = uncut' (length b.counts) q.counts (omega (arith, h.counts, s.few, s.counts)) in
      let n = uncut' (length b.neighbours) q.neighbours (omega (arith, h.neighbours, s.near, s.neighbours)) in
      let w = uncut' (length b.ratings) q.ratings (omega (arith, h.ratings, s.near, s.ratings)) in
      rw (o, d, c, n, w)

  pub call-short : call_of (shortened b q) answer ≡ call_of q answer
  call-short =
      let same : shortened b q ≡ q → call_of (shortened b q) answer ≡ call_of q answer = λ e. ap (λ (r : Request). call_of r answer) e in
      test (is_taken q answer) (λ t. same (whole_before t))
      (λ f. test (is_taken (shortened b q) answer) (λ t. same (whole-after t)) (λ g. refused (shortened b q) answer g ∙ sym (refused q answer f)))

-- ---- the answer buffer
pub taken-room : (q : Request) (room : ℕ) (z : ℤ) → is_taken q (replicate (min room 65) z) ≡ is_taken q (replicate room z)
taken-room q room z = elim (dec_lt room 65) [
  | yes h ↦ let e : min room 65 ≡ room = omega arith in ap (λ (n : ℕ). is_taken q (replicate n z)) e
  | no h ↦
      not_taken q (replicate (min room 65) z) (omega (arith, length-replicate (min room 65) z))
      ∙ sym (not_taken q (replicate room z) (omega (arith, length-replicate room z)))
]

-- A script run twice: first to count its answers, then, if the buffer has room for them, to write them.
use mathlib.Core.Path.{◌≡◌, refl, sym, ◌∙◌}
use mathlib.Core.Bool.{Bool, true, false, cond}
use mathlib.Core.List.{List}
use Prim.Native.Nat.{ℕ, ◌+◌, ◌<◌, ◌^◌, min}
use native.Mathlib.Omega.{arith}
use borrow.Author.Tests.{lt-ltb, le-ltb, ltb-false, leb-true, leb-false}
use lib.Dec.{ltb}
use lib.ListN.{length, take, length-take}
use Rattle.std.specs.Prelude.{Ok, Err}
use Rattle.ints.specs.Refusals.{first_refusal, gives}
use Rattle.ints.specs.declared.refusal.Refusal.TheVariants as refusal
use Rattle.text.proofs.Words.{never}
use Rattle.text_scan.proofs.Stores.{sets_over}
use Rattle.sheet.specs.Results.{result_after}
use Rattle.sheet.specs.Calls.{Writes}
use Rattle.script_told.specs.Scripts.{script_answers, max_length, script_of}
use Rattle.script_told.specs.inner.Laid.{Lays}

module _ (script o : List ℕ) {room : ℕ} (e : room ≡ min max_length (length o)) {f : Bool} {z : ℕ} {p : List ℕ}
    (h : Lays (script_answers script) false room o 0 f z p) where
  abbrev text : List ℕ
  text = script_answers script

  -- the buffer as it was
  untouched : p ≡ o
  untouched = h.kept refl

  pub too_short : f ≡ false → Writes (script_of script o) (Err refusal.Room) p
  unfolding script_of first_refusal
  too_short k =
      let l = leb-false (0 + length text) room (sym h.ends ∙ k) in
      let t = lt-ltb (length (take max_length o)) (length text) (omega (arith, length-take max_length o)) in
      record { answered = rw t; left = rw t untouched }

  pub all-written : f ≡ true → {g : Bool} {y : ℕ} {q : List ℕ} → Lays text true room p 0 g y q → Writes (script_of script o) (Ok y) q
  unfolding script_of first_refusal
  all-written k {g} {y} {q} m =
      let l = leb-true (0 + length text) room (sym h.ends ∙ k) in
      let n : g ≡ true = m.ends ∙ sym h.ends ∙ k in
      let t = le-ltb (length (take max_length o)) (length text) (omega (arith, length-take max_length o)) in
      let s : y ≡ length text = omega (arith, m.next n) in
      record {
        answered = rw (t, s);
        left = rw t (m.bytes n ∙ rw untouched (sets_over o text (omega arith)));
      }

-- ---- lengths are told in 63 bits
given : (t : Bool) (l n : ℕ) → result_after (cond t 14 0) l ≡ gives n → (t ≡ false) × (n ≡ l)
given true l n e = never (cc)
given false l n e = (refl, cc)

pub answers-few : (script o : List ℕ) (n : ℕ) → (script_of script o).result ≡ gives n → n < 2 ^ 63
unfolding script_of first_refusal
answers-few script o n e =
    let g = given (ltb (length (take max_length o)) (length (script_answers script))) (length (script_answers script)) n e in
    omega (arith, g.1, ltb-false (length (take max_length o)) (length (script_answers script)) g.0, length-take max_length o)

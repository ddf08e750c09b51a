-- As many ones as there were numbers.
use mathlib.Core.Path.{◌≡◌, sym, ◌∙◌, ap}
use mathlib.Core.List.{List, ◌++◌}
use Prim.Native.Nat.{ℕ, ◌≤◌, min}
use native.Mathlib.Omega.{arith}
use native.Mathlib.Decide.{dec_lt}
use lib.ListN.{length, take, drop, replicate, length-take, length-replicate}
use lib.Seq.{take_all}
use borrow.Author.Rules.{rules}
use Rattle.std.proofs.lemmas.List.{take-append-le, take-replicate}
use Rattle.std.proofs.Math.ListN.{length-map}
use Rattle.script_runs.specs.Lists.{wholes_in, signeds_in}
use Rattle.script_runs.proofs.lists.ones_in.Goals as goal

as-many : (w : List ℕ) → length (wholes_in w) ≡ length (signeds_in w)
unfolding wholes_in signeds_in
as-many w = search (rules, length-map)

cut : (m l x : ℕ) → replicate (min m l) x ≡ take m (replicate l x)
cut m l x = elim (dec_lt m l) [
  | yes h ↦ let e : min m l ≡ m = omega arith in rw e (sym (take-replicate m l x (omega arith)))
  | no h ↦ let e : min m l ≡ l = omega arith in rw e (sym (take_all m (replicate l x) (simp length-replicate (omega arith))))
]

filled : (n m l : ℕ) (ones out xs : List ℕ) → length out ≡ m → length xs ≡ l → take n out ≡ take m xs → n ≤ m → ones ≡ replicate (length (take n out)) 1
    → take n (ones ++ drop n out) ≡ take m (replicate l 1)
filled n m l ones out xs a b e h o =
    let short : length (take n out) ≡ n = simp length-take (omega arith) in
    let many : n ≡ min m l = omega (arith, simp length-take at (ap length e)) in
    let all : length ones ≡ n = ap length o ∙ length-replicate (length (take n out)) 1 ∙ short in
    let within : n ≤ length ones = omega arith in
    let p : take n (ones ++ drop n out) ≡ ones = rw take-append-le (take_all n ones (omega arith)) in
    p ∙ o ∙ ap (λ k. replicate k 1) (short ∙ many) ∙ cut m l 1

pub returns : goal.returns
returns c =
    let w = c.wholes_in-n in
    record {
      holds = filled w.result _ _ c.fill.new.self w.new.out _ w.auto.out (as-many c.args.word.now) w.ensures.holds w.ensures.inside
          (c.fill.ensures.after (λ y q. search rules));
      inside = w.ensures.inside;
    }

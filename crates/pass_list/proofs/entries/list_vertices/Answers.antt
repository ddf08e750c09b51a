use Rattle.std.proofs.Common.{arith, ◌≡◌, ◌+◌, ◌-◌, ◌∙◌, ◌++◌, ◌∷◌, [], List, ℕ, suc, refl, sym, ap, take, length-take, length-drop, length-set, take_all}
use Rattle.std.proofs.Math.Seq.{take-suc-set}
use Rattle.std.proofs.lemmas.Slice.{take-put_mid, drop-put_mid}
use Rattle.plan.specs.Plan.{numbers}
use Rattle.plan.proofs.Levels.{numbers-snoc}
use Rattle.pass_list.proofs.entries.list_vertices.Goals as goal

pub loop-i-init : goal.loop-i-init
unfolding numbers
loop-i-init c = record { many = simp (length-take, length-drop) (omega arith); written = refl }

pub loop-i-preserved : goal.loop-i-preserved
loop-i-preserved c =
    let l = c.loop-i in
    let v = c.args.from + l.i in
    let s : l.i + 1 ≡ suc l.i = omega arith in
    record {
      many = rw length-set l.invariant.many;
      written = rw s (take-suc-set l.v-items l.i v (omega arith) ∙ ap (λ (xs : List ℕ). xs ++ v ∷ []) l.invariant.written ∙ sym (numbers-snoc c.args.from l.i v refl));
    }

pub returns : goal.returns
returns c =
    let a = c.args in
    let l = c.loop-i in
    let n = a.end - a.start in
    let w : take l.i l.v-items ≡ numbers a.from l.i = l.invariant.written in
    let z : l.i ≡ n = omega arith in
    let e : l.v-items ≡ numbers a.from n = sym (take_all l.i l.v-items (omega arith)) ∙ w ∙ ap (numbers a.from) z in
    (take-put_mid a.start n a.vertices.now l.v-items a.end (omega arith) (omega arith) ∙ ap (λ (xs : List ℕ). take a.start a.vertices.now ++ xs) e, drop-put_mid a.start n a.vertices.now l.v-items a.end (omega arith) (omega arith) l.invariant.many)

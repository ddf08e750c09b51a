use Rattle.std.proofs.Common.{rules, arith, ◌≡◌, ◌+◌, ◌-◌, ◌<◌, ◌∙◌, ◌++◌, ◌∷◌, [], List, ℕ, ℤ, pos, suc, refl, sym, ap, length, get_or, take, drop, length-take, length-drop, length-set, take_all, w64, to_z, of_z}
use Rattle.std.proofs.Math.Seq.{take-suc, take-suc-set}
use Rattle.std.proofs.lemmas.List.{get_or-drop}
use Rattle.std.proofs.lemmas.Slice.{take-put_mid, drop-put_mid}
use Rattle.passes.specs.State.{position_of}
use Rattle.pass_tables.specs.inner.Tables.{along}
use Rattle.pass_list.proofs.EntryLaws.{along-part}
use Rattle.pass_list.proofs.entries.list_positions.Goals as goal

pub loop-i-init : goal.loop-i-init
loop-i-init c = record { many = simp (length-take, length-drop) (omega arith); written = refl }

pub loop-i-preserved : goal.loop-i-preserved
loop-i-preserved c =
    let a = c.args in
    let l = c.loop-i in
    let part = drop a.from a.at.now in
    let z = get_or a.at.now (a.from + l.i) (pos 0) in
    let b : to_z w64 (of_z w64 z) ≡ z = search rules in
    let s : l.i + 1 ≡ suc l.i = omega arith in
    let h : l.i < length part = omega (arith, length-drop a.from a.at.now) in
    let more : take (suc l.i) part ≡ take l.i part ++ z ∷ [] = take-suc part l.i (pos 0) h ∙ ap (λ (x : ℤ). take l.i part ++ x ∷ []) (get_or-drop a.from a.at.now l.i (pos 0)) in
    record {
      many = rw length-set l.invariant.many;
      written = rw (b, s) (take-suc-set l.z-items l.i z (omega arith) ∙ ap (λ (xs : List ℤ). xs ++ z ∷ []) l.invariant.written ∙ sym more);
    }

pub returns : goal.returns
returns c =
    let a = c.args in
    let l = c.loop-i in
    let n = a.end - a.start in
    let z : l.i ≡ n = omega arith in
    let w : take l.i l.z-items ≡ take l.i (drop a.from a.at.now) = l.invariant.written in
    let e : l.z-items ≡ along (position_of a.at.now) a.from n =
    sym (take_all l.i l.z-items (omega arith)) ∙ w ∙ ap (λ (k : ℕ). take k (drop a.from a.at.now)) z ∙ along-part a.at.now a.from n (omega arith) in
    (take-put_mid a.start n a.positions.now l.z-items a.end (omega arith) (omega arith) ∙ ap (λ (xs : List ℤ). take a.start a.positions.now ++ xs) e, drop-put_mid a.start n a.positions.now l.z-items a.end (omega arith) (omega arith) l.invariant.many)

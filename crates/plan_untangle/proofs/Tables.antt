-- What the program's loops keep as they make the tables of a tangled plan. Assumes nothing.
use Prim.Native.Nat.{ℕ, suc, ◌+◌, ◌<◌, ◌≤◌}
use mathlib.Core.Path.{◌≡◌, refl, sym, ◌∙◌, ap}
use mathlib.Core.Bool.{Bool, false, cond, ◌&&◌}
use mathlib.Core.List.{List, ◌∷◌}
use native.Mathlib.Omega.{arith}
use native.Mathlib.Nat.{zero-add}
use native.Mathlib.Numerals.{add-one}
use borrow.Author.Tests.{eq-eqb, ne_eqb}
use lib.ListN.{length, get_or, set, drop, length-set, drop_of_length-le}
use lib.Seq.{ext_get_or, drop-cons, get_or-set_same, get_or-set_other}
use Rattle.ints.proofs.Laws.{cases}
use Rattle.plan.specs.Plan.{numbers}
use Rattle.plan.specs.Segments.{Segment, segments_from, above_in}
use Rattle.plan.specs.Strands.{first_or}
use Rattle.plan.specs.inner.Graph.{segment}
use Rattle.plan.proofs.CountLaws.{by-same}
use Rattle.plan.proofs.Levels.{length-numbers, get-numbers}
use Rattle.plan.proofs.SegmentLaws.{segment-at, segments-count}
use Rattle.plan_untangle.specs.inner.Ordering.{Endable, Ended, Turned}

-- ---- the numbers from 0 on
pub record Counted (o out : List ℕ) (i : ℕ) : Type 0 where
  pub within : i ≤ length o
  pub long : length out ≡ length o
  pub each : (j : ℕ) → j < i → get_or out j 0 ≡ j

pub counted-on : (o out : List ℕ) (i : ℕ) → Counted o out i → i < length o → Counted o (set out i i) (i + 1)
counted-on o out i w h = record {
  within = omega arith;
  long = length-set out i i ∙ w.long;
  each = λ j k. cases i j
      (λ a. let e : j ≡ i = omega arith in rw e (get_or-set_same out i i 0 (omega (arith, w.long))))
      (λ a. get_or-set_other out i j i 0 (λ e. omega arith) ∙ w.each j a);
}

pub counted-all : (o out : List ℕ) (i : ℕ) → Counted o out i → length o ≤ i → out ≡ numbers 0 (length o)
counted-all o out i w h =
    ext_get_or 0 out (numbers 0 (length o)) (w.long ∙ sym (length-numbers 0 (length o)))
    (λ j k. let q : j < length o = omega (arith, w.long) in w.each j (omega arith) ∙ sym (get-numbers 0 (length o) j 0 q ∙ zero-add j))

-- ---- upper ends: those of the segments from i on are written
pub record Ending (ss : List Segment) (o upper : List ℕ) (i : ℕ) : Type 0 where
  pub within : i ≤ length ss
  pub long : length upper ≡ length o
  pub each : (v : ℕ) → v < length o → get_or upper v 0 ≡ first_or v (above_in (drop i ss) v)

module _ (v : ℕ) (s : Segment) (ss : List Segment) where
  first-here : s.lower ≡ v → first_or v (above_in (s ∷ ss) v) ≡ s.upper
  unfolding above_in
  first-here e = rw (eq-eqb s.lower v e)

  first_past : (s.lower ≡ v → ⊥) → first_or v (above_in (s ∷ ss) v) ≡ first_or v (above_in ss v)
  unfolding above_in
  first_past e = rw (ne_eqb s.lower v e)

pub ending-start : (us ls upper : List ℕ) → Endable us ls upper → Ending (segments_from us ls) upper upper (length us)
unfolding above_in
ending-start us ls upper g =
    let ss = segments_from us ls in
    let long = segments-count us ls (sym g.ends) in
    record {
      within = omega arith;
      long = refl;
      each = λ v h. ap (λ (l : List ℕ). get_or l v 0) g.own ∙ get-numbers 0 (length upper) v 0 h ∙ zero-add v
          ∙ ap (λ (l : List Segment). first_or v (above_in l v)) (sym (drop_of_length-le ss {i = length us} (omega arith)));
    }

pub ending-on : (us ls o upper : List ℕ) (i : ℕ) → length us ≡ length ls → Ending (segments_from us ls) o upper (i + 1) → i < length us → get_or ls i 0 < length o
    → Ending (segments_from us ls) o (set upper (get_or ls i 0) (get_or us i 0)) i
ending-on us ls o upper i e w h k =
    let ss = segments_from us ls in
    let a = get_or us i 0 in
    let b = get_or ls i 0 in
    let here : drop i ss ≡ segment a b ∷ drop (i + 1) ss =
    drop-cons ss i (segment 0 0) (omega (arith, segments-count us ls (sym e))) ∙ ap (λ (s : Segment). s ∷ drop (suc i) ss) (segment-at us ls i (sym e) h)
    ∙ ap (λ (j : ℕ). segment a b ∷ drop j ss) (sym (add-one i)) in
    record {
      within = omega (arith, w.within);
      long = length-set upper b a ∙ w.long;
      each = λ v q. by-same b v
          (λ n. rw here (ap (λ (j : ℕ). get_or (set upper b a) j 0) (sym n) ∙ get_or-set_same upper b a 0 (omega (arith, w.long)) ∙ sym (first-here v (segment a b) (drop (i + 1) ss) n)))
          (λ n. rw here (get_or-set_other upper b v a 0 (λ r. n (sym r)) ∙ w.each v q ∙ sym (first_past v (segment a b) (drop (i + 1) ss) n)));
    }

pub ending-end : (us ls o upper : List ℕ) (i : ℕ) → Ending (segments_from us ls) o upper i → i ≡ 0 → Ended us ls upper
ending-end us ls o upper i w e = record { each = λ v h. w.each v (omega (arith, w.long)) ∙ ap (λ (j : ℕ). first_or v (above_in (drop j (segments_from us ls)) v)) e }

-- ---- turns: those of the first i vertices are set
abbrev pub turn_at : List Bool → List ℕ → List ℕ → ℕ → ℕ
turn_at vias upper level v = cond (get_or vias v false && get_or vias (get_or upper v 0) false) (get_or level v 0) 0

pub record Turning (vias : List Bool) (upper level turn : List ℕ) (i : ℕ) : Type 0 where
  pub within : i ≤ length level
  pub long : length turn ≡ length level
  pub done : (v : ℕ) → v < i → get_or turn v 0 ≡ turn_at vias upper level v
  pub ahead : (v : ℕ) → i ≤ v → get_or turn v 0 ≡ get_or level v 0

module _ (vias : List Bool) (upper level : List ℕ) where
  pub turning-start : Turning vias upper level level 0
  turning-start = record { within = omega arith; long = refl; done = λ v h. absurd (omega arith); ahead = λ v h. refl }

  pub turning-on : (turn : List ℕ) (i x : ℕ) → Turning vias upper level turn i → i < length level → x ≡ turn_at vias upper level i → Turning vias upper level (set turn i x) (i + 1)
  turning-on turn i x w h e = record {
    within = omega arith;
    long = length-set turn i x ∙ w.long;
    done = λ v k. cases i v
        (λ a. let q : v ≡ i = omega arith in rw q (get_or-set_same turn i x 0 (omega (arith, w.long)) ∙ e))
        (λ a. get_or-set_other turn i v x 0 (λ q. omega arith) ∙ w.done v a);
    ahead = λ v k. get_or-set_other turn i v x 0 (λ q. omega arith) ∙ w.ahead v (omega arith);
  }

  pub turning-end : (turn : List ℕ) (i : ℕ) → Turning vias upper level turn i → length level ≤ i → Turned vias upper level turn
  turning-end turn i w h = record { each = λ v k. w.done v (omega arith) }

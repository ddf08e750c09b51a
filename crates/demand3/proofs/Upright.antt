-- In the finished drawing levels keep order and distances, and inner segments are upright, since vias never move. Assumes nothing.
use mathlib.Core.Path.{◌≡◌, sym, ◌∙◌, ap}
use mathlib.Core.Bool.{true}
use mathlib.Core.List.Memᴰ
use mathlib.Core.List.{List, [], ◌∷◌, Memᴰ}
use mathlib.Core.Logic.{◌⊎◌, inl, inr, ⊎_map}
use Prim.Native.Nat.{suc}
use native.Mathlib.Omega.{arith}
use lib.IntN.{ℤ, pos, ◌-ℤ◌}
use Rattle.ints.specs.Ints.{P, N}
use Rattle.ints.proofs.Laws.{dif, eq-make, make-le-true, if-ind}
use Rattle.ints.proofs.Tests.{and_left, and_right}
use Rattle.plan.specs.Plan.{PlanData, is_via}
use Rattle.plan.specs.Segments.{Segment, segments_of, is_inner, inner_in, inner_segments}
use Rattle.passes.specs.State.{State, position_of, doubled}
use Rattle.passes.specs.Ready.{equals}
use Rattle.passes.specs.Words.{is_apart, keeps_order, is_upright, inner_upright}
use Rattle.plan.proofs.All.{all-of-mem, all-every}
use Rattle.plan.proofs.Levels.{sides_all}
use Rattle.passes.proofs.Invariant.{Inv}
use Rattle.passes.proofs.Trace.{Reached}
use Rattle.passes.proofs.Preliminary.{Preliminary}

pub order-kept : {p : PlanData} {s : State} → Inv p s → keeps_order p s.at ≡ true
unfolding keeps_order
order-kept {p} {s} inv = all-every (is_apart p s.at) (sides_all p (λ v d. let x = position_of s.at v in let y = position_of s.at (suc v) in
    make-le-true (pos (doubled p v (suc v))) (y -ℤ x) (omega (arith, dif y x, inv.spaced v d, inv.wide v d))))

-- ---- an inner segment is one of the plan's, and joins two vias
pub record Inner (p : PlanData) (ss : List Segment) (s : Segment) : Type 0 where
  pub segment : Memᴰ s ss
  pub upper : is_via p s.upper ≡ true
  pub lower : is_via p s.lower ≡ true

there : {p : PlanData} {ss : List Segment} {s t : Segment} → Inner p ss s → Inner p (t ∷ ss) s
there i = record { segment = Memᴰ.tail i.segment; upper = i.upper; lower = i.lower }

here : {p : PlanData} {ss : List Segment} {s t : Segment} → is_inner p t ≡ true → (s ≡ t) ⊎ Inner p ss s → Inner p (t ∷ ss) s
here {p} {s} {t} e (inl z) = record { segment = Memᴰ.head z; upper = rw z (and_left _ _ e); lower = rw z (and_right (is_via p t.upper) _ e) }
here e (inr i) = there i

pub inner-mem : (p : PlanData) (ss : List Segment) (s : Segment) → Memᴰ s (inner_in p ss) → Inner p ss s
unfolding inner_in
inner-mem p [] s m = absurd (Memᴰ.not-nil m)
inner-mem p (t ∷ ss) s m = if-ind (is_inner p t) (t ∷ inner_in p ss) (inner_in p ss) (λ us. Memᴰ s us → Inner p (t ∷ ss) s)
    (λ e n. here e (⊎_map (λ z. z) (λ k. inner-mem p ss s k) (Memᴰ.cases_cons n))) (λ e n. there (inner-mem p ss s n)) m

-- ---- upright
pub equals-zero : (a b : ℤ) → a ≡ b → equals (a -ℤ b) 0 ≡ true
equals-zero a b e = let z : a -ℤ b ≡ pos 0 = eq-make (a -ℤ b) (pos 0) (omega (arith, dif a b, ap P e, ap N e)) in ap (λ w. equals w 0) z

pub inner-same : {p : PlanData} {s : State} → Preliminary p → Reached p s → (t : Segment) → Memᴰ t (inner_segments p) → position_of s.at t.upper ≡ position_of s.at t.lower
unfolding inner_segments
inner-same {p} pre c t m = let i = inner-mem p (segments_of p) t m in c.vias t.upper i.upper ∙ pre.upright t m ∙ sym (c.vias t.lower i.lower)

pub inner-upright : {p : PlanData} {s : State} → Preliminary p → Reached p s → inner_upright p s.at ≡ true
unfolding inner_upright
inner-upright {p} {s} pre c = all-every (is_upright s.at) (all-of-mem (inner_segments p) (λ t m. equals-zero (position_of s.at t.lower) (position_of s.at t.upper) (sym (inner-same pre c t m))))

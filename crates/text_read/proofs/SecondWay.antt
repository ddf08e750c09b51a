-- From what the first way of reading finds to the second. Assumes nothing.
use mathlib.Core.Path.{◌≡◌, sym, ◌∙◌, ap}
use mathlib.Core.Bool.{Bool, true, false, not, true≢false}
use mathlib.Core.List.{List}
use Prim.Native.Nat.{ℕ}
use borrow.Author.Tests.{eq-eqb, ne_eqb}
use lib.Dec.{eqb}
use Rattle.std.specs.Prelude.{Result, Ok, Err}
use Rattle.ints.specs.Refusals.{refused_by, number_of}
use Rattle.ints.specs.declared.refusal.Refusal.{Refusal}
use Rattle.ints.proofs.Refusals.{has-number}
use Rattle.ints.proofs.Tests.{and_left, and_right, test}
use Rattle.plan.specs.Plan.{PlanData}
use Rattle.plan.proofs.CountLaws.{by-same}
use Rattle.text.specs.Reading.{accepted, refused, tangled_reading}
use Rattle.text.proofs.BothWays.{taken-both, refused-6, refused-else}
use Rattle.text.proofs.Words.{never}
use Rattle.text_read.specs.inner.Taken.{Finds, refuses_both, tangled_refusal}
use Rattle.text_read.specs.declared.Found.{Found}

not-same : (n : ℕ) → n ≡ 0 → refuses_both n ≡ false
not-same n e = rw e

not_eqb : (a b : ℕ) → not (eqb a b) ≡ true → a ≡ b → ⊥
not_eqb a b e f = true≢false (sym e ∙ rw (eq-eqb a b f))

module _ (s : List ℕ) (r : Found) (sizes : List ℕ) (vias : List Bool) (halves uppers lowers ratings sizes' : List ℕ) (vias' : List Bool) (halves' uppers' lowers' ratings' : List ℕ)
    (F : Finds s r sizes vias halves uppers lowers ratings sizes' vias' halves' uppers' lowers' ratings') where
  pub refused-both : refuses_both (refused_by r.verdict) ≡ true → (refused_by r.verdict ≡ 0 → ⊥) × (tangled_reading s ≡ refused (refused_by r.verdict))
  refused-both e =
      let n = refused_by r.verdict in
      let a = not_eqb n 0 (and_left (not (eqb n 0)) (not (eqb n 6)) e) in
      let b = not_eqb n 6 (and_right (not (eqb n 0)) (not (eqb n 6)) e) in
      (a, (refused-else s n b).0 (F.refuses a))

  pub taken-second : refuses_both (refused_by r.verdict) ≡ false → (p : PlanData) × (tangled_reading s ≡ accepted p)
  taken-second e = by-same (refused_by r.verdict) 0
      (λ z. let a = F.accepts z in (a.plan, taken-both s a.plan a.reads))
      (λ z. by-same (refused_by r.verdict) 6
      (λ y. refused-6 s (F.refuses z ∙ ap refused y))
      (λ y. never (sym e ∙ rw (ne_eqb (refused_by r.verdict) 0 z, ne_eqb (refused_by r.verdict) 6 y))))

  -- what the second way finds is refused, or taken
  module _ (v : Result Unit Refusal) (e : refused_by v ≡ tangled_refusal (refused_by r.verdict)) where
    pub tangled-refused : (x : Refusal) → v ≡ Err x → tangled_reading s ≡ refused (number_of x)
    tangled-refused x w =
        let m : number_of x ≡ tangled_refusal (refused_by r.verdict) = sym (ap refused_by w) ∙ e in
        test (refuses_both (refused_by r.verdict))
        (λ t. (refused-both t).1 ∙ ap refused (sym (m ∙ rw t)))
        (λ f. absurd (has-number x (m ∙ rw f)))

    pub tangled-taken : v ≡ Ok tt → (p : PlanData) × (tangled_reading s ≡ accepted p)
    tangled-taken w =
        let m : 0 ≡ tangled_refusal (refused_by r.verdict) = sym (ap refused_by w) ∙ e in
        test (refuses_both (refused_by r.verdict))
        (λ t. never (sym (not-same (refused_by r.verdict) (sym (m ∙ rw t))) ∙ t))
        (λ f. taken-second f)

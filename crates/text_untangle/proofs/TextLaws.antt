-- The plan that reading a tangled text answers is the untangled plan, stored; and what is left of its text in lent buffers.
-- Assumes nothing.
use mathlib.Core.Path.{◌≡◌, refl, sym, ◌∙◌, ap, subst}
use mathlib.Core.Bool.{◌&&◌}
use mathlib.Core.List.{List}
use Prim.Native.Nat.{ℕ, ◌≤◌, ◌<◌}
use native.Mathlib.Omega.{arith}
use borrow.Author.Tests.{lt-leb, le-leb}
use lib.Dec.{leb}
use lib.ListN.{length, take, replicate, length-append}
use lib.Seq.{take_at}
use Rattle.std.specs.Prelude.{Ok, Err}
use Rattle.ints.specs.Lists.{over}
use Rattle.ints.specs.Refusals.{gives, refuses, number_of}
use Rattle.ints.specs.declared.refusal.Refusal.{Refusal}
use Rattle.ints.specs.declared.refusal.Refusal.TheVariants.{Room}
use Rattle.ints.proofs.Tests.{test, and-false}
use Rattle.plan.specs.Limits.{max_vertices}
use Rattle.plan.specs.Plan.{PlanData, vertex_count}
use Rattle.plan.specs.Stored.{plan_data}
use Rattle.plan.specs.declared.data.Plan.{Plan}
use Rattle.plan.proofs.Sound.{sound}
use Rattle.plan_renumber.proofs.Kept.{vertices-same}
use Rattle.plan_untangle.specs.Order.{order, untangled}
use Rattle.plan_untangle.proofs.Orders.{order-own}
use Rattle.text.specs.Reading.{Reading, accepted, refused, tangled_reading}
use Rattle.text.specs.Writing.{text_of}
use Rattle.text.proofs.RoundTrip.{text-short}
use Rattle.text_read.specs.Answer.{plan_of}
use Rattle.text_write.specs.inner.Data.{max_text}
use Rattle.text_write.specs.inner.Written.{Fronts}
use Rattle.text_write.proofs.AgainLaws.{stored-data, plan-stored}
use Rattle.text_untangle.specs.Untangled.{untangled_answer}
use Rattle.text_untangle.specs.Text.{untangled_text, Leaves}
use Rattle.text_untangle.specs.declared.ReadTangled.{ReadTangled}
use Rattle.text_untangle.specs.inner.Held.{WithNumbers, IsUntangled}
use Rattle.text_untangle.proofs.ArrayLaws.{untangled-ok}

-- ---- what was read
pub record Rearranged (s : List ℕ) (plan : Plan) (v e : ℕ) (m : List ℕ) : Type 0 where
  pub text_plan : PlanData
  pub read : tangled_reading s ≡ accepted text_plan
  pub held : WithNumbers plan v e m
  pub is_untangled : IsUntangled text_plan plan v e m

untangled-count : (p : PlanData) → vertex_count (untangled p) ≡ vertex_count p
unfolding untangled
untangled-count p = vertices-same p (order p) (order-own p).once.long

rearranged : (s : List ℕ) (p : PlanData) → tangled_reading s ≡ accepted p
    → Rearranged s (plan_of (untangled p)) (vertex_count (untangled p)) (length (untangled p).uppers) (over (order p) (replicate max_vertices 0))
rearranged s p e =
    let ok = untangled-ok s p e in
    let long : length (order p) ≡ vertex_count (untangled p) = (order-own p).once.long ∙ sym (untangled-count p) in
    record {
      text_plan = p;
      read = e;
      held = record { stored = plan-stored (untangled p) ok; reach = rw length-append (omega (arith, long)) };
      is_untangled = record {
        data_are = stored-data (untangled p) (sound (untangled p) ok).limits;
        vertices = untangled-count p;
        numbers_are = take_at (order p) _ _ long;
      };
    }

pub answer-accepted : (s : List ℕ) (r : ReadTangled) → gives r ≡ untangled_answer (tangled_reading s) → Rearranged s r.plan r.vertices r.segments r.numbers
unfolding untangled_answer
answer-accepted s r q = go (tangled_reading s) refl
  where
    go : (g : Reading) → tangled_reading s ≡ g → Rearranged s r.plan r.vertices r.segments r.numbers
    go (accepted p) h =
        let told : gives r ≡ untangled_answer (accepted p) = q ∙ ap untangled_answer h in
        let same : record {
          vertices = vertex_count (untangled p);
          segments = length (untangled p).uppers;
          plan = plan_of (untangled p);
          numbers = over (order p) (replicate max_vertices 0);
        } ≡ r = cc told in
        subst (λ (x : ReadTangled). Rearranged s x.plan x.vertices x.segments x.numbers) same (rearranged s p h)
    go (refused n) h =
        let told : gives r ≡ untangled_answer (refused n) = q ∙ ap untangled_answer h in
        let z : ◌≡◌ {A = ℕ} 0 1 = cc told in
        absurd (omega arith)

pub answer-refused : (s : List ℕ) (n : ℕ) → refuses n ≡ untangled_answer (tangled_reading s) → tangled_reading s ≡ refused n
unfolding untangled_answer
answer-refused s n q = go (tangled_reading s) refl
  where
    go : (g : Reading) → tangled_reading s ≡ g → tangled_reading s ≡ refused n
    go (accepted p) h =
        let told : refuses n ≡ untangled_answer (accepted p) = q ∙ ap untangled_answer h in
        let z : ◌≡◌ {A = ℕ} 0 1 = cc told in
        absurd (omega arith)
    go (refused m) h =
        let told : refuses n ≡ untangled_answer (refused m) = q ∙ ap untangled_answer h in
        let same : m ≡ n = cc told in
        h ∙ ap refused same

-- ---- what is left in the buffers
module _ (p : PlanData) (plan : Plan) (v e : ℕ) (ms o m : List ℕ) (h : IsUntangled p plan v e ms) where
  pub no_room : length o < length (text_of (plan_data plan v e)) → Leaves (untangled_text (accepted p) o m) (Err Room) o m
  unfolding untangled_text
  no_room l = rw (lt-leb (length (text_of (untangled p))) (length o) (rw h.data_are at l)) (record { answer = refl; buffer = refl; numbers = refl })

  pub no-numbers : length m < v → Leaves (untangled_text (accepted p) o m) (Err Room) o m
  unfolding untangled_text
  no-numbers l =
      rw (lt-leb (vertex_count p) (length m) (rw h.vertices at l), and-false (leb (length (text_of (untangled p))) (length o)))
      (record { answer = refl; buffer = refl; numbers = refl })

  pub both_left : {n : ℕ} {out m' : List ℕ} → length (text_of (plan_data plan v e)) ≤ length o → v ≤ length m → Fronts (text_of (plan_data plan v e)) o n out
      → m' ≡ over (take v ms) m → Leaves (untangled_text (accepted p) o m) (Ok n) out m'
  unfolding untangled_text
  both_left a b f g =
      let fits : length (text_of (untangled p)) ≤ length o = rw h.data_are at a in
      let room : vertex_count p ≤ length m = rw h.vertices at b in
      let text : Fronts (text_of (untangled p)) o _ _ = rw h.data_are at f in
      rw (le-leb (length (text_of (untangled p))) (length o) fits, le-leb (vertex_count p) (length m) room)
      (record { answer = ap gives text.count; buffer = text.bytes; numbers = g ∙ ap (λ (l : List ℕ). over l m) h.numbers_are })

pub refused-left : (f : Refusal) (o m : List ℕ) → Leaves (untangled_text (refused (number_of f)) o m) (Err f) o m
unfolding untangled_text
refused-left f o m = record { answer = refl; buffer = refl; numbers = refl }

-- what is written is short enough for a number
pub written-few : (s o m : List ℕ) (n : ℕ) → (untangled_text (tangled_reading s) o m).answer ≡ gives n → n ≤ max_text
unfolding untangled_text
written-few s o m n = go (tangled_reading s) refl
  where
    go : (g : Reading) → tangled_reading s ≡ g → (untangled_text g o m).answer ≡ gives n → n ≤ max_text
    go (accepted p) h e =
        let w = text_of (untangled p) in
        test (leb (length w) (length o) && leb (vertex_count p) (length m))
        (λ t. let told : gives (length w) ≡ gives n = rw t at e in let same : length w ≡ n = cc told in omega (arith, text-short (untangled p) (untangled-ok s p h)))
        (λ t. let told : refuses 14 ≡ gives n = rw t at e in let z : ◌≡◌ {A = ℕ} 0 1 = cc told in absurd (omega arith))
    go (refused k) h e = let z : ◌≡◌ {A = ℕ} 0 1 = cc e in absurd (omega arith)

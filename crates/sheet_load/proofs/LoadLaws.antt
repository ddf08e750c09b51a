-- What load gives, by either way, as the program meets it: by what reading the text answered.
use mathlib.Core.Path.{◌≡◌, refl, subst}
use mathlib.Core.Bool.{Bool, true, false}
use mathlib.Core.List.{List, ◌++◌}
use Prim.Native.Nat.{ℕ, ◌≤◌}
use lib.ListN.{length, take, drop, replicate}
use lib.Seq.{length-take-le}
use native.Mathlib.Omega.{arith}
use Rattle.ints.specs.Lists.{over}
use Rattle.plan.specs.Limits.{max_vertices}
use Rattle.plan.specs.Plan.{vertex_count, numbers}
use Rattle.plan.proofs.Levels.{length-numbers}
use Rattle.plan_untangle.specs.Order.{order, untangled}
use Rattle.text.specs.Reading.{Reading, accepted, refused, reading, tangled_reading}
use Rattle.text_read.specs.Answer.{plan_of, answer_of}
use Rattle.text_read.specs.declared.ReadText.{ReadText}
use Rattle.text_untangle.specs.Untangled.{untangled_answer}
use Rattle.text_untangle.specs.declared.ReadTangled.{ReadTangled}
use Rattle.text.proofs.Words.{never}
use Rattle.plan.specs.declared.data.Plan.{Plan}
use Rattle.sheet.specs.declared.types.Sheet.{Sheet}
use Rattle.sheet.specs.declared.types.Stage.TheVariants.{Loaded}
use Rattle.report.specs.Arrays.{arrays_of, no_drawing}
use Rattle.sheet.specs.Sheet.{remembered_of, loaded_sheet, loaded_as_read, loaded_untangled}
use Rattle.ints.specs.Refusals.{gives, refuses}
use Rattle.sheet.specs.Calls.{sheet_out, load_of, load, load_tangled}

-- A plan with its counts and the numbers of its vertices, and no drawing.
abbrev pub loaded_with : Bool → ℕ → ℕ → Plan → List ℕ → Sheet
loaded_with t v e p m = record { header = record { stage = Loaded v e; tangled = t }; plan = p; drawing = arrays_of no_drawing; remembered = m }

module _ (s : Sheet) (text : List ℕ) where
  pub load-accepted : (r : ReadText) → gives r ≡ answer_of (reading text) → load s text ≡ sheet_out (gives tt) (loaded_with false r.vertices r.segments r.plan (remembered_of (numbers 0 r.vertices)))
  unfolding load loaded_sheet answer_of
  load-accepted r e = go (reading text) e
    where
      go : (g : Reading) → gives r ≡ answer_of g → load_of loaded_as_read s g ≡ sheet_out (gives tt) (loaded_with false r.vertices r.segments r.plan (remembered_of (numbers 0 r.vertices)))
      go (accepted p) h =
          let same : record { vertices = vertex_count p; segments = length p.uppers; plan = plan_of p } ≡ r = cc h in
          subst (λ (x : ReadText). load_of loaded_as_read s (accepted p) ≡ sheet_out (gives tt) (loaded_with false x.vertices x.segments x.plan (remembered_of (numbers 0 x.vertices)))) same refl
      go (refused m) h = never (cc h)

  pub load-refused : (n : ℕ) → refuses n ≡ answer_of (reading text) → load s text ≡ sheet_out (refuses n) s
  unfolding load answer_of
  load-refused n e = go (reading text) e
    where
      go : (g : Reading) → refuses n ≡ answer_of g → load_of loaded_as_read s g ≡ sheet_out (refuses n) s
      go (accepted p) h = never (cc h)
      go (refused m) h = let same : m ≡ n = cc h in rw same

module _ (s : Sheet) (text : List ℕ) where
  pub tangled-accepted : (r : ReadTangled) → gives r ≡ untangled_answer (tangled_reading text) → load_tangled s text ≡ sheet_out (gives tt) (loaded_with true r.vertices r.segments r.plan r.numbers)
  unfolding load_tangled loaded_sheet untangled_answer
  tangled-accepted r e = go (tangled_reading text) e
    where
      go : (g : Reading) → gives r ≡ untangled_answer g → load_of loaded_untangled s g ≡ sheet_out (gives tt) (loaded_with true r.vertices r.segments r.plan r.numbers)
      go (accepted p) h =
          let same : record {
            vertices = vertex_count (untangled p);
            segments = length (untangled p).uppers;
            plan = plan_of (untangled p);
            numbers = over (order p) (replicate max_vertices 0);
          } ≡ r = cc h in
          subst (λ (x : ReadTangled). load_of loaded_untangled s (accepted p) ≡ sheet_out (gives tt) (loaded_with true x.vertices x.segments x.plan x.numbers)) same refl
      go (refused m) h = never (cc h)

  pub tangled-refused : (n : ℕ) → refuses n ≡ untangled_answer (tangled_reading text) → load_tangled s text ≡ sheet_out (refuses n) s
  unfolding load_tangled untangled_answer
  tangled-refused n e = go (tangled_reading text) e
    where
      go : (g : Reading) → refuses n ≡ untangled_answer g → load_of loaded_untangled s g ≡ sheet_out (refuses n) s
      go (accepted p) h = never (cc h)
      go (refused m) h = let same : m ≡ n = cc h in rw same

-- Numbers from 0 on written over the front of an array.
pub own-few : (o : List ℕ) (v : ℕ) → v ≤ max_vertices → v ≤ length o → length (take v o) ≤ max_vertices
own-few o v h k = omega (arith, length-take-le v o k)

pub own-array : (o : List ℕ) (v : ℕ) → v ≤ length o → {w : List ℕ} → w ≡ numbers 0 (length (take v o)) → w ++ drop v o ≡ over (numbers 0 v) o
own-array o v h e = rw (e, length-take-le v o h, length-numbers 0 v)

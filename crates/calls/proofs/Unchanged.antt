-- What leaves a sheet as it was: every call that is refused ("a refusal returns its number and changes nothing"), and calls that only
-- show it.
use mathlib.Core.Bool.{true}
use mathlib.Core.List.{List, [], ◌∷◌}
use mathlib.Core.Path.{◌≡◌, refl}
use Prim.Native.Nat.{ℕ}
use Rattle.ints.proofs.Tests.{cond-left, cond-right}
use Rattle.ints.specs.Refusals.{Verdict, gives, refuses}
use Rattle.plan.specs.Checks.{every}
use Rattle.text.proofs.Words.{never}
use Rattle.sheet.specs.declared.types.Sheet.{Sheet}
use Rattle.sheet.specs.Calls.{clear}
use Rattle.sheet.proofs.WhenRefused.{load_kept, tangled-kept, draw-kept, line_kept, report-kept, text-line-kept, whole-text-kept, marks-kept}
use Rattle.calls.specs.declared.types.Call.{Call}
use Rattle.calls.specs.declared.types.Call.TheVariants.{Load, LoadTangled, Draw, Line, Report, TextLine, WholeText, Mark, Marks, Clear}
use Rattle.calls.specs.Replies.{Value, each}
use Rattle.calls.specs.Step.{Lent, After, step}
use Rattle.calls.specs.Run.{Asked, leaves, shows}

pub record Unchanged (l : Lent) (s : Sheet) (a : After) : Type 0 where
  pub sheet : a.sheet ≡ s
  pub buffer : a.buffer ≡ l.buffer
  pub numbers : a.numbers ≡ l.numbers

each-refused : {A : Type 0} (f : A → Value) (r : Verdict A) {n : ℕ} → each f r ≡ refuses n → r ≡ refuses n
each-refused f (gives a) e = never (cc)
each-refused f (refuses m) e = cc

pub refused-changes-nothing : (q : Call) (l : Lent) (s : Sheet) (n : ℕ) → (step q l s).result ≡ refuses n → Unchanged l s (step q l s)
unfolding step clear
refused-changes-nothing Load l s n e = record { sheet = load_kept s l.text n (each-refused _ _ e); buffer = refl; numbers = refl }
refused-changes-nothing LoadTangled l s n e = record { sheet = tangled-kept s l.text n (each-refused _ _ e); buffer = refl; numbers = refl }
refused-changes-nothing Draw l s n e = record { sheet = draw-kept s n (each-refused _ _ e); buffer = refl; numbers = refl }
refused-changes-nothing (Line m) l s n e = record { sheet = refl; buffer = line_kept s m n l.buffer (each-refused _ _ e); numbers = refl }
refused-changes-nothing Report l s n e = record { sheet = refl; buffer = report-kept s n l.buffer (each-refused _ _ e); numbers = refl }
refused-changes-nothing (TextLine m) l s n e = record { sheet = refl; buffer = text-line-kept s m n l.buffer (each-refused _ _ e); numbers = refl }
refused-changes-nothing WholeText l s n e = record { sheet = refl; buffer = whole-text-kept s n l.buffer (each-refused _ _ e); numbers = refl }
refused-changes-nothing (Mark m) l s n e = record { sheet = refl; buffer = refl; numbers = refl }
refused-changes-nothing Marks l s n e = record { sheet = refl; buffer = refl; numbers = marks-kept s n l.numbers (each-refused _ _ e) }
refused-changes-nothing Clear l s n e = never (cc)

-- Line, report, the text by line and whole, mark and marks leave the sheet as it was, refused or not; and so does a list of them.
pub show-leaves : (q : Call) (l : Lent) (s : Sheet) → shows q ≡ true → (step q l s).sheet ≡ s
unfolding step
show-leaves Load l s e = never (cc)
show-leaves LoadTangled l s e = never (cc)
show-leaves Draw l s e = never (cc)
show-leaves (Line n) l s e = refl
show-leaves Report l s e = refl
show-leaves (TextLine n) l s e = refl
show-leaves WholeText l s e = refl
show-leaves (Mark n) l s e = refl
show-leaves Marks l s e = refl
show-leaves Clear l s e = never (cc)

pub shows-leave : (qs : List Asked) (s : Sheet) → every (λ (q : Asked). shows q.call) qs ≡ true → leaves qs s ≡ s
unfolding leaves every
shows-leave [] s e = refl
shows-leave (q ∷ qs) s e =
    let rest = every (λ (q : Asked). shows q.call) qs in
    rw (show-leaves q.call q.lent s (cond-left (shows q.call) rest e)) (shows-leave qs s (cond-right (shows q.call) rest e))

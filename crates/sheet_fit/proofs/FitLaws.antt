-- What is written into a lent buffer, and 14 where that has no room, as the program meets it.
use mathlib.Core.Path.{◌≡◌, sym, ap}
use mathlib.Core.List.{List}
use Prim.Native.Nat.{ℕ, ◌≤◌, ◌<◌}
use native.Mathlib.Omega.{arith}
use borrow.Author.Tests.{lt-ltb, le-ltb}
use lib.ListN.{length, take, drop, length-append}
use lib.Seq.{take_at}
use Rattle.ints.specs.Lists.{over}
use Rattle.std.specs.Prelude.{Result, Ok}
use Rattle.ints.specs.Refusals.{first_refusal, gives, refuses}
use Rattle.ints.specs.declared.refusal.Refusal.{Refusal}
use Rattle.text_write.specs.inner.Written.{Fronts}
use Rattle.sheet.specs.Calls.{BufferOut, Writes}
use Rattle.sheet_fit.specs.inner.Fitted.{fitted, fitted_text}

-- ---- 14
module _ {A : Type 0} (n : ℕ) (w b : List A) where
  pub fitted_short : length b < length w → fitted n w b ≡ record { result = refuses 14; buffer = b }
  unfolding first_refusal
  fitted_short h = rw (lt-ltb (length b) (length w) h)

  pub fitted-long : length w ≤ length b → fitted n w b ≡ record { result = gives n; buffer = over w b }
  unfolding first_refusal
  fitted-long h = rw (le-ltb (length b) (length w) h)

-- ---- what is written into a lent buffer
pub writes : {A : Type 0} {o q : BufferOut A} {a : Result ℕ Refusal} {b : List A} → o ≡ q → Writes q a b → Writes o a b
writes e h = rw e h

pub wrote : {w o out : List ℕ} {n : ℕ} → Fronts w o n out → Writes (record { result = gives (length w); buffer = over w o }) (Ok n) out
wrote f = record { answered = ap gives f.count; left = f.bytes }

-- what stands at the front of a buffer
module _ {w o out : List ℕ} {n : ℕ} (f : Fronts w o n out) where
  pub front_long : n ≤ length out
  front_long = omega (arith, f.count, ap length f.bytes, length-append w (drop (length w) o))

  pub front-is : take n out ≡ w
  front-is = rw f.bytes (take_at w (drop (length w) o) n (sym f.count))

-- what was made at the front of a buffer with room for it fits that
pub wrote-all : {w o out : List ℕ} {n : ℕ} → Fronts w o n out → length out ≡ length o → Writes (fitted_text w o) (Ok n) out
wrote-all {w} {o} f e = writes (fitted-long (length w) w o (omega (arith, f.count, front_long f))) (wrote f)

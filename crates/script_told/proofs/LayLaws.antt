-- Texts laid one after another: both fit if the second ends within the room, and what does not fit does not fit with more behind it.
use mathlib.Core.Path.{◌≡◌, refl, sym, ◌∙◌, ap}
use mathlib.Core.Bool.{Bool, true, false, cond}
use mathlib.Core.List.{List, ◌++◌}
use Prim.Native.Nat.{ℕ, ◌+◌, ◌-◌, ◌≤◌, ◌<◌}
use native.Mathlib.Omega.{arith}
use borrow.Author.Tests.{le-leb, lt-leb, leb-true, leb-false}
use lib.Dec.{leb}
use lib.ListN.{length, take, drop, length-append}
use lib.Seq.{sets, length-sets, take_at}
use Rattle.text.proofs.Words.{never}
use Rattle.text_scan.proofs.Stores.{sets-append, sets_over}
use Rattle.text_write.specs.inner.Written.{Wrote}
use Rattle.script_calls.specs.inner.Answered.{Fitted}
use Rattle.script_told.specs.inner.Laid.{Lays, InRoom}

-- ---- one text
module _ {w o : List ℕ} {room at : ℕ} (p : InRoom room at o) where
  pub lays-none : {write : Bool} {to : ℕ} → room - at < length w → Lays w write room o at false to o
  lays-none {write} l = record {
    ends = sym (lt-leb (at + length w) room (omega (arith, p.from)));
    next = λ e. never e;
    bytes = λ e. never e;
    kept = λ e. refl;
  }

  pub lays-counted : {write : Bool} → length w ≤ room - at → write ≡ false → Lays w write room o at true (at + length w) o
  lays-counted {write} l e = record {
    ends = sym (le-leb (at + length w) room (omega (arith, p.from)));
    next = λ h. refl;
    bytes = λ h. rw e;
    kept = λ h. refl;
  }

  pub lays-written : {write : Bool} {to : ℕ} {out : List ℕ} → length w ≤ room - at → write ≡ true → Wrote w o at to out → Lays w write room o at true to out
  lays-written {write} l e h = record {
    ends = sym (le-leb (at + length w) room (omega (arith, p.from)));
    next = λ k. h.next;
    bytes = λ k. rw e h.bytes;
    kept = λ k. never (sym k ∙ e);
  }

-- ---- and another
module _ {a o p : List ℕ} {write : Bool} {room at m : ℕ} where
  pub lays-not : {f : Bool} (b : List ℕ) → f ≡ false → Lays a write room o at f m p → Lays (a ++ b) write room o at f m p
  lays-not {f} b e h = record {
    ends = e ∙ sym (lt-leb (at + length (a ++ b)) room (omega (arith, length-append a b, leb-false (at + length a) room (sym h.ends ∙ e))));
    next = λ k. never (sym e ∙ k);
    bytes = λ k. never (sym e ∙ k);
    kept = h.kept;
  }

  module _ {e : Bool} (g : e ≡ true) (h : Lays a write room o at e m p) where
    pub lays-in : room ≤ length o → InRoom room m p
    lays-in l = record { from = omega (arith, h.next g, leb-true (at + length a) room (sym h.ends ∙ g)); whole = omega (arith, long) }
      where
        longs : (t : Bool) → length (cond t (sets o at a) o) ≡ length o
        longs true = length-sets o at a
        longs false = refl

        long : length p ≡ length o
        long = ap length (h.bytes g) ∙ longs write

    pub lays-then : {b q : List ℕ} {f : Bool} {to : ℕ} → Lays b write room p m f to q → Lays (a ++ b) write room o at f to q
    lays-then {b} {q} {f} {to} k = record {
      ends = k.ends ∙ ap (λ (n : ℕ). leb n room) far;
      next = λ x. k.next x ∙ far;
      bytes = λ x. k.bytes x ∙ rw (h.bytes g, h.next g) (both write);
      kept = λ x. k.kept x ∙ h.kept x;
    }
      where
        far : m + length b ≡ at + length (a ++ b)
        far = omega (arith, h.next g, length-append a b)

        both : (t : Bool) → cond t (sets (cond t (sets o at a) o) (at + length a) b) (cond t (sets o at a) o) ≡ cond t (sets o at (a ++ b)) o
        both true = sym (sets-append o at a b)
        both false = refl

-- ---- what stands at the front of a buffer
pub front : {w o out : List ℕ} {k : ℕ} → Fitted w o 0 k out → take k out ≡ w
front {w} {o} {out} {k} h =
    rw (h.wrote.bytes ∙ sets_over o w (omega (arith, h.wrote.next, h.inside))) (take_at w (drop (length w) o) k (omega (arith, h.wrote.next)))

-- A text that is being written part by part: what stands in the buffer and what is left make up the whole.
use mathlib.Core.Path.{◌≡◌, refl, sym, ◌∙◌, ap}
use mathlib.Core.List.{List, [], ◌++◌, append_assoc, append-nil}
use Prim.Native.Nat.{ℕ}
use native.Mathlib.Omega.{arith}
use lib.ListN.{length, length-append}
use Rattle.text_write.specs.inner.Written.{Room, Wrote}
use Rattle.text_write.proofs.Written.{wrote_none, wrote-long, and_then}

-- Of the text w, `rest` is left; what comes before it stands in the buffer from the position `from` up to `at`.
pub record Partly (w rest o : List ℕ) (from at : ℕ) (out : List ℕ) : Type 0 where
  pub front : List ℕ
  pub whole : w ≡ front ++ rest
  pub wrote : Wrote front o from at out

pub nothing_yet : (w o : List ℕ) (from : ℕ) → Partly w w o from from o
nothing_yet w o from = record { front = []; whole = refl; wrote = wrote_none o from }

module _ {w rest o out : List ℕ} {from at : ℕ} where
  -- there is room for the next part
  pub next-room : (a b : List ℕ) → rest ≡ a ++ b → Partly w rest o from at out → Room w o from → Room a out at
  next-room a b e h r = let k = h.wrote in
      omega (arith, wrote-long k, k.next, ap length h.whole ∙ length-append h.front rest, ap length e ∙ length-append a b)

  pub next-written : {to : ℕ} {next : List ℕ} (a b : List ℕ) → rest ≡ a ++ b → Partly w rest o from at out → Wrote a out at to next → Partly w b o from to next
  next-written a b e h k = record {
    front = h.front ++ a;
    whole = h.whole ∙ ap (λ (l : List ℕ). h.front ++ l) e ∙ sym (append_assoc h.front a b);
    wrote = and_then h.wrote k;
  }

  pub all-written : rest ≡ [] → Partly w rest o from at out → Wrote w o from at out
  all-written e h = rw (h.whole, e, append-nil h.front) h.wrote

-- A request that was read part by part. Assumes nothing.
use mathlib.Core.Path.{◌≡◌, subst}
use mathlib.Core.List.{List}
use Prim.Native.Nat.{ℕ}
use lib.ListN.{length}
use Rattle.run.specs.Call.{Request}
use Rattle.script_runs.specs.declared.types.RunRequest.{RunRequest}
use Rattle.script_runs.specs.inner.Filled.{Fills, Buffers, Asks}

pub asked : (q : Request) (room : ℕ) (before after : Buffers) (r : RunRequest)
    → r.boxes ≡ q.boxes → r.left ≡ q.left → r.right ≡ q.right → r.room ≡ room
    → Fills q.old (length before.old) r.old after.old
    → Fills q.distances (length before.distances) r.distances after.distances
    → Fills q.counts (length before.counts) r.counts after.counts
    → Fills q.neighbours (length before.neighbours) r.neighbours after.neighbours
    → Fills q.ratings (length before.ratings) r.ratings after.ratings
    → Asks q room before r after
asked q room before after r e1 e2 e3 e4 f1 f2 f3 f4 f5 = record {
  holds = rw (e1, e2, e3, f1.holds, f2.holds, f3.holds, f4.holds, f5.holds);
  roomy = e4;
  inside = record { old = f1.inside; distances = f2.inside; counts = f3.inside; neighbours = f4.inside; ratings = f5.inside };
}

-- the word that a list was read from; f is how
pub fills-from : {A : Type 0} (f : List ℕ → List A) {v w : List ℕ} {room n : ℕ} {out : List A} → v ≡ w → Fills (f v) room n out → Fills (f w) room n out
fills-from f {room = m} {n = n} {out = out} e h = subst (λ (u : List ℕ). Fills (f u) m n out) e h

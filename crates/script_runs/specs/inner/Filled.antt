-- A list at the front of a buffer, and a request whose lists lie in buffers.
use Rattle.std.specs.Prelude.{◌≡◌, List, ℕ, ◌≤◌, length, take, ℤ}
use Rattle.run.specs.Call.{Request}
use Rattle.script_runs.specs.declared.types.RunRequest.{RunRequest}

-- A list at the front of a buffer, as far as it has room.
pub record Fills {A : Type 0} (xs : List A) (room n : ℕ) (out : List A) : Type 0 where
  pub holds : take n out ≡ take room xs
  pub inside : n ≤ room

-- Buffers for old positions, distances, counts, neighbours and their ratings.
pub record Buffers : Type 0 where
  pub old : List ℤ
  pub distances : List ℕ
  pub counts : List ℕ
  pub neighbours : List ℤ
  pub ratings : List ℕ

abbrev pub buffers : List ℤ → List ℕ → List ℕ → List ℤ → List ℕ → Buffers
buffers o d c n w = record { old = o; distances = d; counts = c; neighbours = n; ratings = w }

-- The request that lies in buffers,
abbrev pub request_with : RunRequest → Buffers → Request
request_with r b = record {
  boxes = r.boxes;
  left = r.left;
  right = r.right;
  old = take r.old b.old;
  distances = take r.distances b.distances;
  counts = take r.counts b.counts;
  neighbours = take r.neighbours b.neighbours;
  ratings = take r.ratings b.ratings;
}

-- and one of which only so much is left as buffers have room for.
abbrev pub shortened : Buffers → Request → Request
shortened b q = record {
  boxes = q.boxes;
  left = q.left;
  right = q.right;
  old = take (length b.old) q.old;
  distances = take (length b.distances) q.distances;
  counts = take (length b.counts) q.counts;
  neighbours = take (length b.neighbours) q.neighbours;
  ratings = take (length b.ratings) q.ratings;
}

-- No list is longer than its buffer.
pub record Within (b : Buffers) (r : RunRequest) : Type 0 where
  pub old : r.old ≤ length b.old
  pub distances : r.distances ≤ length b.distances
  pub counts : r.counts ≤ length b.counts
  pub neighbours : r.neighbours ≤ length b.neighbours
  pub ratings : r.ratings ≤ length b.ratings

-- What the program leaves of a request: `before` are the buffers as they were lent, `after` as they are given back.
pub record Asks (q : Request) (room : ℕ) (before : Buffers) (r : RunRequest) (after : Buffers) : Type 0 where
  pub holds : request_with r after ≡ shortened before q
  pub roomy : r.room ≡ room
  pub inside : Within before r

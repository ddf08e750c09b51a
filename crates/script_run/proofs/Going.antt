-- The loop over the answers of a command: those from the n-th on are still to be laid.
use mathlib.Core.Path.{◌≡◌, refl, sym, ◌∙◌, ap}
use mathlib.Core.Bool.{Bool, true, false}
use mathlib.Core.List.{List, [], ◌∷◌, ◌++◌, append-nil}
use Prim.Native.Nat.{ℕ, ◌+◌, ◌-◌, ◌≤◌, ◌<◌}
use native.Mathlib.Omega.{arith}
use borrow.Author.Tests.{ltb-true, ltb-false}
use lib.Dec.{ltb}
use lib.ListN.{length, take, drop, drop_of_length-le}
use lib.Seq.{drop-drop}
use Rattle.ints.specs.Lists.{concat}
use Rattle.ints.proofs.Lists.{concat-one}
use Rattle.text.proofs.Words.{never}
use Rattle.sheet.specs.declared.types.Sheet.{Sheet}
use Rattle.script_commands.specs.declared.types.Command.{Command as Found}
use Rattle.script_commands.specs.inner.Held.{Lent, command_in, Inside}
use Rattle.script_answers.specs.Answers.{Said, line_of}
use Rattle.script_answers.specs.inner.Lengths.{max_answer}
use Rattle.script_told.specs.Turns.{Turn, turn_of, bytes_of}
use Rattle.script_turn.specs.inner.One.{Asked, Answers}
use Rattle.script_told.proofs.Unchanged.{several-leave}
use Rattle.script_told.specs.inner.Laid.{Lays, InRoom}
use Rattle.script_told.proofs.LayLaws.{lays-not, lays-in, lays-then, front}
use Rattle.script_run.specs.inner.Laid.{Turned}

-- ---- the answers from the n-th on
one_more : (l : List Said) → bytes_of l ≡ bytes_of (take 1 l) ++ bytes_of (drop 1 l)
unfolding concat
one_more [] = refl
one_more (a ∷ l) = ap (λ (w : List ℕ). w ++ bytes_of l) (sym (concat-one (line_of a)))

module _ (said : List Said) (n : ℕ) where
  split : bytes_of (drop n said) ≡ bytes_of (take 1 (drop n said)) ++ bytes_of (drop (n + 1) said)
  split = one_more (drop n said) ∙ ap (λ (l : List Said). bytes_of (take 1 (drop n said)) ++ bytes_of l) (drop-drop 1 n said)

  ended : length said ≤ n + 1 → bytes_of (drop n said) ≡ bytes_of (take 1 (drop n said))
  unfolding concat
  ended l = split ∙ ap (λ (m : List Said). bytes_of (take 1 (drop n said)) ++ bytes_of m) (drop_of_length-le said l) ∙ append-nil (bytes_of (take 1 (drop n said)))

-- What is left to lay is all that is left of the whole.
abbrev pub Rest : List Said → Bool → ℕ → List ℕ → ℕ → ℕ → List ℕ → ℕ → Type 0
Rest said write room o at n out to =
    (f : Bool) (z : ℕ) (q : List ℕ) → Lays (bytes_of (drop n said)) write room out to f z q → Lays (bytes_of said) write room o at f z q

-- A command whose answer n is next: it answers so on the sheet as it is kept.
pub record Turning (c : Found) (b : Lent) (t : Turn) (kept : Sheet) (n : ℕ) : Type 0 where
  pub same : turn_of (command_in c b) kept ≡ t
  pub has : n ≤ length t.said - 1

pub turning : (c : Found) (b : Lent) (s : Sheet) → Turning c b (turn_of (command_in c b) s) s 0
turning c b s = record { same = refl; has = omega arith }

module _ {c : Found} {b : Lent} {t : Turn} {kept : Sheet} {n : ℕ} (g : Turning c b t kept n) where
  pub asked : {buffer : List ℕ} → Inside b c → max_answer ≤ length buffer → Asked c b kept n buffer
  asked i l = record { inside = i; has = rw g.same g.has; room = l }

  module _ {buffer after : List ℕ} {s : Sheet} {count : ℕ} {more : Bool} (a : Answers (turn_of (command_in c b) kept) n buffer s count more after) where
    answer : take count after ≡ bytes_of (take 1 (drop n t.said))
    answer = front a.wrote ∙ ap (λ (u : Turn). bytes_of (take 1 (drop n u.said))) g.same

    further : more ≡ ltb (n + 1) (length t.said)
    further = a.further ∙ ap (λ (u : Turn). ltb (n + 1) (length u.said)) g.same

    pub left : s ≡ t.sheet
    left = a.left ∙ ap (λ (u : Turn). u.sheet) g.same

    module _ (m : more ≡ true) where
      pub below : n + 1 < length t.said
      below = ltb-true (n + 1) (length t.said) (sym further ∙ m)

      unchanged : s ≡ kept
      unchanged = a.left ∙ several-leave (command_in c b) kept (omega (arith, below, ap (λ (u : Turn). length u.said) g.same))

      pub next : Turning c b t s (n + 1)
      next = record { same = rw unchanged g.same; has = omega (arith, below) }

pub record Going (c : Found) (b : Lent) (t : Turn) (write : Bool) (room : ℕ) (o : List ℕ) (at : ℕ) (kept : Sheet) (out : List ℕ) (to n : ℕ) : Type 0 where
  pub turning : Turning c b t kept n
  pub place : InRoom room to out
  pub rest : Rest t.said write room o at n out to

module _ (c : Found) (b : Lent) (s : Sheet) {write : Bool} {room : ℕ} {o : List ℕ} {at : ℕ} where
  pub starts : InRoom room at o → Going c b (turn_of (command_in c b) s) write room o at s o at 0
  starts p = record { turning = turning c b s; place = p; rest = λ f z q h. h }

module _ {c : Found} {b : Lent} {t : Turn} {write : Bool} {room : ℕ} {o : List ℕ} {at : ℕ} {kept : Sheet} {out : List ℕ} {to n : ℕ}
    (g : Going c b t write room o at kept out to n) {buffer after : List ℕ} {s : Sheet} {count : ℕ} {more : Bool}
    (a : Answers (turn_of (command_in c b) kept) n buffer s count more after) {f : Bool} {z : ℕ} {q : List ℕ} (h : Lays (take count after) write room out to f z q) where
  laid : Lays (bytes_of (take 1 (drop n t.said))) write room out to f z q
  laid = rw (answer g.turning a) at h

  -- one that does not fit
  pub stops : f ≡ false → Turned t write room o at s f z q
  stops e = record {
    lays = g.rest f z q (rw (split t.said n) (lays-not (bytes_of (drop (n + 1) t.said)) e laid));
    left = λ k. never (sym e ∙ k);
  }

  -- the last
  pub ends : more ≡ false → Turned t write room o at s f z q
  ends e = record {
    lays = g.rest f z q (rw (ended t.said n (ltb-false (n + 1) (length t.said) (sym (further g.turning a) ∙ e))) laid);
    left = λ k. left g.turning a;
  }

  -- one that others follow
  pub again : f ≡ true → more ≡ true → Going c b t write room o at s q z (n + 1)
  again e m = record {
    turning = next g.turning a m;
    place = lays-in e laid g.place.whole;
    rest = λ f' z' q' k. g.rest f' z' q' (rw (split t.said n) (lays-then e laid k));
  }

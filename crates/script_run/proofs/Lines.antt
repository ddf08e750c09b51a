-- The loop over the lines of a script: what the lines from a position on answer is still to be laid.
use mathlib.Core.Path.{◌≡◌}
use mathlib.Core.Bool.{Bool, true, false}
use mathlib.Core.List.{List, ◌++◌, append-nil}
use Prim.Native.Nat.{ℕ, ◌+◌, ◌≤◌, ◌<◌}
use native.Mathlib.Omega.{arith}
use lib.ListN.{length, drop}
use Rattle.ints.proofs.Laws.{cases}
use Rattle.sheet.specs.declared.types.Sheet.{Sheet}
use Rattle.sheet.specs.Sheet.{empty_sheet}
use Rattle.script_words.specs.Parts.{parts}
use Rattle.script_words.specs.inner.Ends.{between, PartEnds}
use Rattle.script_commands.specs.Table.{command_of}
use Rattle.script_told.specs.Turns.{Turn, turn_of, bytes_of}
use Rattle.script_told.specs.Scripts.{answers_to, script_answers}
use Rattle.script_told.specs.inner.Laid.{Lays, InRoom}
use Rattle.script_told.proofs.LayLaws.{lays-not, lays-in, lays-then}
use Rattle.script_run.specs.inner.Laid.{Turned}

abbrev pub Rest : List ℕ → Bool → ℕ → List ℕ → ℕ → Sheet → List ℕ → ℕ → Type 0
Rest script write room o from s out at =
    (f : Bool) (z : ℕ) (q : List ℕ) → Lays (answers_to (parts 10 (drop from script)) s) write room out at f z q → Lays (script_answers script) write room o 0 f z q

pub record Reading (script : List ℕ) (write : Bool) (room : ℕ) (o : List ℕ) (from : ℕ) (s : Sheet) (out : List ℕ) (at : ℕ) : Type 0 where
  pub inside : from ≤ length script
  pub place : InRoom room at out
  pub rest : Rest script write room o from s out at

pub starts : (script : List ℕ) {write : Bool} {room : ℕ} {o : List ℕ} {s : Sheet} → s ≡ empty_sheet → room ≤ length o → Reading script write room o 0 s o 0
unfolding script_answers
starts script e l = record { inside = omega arith; place = record { from = omega arith; whole = l }; rest = λ f z q h. rw e at h }

module _ {script : List ℕ} {write : Bool} {room : ℕ} {o : List ℕ} {from : ℕ} {s : Sheet} {out : List ℕ} {at : ℕ}
    (r : Reading script write room o from s out at) {end : ℕ} (p : PartEnds 10 script from end) where
  abbrev line_turn : Turn
  line_turn = turn_of (command_of (between from end script)) s

  last : length script ≤ end → answers_to (parts 10 (drop from script)) s ≡ bytes_of line_turn.said
  unfolding answers_to
  last l = rw (p.last l) (append-nil (bytes_of line_turn.said))

  more : end < length script → answers_to (parts 10 (drop from script)) s ≡ bytes_of line_turn.said ++ answers_to (parts 10 (drop (end + 1) script)) line_turn.sheet
  unfolding answers_to
  more l = rw (p.cut l)

  module _ {t : Sheet} {f : Bool} {z : ℕ} {q : List ℕ} (h : Turned line_turn write room out at t f z q) where
    pub stops : f ≡ false → Lays (script_answers script) write room o 0 f z q
    stops e =
        r.rest f z q
        (cases (length script) end
        (λ l. rw (last l) h.lays)
        (λ l. rw (more l) (lays-not (answers_to (parts 10 (drop (end + 1) script)) line_turn.sheet) e h.lays)))

    pub ends : length script ≤ end → Lays (script_answers script) write room o 0 f z q
    ends l = r.rest f z q (rw (last l) h.lays)

    pub again : f ≡ true → end < length script → Reading script write room o (end + 1) t q z
    again e l = record {
      inside = omega arith;
      place = lays-in e h.lays r.place.whole;
      rest = λ f' z' q' k. r.rest f' z' q' (rw (more l) (lays-then e h.lays (rw (h.left e) at k)));
    }

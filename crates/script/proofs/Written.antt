-- What is written of a command's answers: those up to the n-th, and then that.
use Rattle.std.proofs.Common.{◌≡◌, ℕ, ◌+◌, Bool, false, List, ◌++◌, length, map, take, drop, sym, ap, ◌∙◌, subst, take_all}
use Rattle.std.proofs.lemmas.List.{map-append}
use Rattle.std.proofs.Math.Seq.{take-add}
use Rattle.std.proofs.KnownBytes.{Appends-trans}
use Rattle.std.specs.Io.KnownBytes.{Appends}
use Rattle.std.specs.declared.option.Option.{Option}
use borrow.Author.Tests.{ltb-false}
use lib.Dec.{ltb}
use Rattle.ints.specs.Lists.{concat}
use Rattle.ints.proofs.Lists.{concat-append}
use Rattle.sheet.specs.declared.types.Sheet.{Sheet}
use Rattle.script_commands.specs.declared.types.Command.{Command as Found}
use Rattle.script_commands.specs.inner.Held.{Lent, command_in}
use Rattle.script_answers.specs.Answers.{Said, line_of}
use Rattle.script_told.specs.Turns.{Turn, turn_of, bytes_of}
use Rattle.script_told.proofs.LayLaws.{front}
use Rattle.script_turn.specs.inner.One.{Answers}
use Rattle.script_run.proofs.Going.{Turning}

one_more : (said : List Said) (n : ℕ) → bytes_of (take n said) ++ bytes_of (take 1 (drop n said)) ≡ bytes_of (take (n + 1) said)
one_more said n =
    sym (concat-append (map line_of (take n said)) (map line_of (take 1 (drop n said))))
    ∙ ap concat (sym (map-append line_of (take n said) (take 1 (drop n said))))
    ∙ ap (λ (l : List Said). bytes_of l) (sym (take-add n 1 said))

module _ {c : Found} {b : Lent} {t : Turn} {kept : Sheet} {n : ℕ} (g : Turning c b t kept n) {buffer after : List ℕ} {s : Sheet} {count : ℕ} {more : Bool}
    (a : Answers (turn_of (command_in c b) kept) n buffer s count more after) where
  answer : take count after ≡ bytes_of (take 1 (drop n t.said))
  answer = front a.wrote ∙ ap (λ (u : Turn). bytes_of (take 1 (drop n u.said))) g.same

  further : more ≡ ltb (n + 1) (length t.said)
  further = a.further ∙ ap (λ (u : Turn). ltb (n + 1) (length u.said)) g.same

  module _ (x y z : Option (List ℕ)) (before : Appends x y (bytes_of (take n t.said))) (now : Appends y z (take count after)) where
    pub written : Appends x z (bytes_of (take (n + 1) t.said))
    written =
        subst (Appends x z) (ap (λ (w : List ℕ). bytes_of (take n t.said) ++ w) answer ∙ one_more t.said n)
        (Appends-trans x y z (bytes_of (take n t.said)) (take count after) before now)

    -- the last
    pub written-all : more ≡ false → Appends x z (bytes_of t.said)
    written-all e =
        subst (λ (l : List Said). Appends x z (bytes_of l)) (take_all (n + 1) t.said (ltb-false (n + 1) (length t.said) (sym further ∙ e))) written

-- `script_commands::read::said_by_drawing_pokes` meets its contract: the arms of the match are the rows of the table.
use mathlib.Core.Path.{◌≡◌, refl, sym, ◌∙◌, ap}
use mathlib.Core.List.{[]}
use native.Mathlib.Omega.{arith}
use borrow.Author.Rules.{rules}
use Rattle.ints.proofs.Laws.{back'}
use Rattle.script_forms.specs.inner.First.{first_form}
use Rattle.script_commands.specs.Table.{drawing_pokes, said_by}
use Rattle.script_commands.proofs.TableLaws.{forms_of, said_at, said-none, above, drawing-forms}
use Rattle.script_commands.proofs.read.said_by_drawing_pokes.Statement.{statement}
use Rattle.script_commands.proofs.read.said_by_drawing_pokes.Tie as tie

-- the number of the form that was found
found : (c : tie.After-first_form) → c.first_form.result ≡ first_form (forms_of drawing_pokes) c.args.line.now
found c = c.first_form.ensures ∙ ap (λ fs. first_form fs c.args.line.now) drawing-forms

returns : tie.Need-returns-in-0
unfolding drawing_pokes
returns c =
    let c7 = c in
    record {
      says = λ b. rw (c.whole_at.ensures, back' c.signed_at.result c.signed_at.type_inv, c.signed_at.ensures)
          (sym (said_at c7.args.line.now drawing_pokes [] 0 (sym (found c.before.before.before) ∙ c.in-0.is)
          (omega arith)));
      bare = refl;
    }

returns-2 : tie.Need-returns-in-1
unfolding drawing_pokes
returns-2 c =
    let c7 = c in
    record {
      says = λ b. rw (c.whole_at-in-1.ensures, back' c.signed_at-in-1.result c.signed_at-in-1.type_inv, c.signed_at-in-1.ensures)
          (sym (said_at c7.args.line.now drawing_pokes [] 1 (sym (found c.before.before.before) ∙ c.in-1.is)
          (omega arith)));
      bare = refl;
    }

returns-3 : tie.Need-returns-in-2
unfolding drawing_pokes
returns-3 c =
    let c7 = c in
    record {
      says = λ b. rw (c.whole_at-in-2.ensures, c.whole_at-in-2-2.ensures)
          (sym (said_at c7.args.line.now drawing_pokes [] 2 (sym (found c.before.before.before) ∙ c.in-2.is)
          (omega arith)));
      bare = refl;
    }

returns-4 : tie.Need-returns-in-3
unfolding drawing_pokes
returns-4 c =
    let c7 = c in
    record {
      says = λ b. rw (c.whole_at-in-3.ensures, c.whole_at-in-3-2.ensures)
          (sym (said_at c7.args.line.now drawing_pokes [] 3 (sym (found c.before.before.before) ∙ c.in-3.is)
          (omega arith)));
      bare = refl;
    }

returns-5 : tie.Need-returns-in-4
unfolding drawing_pokes
returns-5 c =
    let c9 = c in
    record {
      says = λ b. rw (
        c.whole_at-in-4.ensures,
        c.whole_at-in-4-2.ensures,
        c.whole_at-in-4-3.ensures,
        back' c.signed_at-in-4.result c.signed_at-in-4.type_inv,
        c.signed_at-in-4.ensures,
      )
          (sym (said_at c9.args.line.now drawing_pokes [] 4
          (sym (found c.before.before.before.before.before) ∙ c.in-4.is) (omega arith)));
      bare = refl;
    }

returns-6 : tie.Need-returns-in_default
unfolding drawing_pokes said_by
returns-6 c =
    let n = c.in_default.in_default-own.rest in
    let h = (above 4 (above 3 (above 2 (above 1 (above 0 (omega arith) n.0.0.0.0.1) n.0.0.0.1) n.0.0.1) n.0.1) n.1) in
    record {
      says = λ b. sym (said-none c.args.line.now drawing_pokes []
          (omega (arith, h, found c.before)));
      bare = refl;
    }

pub said_by_drawing_pokes_spec : {M : Type 1} → statement M
said_by_drawing_pokes_spec =
    tie.close
    (tie.spec (λ c κs. search rules) (λ c κs. search rules) (λ c κs. search rules) (λ c κs. search rules) (λ c κs. search rules)
    (λ c κs. search rules) (λ c κs. search rules) (λ c κs. search rules) (λ c κs. search rules) (λ c κs. search rules) (λ c κs. search rules)
    (λ c κs. search rules) (λ c κs. search rules) returns returns-2 returns-3 returns-4 returns-5 returns-6)

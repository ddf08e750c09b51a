-- `script_commands::read::said_by_loading_pokes` meets its contract: the arms of the match are the rows of the table.
use mathlib.Core.Path.{◌≡◌, refl, sym, ◌∙◌, ap}
use native.Mathlib.Omega.{arith}
use borrow.Author.Rules.{rules}
use Rattle.script_forms.specs.inner.First.{first_form}
use Rattle.script_commands.specs.Table.{loading_pokes, drawing_pokes}
use Rattle.script_commands.proofs.TableLaws.{forms_of, said_at, said-none, above, loading-forms}
use Rattle.script_commands.proofs.read.said_by_loading_pokes.Statement.{statement}
use Rattle.script_commands.proofs.read.said_by_loading_pokes.Tie as tie

-- the number of the form that was found
found : (c : tie.After-first_form) → c.first_form.result ≡ first_form (forms_of loading_pokes) c.args.line.now
found c = c.first_form.ensures ∙ ap (λ fs. first_form fs c.args.line.now) loading-forms

returns : tie.Need-returns-in-0
unfolding loading_pokes
returns c =
    let c7 = c in
    record {
      says = λ b. rw (c.whole_at.ensures, c.whole_at-in-0.ensures)
          (sym (said_at c7.args.line.now loading_pokes drawing_pokes 0 (sym (found c.before.before.before) ∙ c.in-0.is)
          (omega arith)));
      bare = refl;
    }

returns-2 : tie.Need-returns-in-1
unfolding loading_pokes
returns-2 c = record {
  says = λ b. sym (said_at c.args.line.now loading_pokes drawing_pokes 1
      (sym (found c.before) ∙ c.in-1.is) (omega arith));
  bare = refl;
}

returns-3 : tie.Need-returns-in-2
unfolding loading_pokes
returns-3 c = record {
  says = λ b. sym (said_at c.args.line.now loading_pokes drawing_pokes 2
      (sym (found c.before) ∙ c.in-2.is) (omega arith));
  bare = refl;
}

returns-4 : tie.Need-returns-in_default
unfolding loading_pokes
returns-4 c =
    let c6 = c in
    let n = c.in_default.in_default-own.rest in
    let h = (above 2 (above 1 (above 0 (omega arith) n.0.0.1) n.0.1) n.1) in
    let s = c.said_by_drawing_pokes.ensures in
    record {
      says = λ b. s.says b ∙ sym (said-none c6.args.line.now loading_pokes drawing_pokes (omega (arith, h, found c.before.before)));
      bare = s.bare;
    }

pub said_by_loading_pokes_spec : {M : Type 1} → statement M
said_by_loading_pokes_spec =
    tie.close
    (tie.spec (λ c κs. search rules) (λ c κs. search rules) (λ c κs. search rules) (λ c κs. search rules) returns returns-2 returns-3 returns-4)

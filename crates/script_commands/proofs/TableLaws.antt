-- What the first form of a table says, by its number; a text that is cut. Assumes nothing.
use mathlib.Core.Path.{◌≡◌, refl, sym, ◌∙◌, ap}
use mathlib.Core.Bool.{Bool, true, false, cond, false≢true}
use mathlib.Core.List.{List, [], ◌∷◌, ◌++◌, map}
use mathlib.Core.Option.{Option, none, some}
use Prim.Native.Nat.{ℕ, zero, suc, ◌+◌, ◌-◌, ◌≤◌, ◌<◌}
use native.Mathlib.Omega.{arith}
use borrow.Author.Tests.{lt-ltb, le-ltb}
use lib.Dec.{eqb}
use lib.ListN.{length, get_or, take, drop}
use lib.Seq.{length-take-le}
use Rattle.ints.proofs.Tests.{and-false}
use Rattle.text.specs.Bytes.{bytes}
use Rattle.text.specs.Parser.{got, nothing, word}
use Rattle.script_words.specs.Parts.{parts, words, word_at}
use Rattle.script_words.specs.Numbers.{number_in, is_whole}
use Rattle.script_words.specs.inner.Ends.{PartEnds}
use Rattle.script_words.proofs.PartLaws.{part-first}
use Rattle.script_texts.specs.Texts.{unescaped}
use Rattle.script_texts.specs.declared.types.Text.{Text}
use Rattle.script_texts.specs.declared.types.Text.TheVariants.{Bytes, Bad}
use Rattle.script_texts.specs.inner.Units.{cut, text_in}
use Rattle.script_runs.specs.declared.types.RunRequest.{RunRequest}
use Rattle.script_runs.specs.Runs.{is_request, request_in, room_in}
use Rattle.script_runs.specs.inner.Filled.{Asks}
use Rattle.script_forms.specs.Forms.{has_form, whole_at}
use Rattle.script_forms.specs.inner.First.{first_form}
use Rattle.script_commands.specs.Commands.{Command, skip, unknown, load, load_tangled, walk}
use Rattle.script_commands.specs.Table.{Row, calls, plan_pokes, loading_pokes, drawing_pokes, said_by, is_skipped, loading, walking, placing, command_of}
use Rattle.script_commands.specs.inner.Held.{Lent, command_in, shortened, Inside, Commands, is_bare, Bare}
use Rattle.script_commands.specs.declared.types.Command.{Command as Found}
use Rattle.script_commands.specs.declared.types.Command.TheVariants.{Skip, Unknown, Load, LoadTangled, Draw, Clear, Stage, Line, Lines, TextLine, Texts, Mark, Marks, Walk, PlaceRun, Poke}

-- What row k says.
abbrev pub says_at : List Row → ℕ → List ℕ → Command
says_at [] k l = unknown
says_at (r ∷ rs) zero l = r.says l
says_at (r ∷ rs) (suc k) l = says_at rs k l

abbrev pub forms_of : List Row → List (List ℕ)
forms_of rs = map (λ (r : Row). r.form) rs

module _ (l : List ℕ) where
  first-row : (t : Bool) (x : ℕ) (a b : Command) → cond t 0 (suc x) ≡ 0 → cond t a b ≡ a
  first-row true x a b e = refl
  first-row false x a b e = absurd (omega arith)

  later-row : (t : Bool) (x k : ℕ) (a b d : Command) → cond t 0 (suc x) ≡ suc k → (x ≡ k → b ≡ d) → cond t a b ≡ d
  later-row true x k a b d e f = absurd (omega arith)
  later-row false x k a b d e f = f (omega arith)

  no_row : (t : Bool) (x n : ℕ) (a b d : Command) → suc n ≤ cond t 0 (suc x) → (n ≤ x → b ≡ d) → cond t a b ≡ d
  no_row true x n a b d h f = absurd (omega arith)
  no_row false x n a b d h f = f (omega arith)

  pub said_at : (rs qs : List Row) (k : ℕ) → first_form (forms_of rs) l ≡ k → k < length rs → said_by (rs ++ qs) l ≡ says_at rs k l
  unfolding said_by first_form
  said_at [] qs k e h = absurd (omega arith)
  said_at (r ∷ rs) qs zero e h = first-row (has_form r.form l) (first_form (forms_of rs) l) (r.says l) (said_by (rs ++ qs) l) e
  said_at (r ∷ rs) qs (suc k) e h = later-row (has_form r.form l) (first_form (forms_of rs) l) k (r.says l) (said_by (rs ++ qs) l) (says_at rs k l) e
      (λ q. said_at rs qs k q (omega arith))

  pub said-none : (rs qs : List Row) → length rs ≤ first_form (forms_of rs) l → said_by (rs ++ qs) l ≡ said_by qs l
  unfolding said_by first_form
  said-none [] qs h = refl
  said-none (r ∷ rs) qs h = no_row (has_form r.form l) (first_form (forms_of rs) l) (length rs) (r.says l) (said_by (rs ++ qs) l) (said_by qs l) h
      (said-none rs qs)

-- not the number n: one more
pub above : {k : ℕ} (n : ℕ) → n ≤ k → (k ≡ n → ⊥) → n + 1 ≤ k
above n h e = omega arith

pub skipped-empty : (l : List ℕ) → length l ≡ 0 → is_skipped l ≡ true
skipped-empty [] e = refl
skipped-empty (b ∷ l) e = absurd (omega arith)

pub skipped-first : (l : List ℕ) → (length l ≡ 0 → ⊥) → is_skipped l ≡ eqb (get_or l 0 0) 35
skipped-first [] n = absurd (n refl)
skipped-first (b ∷ l) n = refl

-- ---- the cases of a line
module _ (l : List ℕ) where
  pub command-skip : is_skipped l ≡ true → command_of l ≡ skip
  unfolding command_of
  command-skip e = rw e

  module _ (e : is_skipped l ≡ false) where
    pub command-load : (rest : List ℕ) → word (bytes "load 1 strict ") l ≡ got tt rest → command_of l ≡ loading load (unescaped rest)
    unfolding command_of
    command-load rest q = rw (e, q)

    module _ (f : word (bytes "load 1 strict ") l ≡ nothing) where
      pub command-tangled : (rest : List ℕ) → word (bytes "load 1 tangled ") l ≡ got tt rest
          → command_of l ≡ loading load_tangled (unescaped rest)
      unfolding command_of
      command-tangled rest q = rw (e, f, q)

      module _ (g : word (bytes "load 1 tangled ") l ≡ nothing) where
        pub command-walk : (rest : List ℕ) → word (bytes "walk ") l ≡ got tt rest → command_of l ≡ walking rest
        unfolding command_of
        command-walk rest q = rw (e, f, g, q)

        module _ (h : word (bytes "walk ") l ≡ nothing) where
          pub command-place : (rest : List ℕ) → word (bytes "placerun ") l ≡ got tt rest → command_of l ≡ placing (words rest)
          unfolding command_of
          command-place rest q = rw (e, f, g, h, q)

          pub command-said : word (bytes "placerun ") l ≡ nothing → command_of l ≡ said_by (calls ++ plan_pokes ++ loading_pokes ++ drawing_pokes) l
          unfolding command_of
          command-said q = rw (e, f, g, h, q)

-- ---- what the program found
loading-cut : (b : Lent) (say : List ℕ → Command) → ((t : List ℕ) → shortened b (say t) ≡ say (take (length b.text) t))
    → (o : Option (List ℕ)) → shortened b (loading say o) ≡ loading say (cut (length b.text) o)
loading-cut b say s none = refl
loading-cut b say s (some t) = s t

-- `say` is which load, and s that its text is cut to the room
module _ (before : Lent) (say : List ℕ → Command) (s : (t : List ℕ) → shortened before (say t) ≡ say (take (length before.text) t))
    (o : Option (List ℕ)) (r : Text) (out : List ℕ) (e : text_in r out ≡ cut (length before.text) o) where
  pub load-text : (n : ℕ) → r ≡ Bytes n → say (take n out) ≡ shortened before (loading say o)
  load-text n q = ap (loading say) (sym (ap (λ (t : Text). text_in t out) q) ∙ e) ∙ sym (loading-cut before say s o)

  pub load-bad : r ≡ Bad → unknown ≡ shortened before (loading say o)
  load-bad q = ap (loading say) (sym (ap (λ (t : Text). text_in t out) q) ∙ e) ∙ sym (loading-cut before say s o)

-- the words of a walk; `end` is where its number ends
module _ (given : List ℕ) (end : ℕ) (p : PartEnds 32 given 0 end) where
  level : word_at given 0 ≡ take end given
  level = let e : end - 0 ≡ end = omega arith in part-first 32 given 0 end p ∙ ap (λ (n : ℕ). take n given) e

  pub walk-no-number : (before : Lent) → is_whole (number_in (take end given)) ≡ false → unknown ≡ shortened before (walking given)
  walk-no-number before e = rw (level, e)

  pub walk-no-text : (before : Lent) → length given ≤ end → unknown ≡ shortened before (walking given)
  walk-no-text before h = rw (level, length-take-le end given p.inside, le-ltb end (length given) h, and-false)

  pub walking-is : is_whole (number_in (take end given)) ≡ true → end < length given
      → walking given ≡ loading (walk (whole_at given 0)) (unescaped (drop (end + 1) given))
  walking-is e h = rw (level, length-take-le end given p.inside, e, lt-ltb end (length given) h)

module _ (ws : List (List ℕ)) (before : Lent) where
  pub place-not : is_request ws ≡ false → unknown ≡ shortened before (placing ws)
  place-not e = rw e

  pub place_is : (r : RunRequest) (after : Lent) → is_request ws ≡ true → Asks (request_in ws) (room_in ws) before.run r after.run
      → command_in (PlaceRun r) after ≡ shortened before (placing ws)
  place_is r after e a = rw (e, a.holds, a.roomy)

-- a command that has nothing in the buffers is not cut
keeps : (b : Lent) (r : Found) → is_bare r ≡ true → shortened b (command_in r b) ≡ command_in r b
keeps b Skip e = refl
keeps b Unknown e = refl
keeps b (Load n) e = absurd (false≢true e)
keeps b (LoadTangled n) e = absurd (false≢true e)
keeps b Draw e = refl
keeps b Clear e = refl
keeps b Stage e = refl
keeps b (Line n m) e = refl
keeps b Lines e = refl
keeps b (TextLine n m) e = refl
keeps b Texts e = refl
keeps b (Mark n) e = refl
keeps b Marks e = refl
keeps b (Walk l n) e = absurd (false≢true e)
keeps b (PlaceRun q) e = absurd (false≢true e)
keeps b (Poke p) e = refl

bare-inside : (b : Lent) (r : Found) → is_bare r ≡ true → Inside b r
bare-inside b Skip e = tt
bare-inside b Unknown e = tt
bare-inside b (Load n) e = absurd (false≢true e)
bare-inside b (LoadTangled n) e = absurd (false≢true e)
bare-inside b Draw e = tt
bare-inside b Clear e = tt
bare-inside b Stage e = tt
bare-inside b (Line n m) e = tt
bare-inside b Lines e = tt
bare-inside b (TextLine n m) e = tt
bare-inside b Texts e = tt
bare-inside b (Mark n) e = tt
bare-inside b Marks e = tt
bare-inside b (Walk l n) e = absurd (false≢true e)
bare-inside b (PlaceRun q) e = absurd (false≢true e)
bare-inside b (Poke p) e = tt

pub bare-command : (c : Command) (r : Found) (b : Lent) → Bare c r → Commands c b r b
bare-command c r b t = record {
  says = t.says b ∙ sym (ap (shortened b) (sym (t.says b)) ∙ keeps b r t.bare ∙ t.says b);
  inside = bare-inside b r t.bare;
}

-- ---- the program's forms, one a line, are those of the tables
pub calls-forms : parts 10 (bytes "draw 1\nclear 1\nstage 1\nline 1 N\nline 1 N N\nlines 1\nmark 1 N\nmarks 1\ntext 1 N\ntext 1 N N\ntexts 1") ≡ forms_of calls
unfolding parts calls
calls-forms = refl

pub plan-forms : parts 10 (bytes "poke 1 stage empty\npoke 1 stage loaded N N\npoke 1 stage drawn N N N\npoke 1 k N\npoke 1 g N\npoke 1 s N\npoke 1 size N N\npoke 1 vertex N box N\npoke 1 vertex N via N\npoke 1 seg N N N\npoke 1 seg N N N N") ≡ forms_of plan_pokes
unfolding parts plan_pokes
plan-forms = refl

pub loading-forms : parts 10 (bytes "poke 1 mem N N\npoke 1 tangled 0\npoke 1 tangled 1") ≡ forms_of loading_pokes
unfolding parts loading_pokes
loading-forms = refl

pub drawing-forms : parts 10 (bytes "poke 1 pre N Z\npoke 1 pos N Z\npoke 1 pass N N\npoke 1 level N N\npoke 1 box N N N Z") ≡ forms_of drawing_pokes
unfolding parts drawing_pokes
drawing-forms = refl

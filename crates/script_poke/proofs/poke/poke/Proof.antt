-- `script_poke::poke::poke` meets its contract: one arm a variant.
use borrow.Author.Rules.{rules}
use Rattle.ints.proofs.Laws.{back'}
use Rattle.script_poke.specs.Poked as spec
use Rattle.script_poke.proofs.poke.poke.Statement.{statement}
use Rattle.script_poke.proofs.poke.poke.Tie as tie

returns : tie.Need-returns-in-Empty
unfolding spec.poke
returns c = rw (c.in-Empty.is, c.put_stage.ensures)

returns-2 : tie.Need-returns-in-Loaded
unfolding spec.poke
returns-2 c = rw (c.in-Loaded.is, c.put_stage-in-Loaded.ensures)

returns-3 : tie.Need-returns-in-Drawn
unfolding spec.poke
returns-3 c = rw (c.in-Drawn.is, c.put_stage-in-Drawn.ensures)

returns-4 : tie.Need-returns-in-Levels
unfolding spec.poke
returns-4 c = rw (c.in-Levels.is, c.put_levels.ensures)

returns-5 : tie.Need-returns-in-Gap
unfolding spec.poke
returns-5 c = rw (c.in-Gap.is, c.put_gap.ensures)

returns-6 : tie.Need-returns-in-Spacing
unfolding spec.poke
returns-6 c = rw (c.in-Spacing.is, c.put_spacing.ensures)

returns-7 : tie.Need-returns-in-Size
unfolding spec.poke
returns-7 c = rw (c.in-Size.is, c.put_size.ensures, c.in_16.ensures)

returns-8 : tie.Need-returns-in-Vertex
unfolding spec.poke
returns-8 c = rw (c.in-Vertex.is, c.put_vertex.ensures, c.in_16-in-Vertex.ensures)

returns-9 : tie.Need-returns-in-Segment
unfolding spec.poke
returns-9 c = rw (
  c.in-Segment.is,
  c.put_segment.ensures,
  c.in_32.ensures,
  c.in_32-in-Segment.ensures,
  c.in_32-in-Segment-2.ensures,
)

returns-10 : tie.Need-returns-in-Remembered
unfolding spec.poke
returns-10 c = rw (c.in-Remembered.is, c.put_remembered.ensures, c.in_16-in-Remembered.ensures)

returns-11 : tie.Need-returns-in-Tangled
unfolding spec.poke
returns-11 c = rw (c.in-Tangled.is, c.put_tangled.ensures)

returns-12 : tie.Need-returns-in-Preliminary
unfolding spec.poke
returns-12 c = rw (c.in-Preliminary.is, c.put_preliminary.ensures)
    (simp (back' c.in-Preliminary.x c.in-Preliminary.known_told-in-Preliminary-1-own.given.1.0.1))

returns-13 : tie.Need-returns-in-Final
unfolding spec.poke
returns-13 c = rw (c.in-Final.is, c.put_final.ensures)
    (simp (back' c.in-Final.x c.in-Final.known_told-in-Final-1-own.given.1.0.1))

returns-14 : tie.Need-returns-in-Pass
unfolding spec.poke
returns-14 c = rw (c.in-Pass.is, c.put_pass.ensures, c.in_16-in-Pass.ensures)

returns-15 : tie.Need-returns-in-Level
unfolding spec.poke
returns-15 c = rw (c.in-Level.is, c.put_level.ensures, c.in_16-in-Level.ensures)

returns-16 : tie.Need-returns-in-Listed
unfolding spec.poke
returns-16 c = rw (c.in-Listed.is, c.put_listed.ensures, c.in_16-in-Listed.ensures)
    (simp (back' c.in-Listed.x c.in-Listed.known_told-in-Listed-1-own.given.1.1.1.0.1))

pub poke_spec : {M : Type 1} → statement M
poke_spec =
    tie.close
    (tie.spec (λ c. search rules) (λ c κs. search rules) (λ c. search rules) (λ c κs. search rules) (λ c. search rules) (λ c κs. search rules)
    (λ c. search rules) (λ c κs. search rules) (λ c. search rules) (λ c κs. search rules) (λ c. search rules) (λ c κs. search rules)
    (λ c. search rules) (λ c κs. search rules) (λ c κs. search rules) (λ c. search rules) (λ c κs. search rules) (λ c κs. search rules)
    (λ c. search rules) (λ c κs. search rules) (λ c κs. search rules) (λ c κs. search rules) (λ c κs. search rules) (λ c. search rules)
    (λ c κs. search rules) (λ c κs. search rules) (λ c. search rules) (λ c κs. search rules) (λ c. search rules) (λ c κs. search rules)
    (λ c. search rules) (λ c κs. search rules) (λ c. search rules) (λ c κs. search rules) (λ c κs. search rules) (λ c. search rules)
    (λ c κs. search rules) (λ c κs. search rules) (λ c. search rules) (λ c κs. search rules) (λ c κs. search rules) returns returns-2
    returns-3 returns-4 returns-5 returns-6 returns-7 returns-8 returns-9 returns-10 returns-11 returns-12 returns-13 returns-14
    returns-15 returns-16)

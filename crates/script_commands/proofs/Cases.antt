-- The definition computed on a few lines.
use mathlib.Core.Path.{◌≡◌, refl}
use mathlib.Core.Bool.{true, false}
use mathlib.Core.List.{[], ◌∷◌}
use lib.IntN.{pos, negsuc}
use Rattle.plan.specs.Checks.{every}
use Rattle.text.specs.Bytes.{bytes}
use Rattle.text.specs.Parser.{word}
use Rattle.std.specs.Prelude.{None, Some}
use Rattle.script_words.specs.Parts.{parts, same}
use Rattle.script_words.specs.Numbers.{value_from, is_natural, natural_in, number_in}
use Rattle.script_texts.specs.Texts.{hex_value, unescaped}
use Rattle.script_forms.specs.Forms.{stands_for, fits}
use Rattle.script_runs.specs.Lists.{is_list, wholes_in, signeds_in}
use Rattle.script_runs.specs.Names.{values_of}
use Rattle.script_runs.specs.Runs.{has_parts, has_options, has_numbers, has_lists, is_request, request_in}
use Rattle.script_commands.specs.declared.types.Poke.TheVariants.{Drawn, Vertex, Remembered, Tangled, Final, Listed}
use Rattle.script_commands.specs.Commands.{skip, unknown, load, load_tangled, draw, line, text_line, texts, mark, walk, place_run, poke}
use Rattle.script_commands.specs.Table.{long_enough, calls, plan_pokes, loading_pokes, drawing_pokes, said_by, command_of}

record Lines : Type 0 where
  empty : command_of [] ≡ skip
  remark : command_of (bytes "# draw 1") ≡ skip
  loaded : command_of (bytes "load 1 strict (end)\\n") ≡ load (bytes "(end)\n")
  loaded-tangled : command_of (bytes "load 1 tangled (end)\\n") ≡ load_tangled (bytes "(end)\n")
  no_text : command_of (bytes "load 1 strict") ≡ unknown
  empty-text : command_of (bytes "load 1 strict ") ≡ load []
  no-escape : command_of (bytes "load 1 strict \\q") ≡ unknown
  drawn : command_of (bytes "draw 1") ≡ draw
  another-sheet : command_of (bytes "draw 2") ≡ unknown
  two-spaces : command_of (bytes "draw  1") ≡ unknown
  a-space-after : command_of (bytes "draw 1 ") ≡ unknown
  line-long : command_of (bytes "line 1 52") ≡ line 52 long_enough
  line-room : command_of (bytes "line 1 32 33") ≡ line 32 33
  text-long : command_of (bytes "text 1 3") ≡ text_line 3 long_enough
  text-room : command_of (bytes "text 1 3 20") ≡ text_line 3 20
  all-texts : command_of (bytes "texts 1") ≡ texts
  leading-zero : command_of (bytes "line 1 032") ≡ unknown
  marked : command_of (bytes "mark 1 99") ≡ mark 99
  below-zero : command_of (bytes "mark 1 -1") ≡ unknown
  stage : command_of (bytes "poke 1 stage drawn 30 43 16") ≡ poke (Drawn 30 43 16)
  vertex : command_of (bytes "poke 1 vertex 44 via 200") ≡ poke (Vertex 44 true 200)
  number : command_of (bytes "poke 1 mem 4 7") ≡ poke (Remembered 4 7)
  first_way : command_of (bytes "poke 1 tangled 0") ≡ poke (Tangled false)
  second_way : command_of (bytes "poke 1 tangled 1") ≡ poke (Tangled true)
  no_way : command_of (bytes "poke 1 tangled 2") ≡ unknown
  position : command_of (bytes "poke 1 pos 4 -1099511627777") ≡ poke (Final 4 (negsuc 1099511627776))
  box : command_of (bytes "poke 1 box 0 1 1 1099511627777") ≡ poke (Listed 0 1 1 (pos 1099511627777))
  walked : command_of (bytes "walk 3 (end)\\n") ≡ walk 3 (bytes "(end)\n")
  walked_empty : command_of (bytes "walk 0 ") ≡ walk 0 []
  walk-without : command_of (bytes "walk 1") ≡ unknown
  walk-below-zero : command_of (bytes "walk -1 (end)") ≡ unknown
  run : command_of (bytes "placerun r=2 old=-9,2 left=-7 counts=2,0 nbrs=-9,-3 dist=1,15") ≡ place_run (record {
    boxes = 2;
    left = Some (negsuc 6);
    right = None;
    old = negsuc 8 ∷ pos 2 ∷ [];
    distances = 1 ∷ 15 ∷ [];
    counts = 2 ∷ 0 ∷ [];
    neighbours = negsuc 8 ∷ negsuc 2 ∷ [];
    ratings = 1 ∷ 1 ∷ [];
  }) 2
  run-rated : command_of (bytes "placerun ratings=100,-1 r=1 old=0 counts=2 nbrs=4,5 dist=") ≡ place_run (record {
    boxes = 1;
    left = None;
    right = None;
    old = pos 0 ∷ [];
    distances = [];
    counts = 2 ∷ [];
    neighbours = pos 4 ∷ pos 5 ∷ [];
    ratings = 100 ∷ 0 ∷ [];
  }) 1
  run_room : command_of (bytes "placerun old= nbrs= dist=-5 counts= answer=3 r=0") ≡ place_run (record {
    boxes = 0;
    left = None;
    right = None;
    old = [];
    distances = 0 ∷ [];
    counts = [];
    neighbours = [];
    ratings = [];
  }) 3
  run-twice : command_of (bytes "placerun r=0 old= nbrs= dist= counts= r=0") ≡ unknown
  run-rated-twice : command_of (bytes "placerun r=0 old= nbrs= dist= counts= ratings= ratings=") ≡ unknown
  run-other : command_of (bytes "placerun r=0 old= nbrs= dist= counts= room=0") ≡ unknown
  run-without : command_of (bytes "placerun r=0 old= nbrs= counts=") ≡ unknown

lines : Lines
unfolding command_of word unescaped hex_value said_by calls plan_pokes loading_pokes drawing_pokes fits stands_for parts same number_in natural_in is_natural every value_from has_parts has_options has_numbers has_lists is_request values_of is_list wholes_in signeds_in request_in
lines = record {
  empty = refl;
  remark = refl;
  loaded = refl;
  loaded-tangled = refl;
  no_text = refl;
  empty-text = refl;
  no-escape = refl;
  drawn = refl;
  another-sheet = refl;
  two-spaces = refl;
  a-space-after = refl;
  line-long = refl;
  line-room = refl;
  text-long = refl;
  text-room = refl;
  all-texts = refl;
  leading-zero = refl;
  marked = refl;
  below-zero = refl;
  stage = refl;
  vertex = refl;
  number = refl;
  first_way = refl;
  second_way = refl;
  no_way = refl;
  position = refl;
  box = refl;
  walked = refl;
  walked_empty = refl;
  walk-without = refl;
  walk-below-zero = refl;
  run = refl;
  run-rated = refl;
  run_room = refl;
  run-twice = refl;
  run-rated-twice = refl;
  run-other = refl;
  run-without = refl;
}

-- Document 01's limits: "K 1 to 64; G 1 to 100; S 1 to 10,000; half-width 1 to 200; at most 64 vertices on a level; at most
-- 1,024 vertices; at most 2,048 segments."
use Rattle.std.specs.Prelude.{Bool, ◌&&◌, ℕ, leb}

abbrev pub within : ℕ → ℕ → ℕ → Bool
within lo hi n = leb lo n && leb n hi

abbrev pub max_levels : ℕ
max_levels = 64

abbrev pub max_gap : ℕ
max_gap = 100

abbrev pub max_spacing : ℕ
max_spacing = 10000

abbrev pub max_half_width : ℕ
max_half_width = 200

abbrev pub max_on_level : ℕ
max_on_level = 64

abbrev pub max_vertices : ℕ
max_vertices = 1024

abbrev pub max_segments : ℕ
max_segments = 2048

-- ASCII text as a list of bytes.
use Rattle.std.specs.Prelude.{List, [] as nil, ◌∷◌ as ◌followed◌, ℕ}
use Prim.Native.Char.{code}
use Prim.Native.String.{String, [], ◌∷◌}

abbrev pub bytes : String → List ℕ
bytes [] = nil
bytes (c ∷ s) = ◌followed◌ (code c) (bytes s)

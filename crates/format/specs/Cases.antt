-- Document 01's starred cases ("Frame S and its neighbours") as one table: a blob, what is asked of it, what is to be said.
use Rattle.std.specs.Prelude.{ℕ, List, [], ◌∷◌, ◌++◌, replicate}
use Rattle.std.proofs.lemmas.List.Edits.{sets}
use Rattle.format.specs.Answer.{Outcome, ok, refused, numbers, itself, refusal_numbers}
use Rattle.format.specs.Bytes.{word}
use Rattle.format.specs.Format.{NONE}
use Rattle.format.specs.Tree.{Tree, node_count}
use Rattle.format.specs.Load.{Tables, tree_numbers, load, tables_after}
use Rattle.format.specs.Lookup.{find, prop_u32}
use Rattle.format.specs.Agrees.{used}

unfoldable pub words : List ℕ → List ℕ
words [] = []
words (n ∷ ns) = word n ++ words ns

-- frame S, 102 bytes
unfoldable pub S : List ℕ
S = words (0xd00dfeed ∷ 0x66 ∷ 0x38 ∷ 0x64 ∷ 0x28 ∷ 0x11 ∷ 0x10 ∷ 0 ∷ 2 ∷ 0x2c ∷ 0 ∷ 0 ∷ 0 ∷ 0
    ∷ 1 ∷ 0 ∷ 3 ∷ 4 ∷ 0 ∷ 0x2a ∷ 1 ∷ 0x62000000 ∷ 2 ∷ 2 ∷ 9 ∷ []) ++ 0x75 ∷ 0 ∷ []

-- tables of sevens with room for S's rows, and a number more in each
unfoldable pub lent : Tables
lent = record { reservations = replicate 3 7; nodes = replicate 15 7; properties = replicate 5 7 }

-- load it; load it and show a table; find a path; read a property of the root as a u32
pub data Ask : Type 0 where
  loads reservations nodes properties : Ask
  finds u32 : List ℕ → Ask

pub record Case : Type 0 where
  pub blob : List ℕ
  pub ask : Ask
  pub says : List ℕ

unfoldable pub cases : List Case
cases =
    record { blob = S; ask = loads; says = 0 ∷ 17 ∷ 0 ∷ 1 ∷ 2 ∷ 1 ∷ [] }
    ∷ record { blob = S; ask = reservations; says = 0 ∷ 0 ∷ 7 ∷ [] }
    ∷ record { blob = S; ask = nodes; says = 60 ∷ 0 ∷ NONE ∷ 1 ∷ NONE ∷ 0 ∷ 1 ∷ 84 ∷ 1 ∷ 0 ∷ NONE ∷ NONE ∷ 1 ∷ 0 ∷ 7 ∷ [] }
    ∷ record { blob = S; ask = properties; says = 100 ∷ 1 ∷ 76 ∷ 4 ∷ 7 ∷ [] }
    ∷ record { blob = []; ask = loads; says = 3 ∷ [] }
    ∷ record { blob = 1 ∷ 2 ∷ 3 ∷ 4 ∷ []; ask = loads; says = 1 ∷ [] }
    ∷ record { blob = words (0xd00dfeed ∷ 8 ∷ []); ask = loads; says = 3 ∷ [] }
    ∷ record { blob = sets S 80 (word 4); ask = loads; says = 4 ∷ 80 ∷ [] }
    ∷ record { blob = sets S 68 (word 5); ask = loads; says = 4 ∷ 84 ∷ [] }
    ∷ record { blob = sets S 88 (word 3); ask = loads; says = 3 ∷ [] }
    ∷ record { blob = sets S 84 (0xff ∷ []); ask = loads; says = 5 ∷ [] }
    ∷ record { blob = sets (sets S 84 (0xff ∷ [])) 88 (word 4); ask = loads; says = 4 ∷ 88 ∷ [] }
    ∷ record { blob = S; ask = finds (0x2f ∷ 0x62 ∷ []); says = 0 ∷ 1 ∷ [] }
    ∷ record { blob = S; ask = finds (0x2f ∷ 0x62 ∷ 0x2f ∷ []); says = 0 ∷ 1 ∷ [] }
    ∷ record { blob = S; ask = finds (0x2f ∷ 0x2f ∷ []); says = 11 ∷ [] }
    ∷ record { blob = S; ask = u32 (0x75 ∷ []); says = 0 ∷ 42 ∷ [] }
    ∷ []

-- what a load, the tables that it leaves, and lookups in them say
unfoldable pub after_load : List ℕ → Outcome Tree → Ask → List ℕ
after_load b m loads = numbers tree_numbers m
after_load b m reservations = (tables_after lent b m).reservations
after_load b m nodes = (tables_after lent b m).nodes
after_load b m properties = (tables_after lent b m).properties
after_load b (refused r) (finds path) = refusal_numbers r
after_load b (ok t) (finds path) = numbers itself (find b (tables_after lent b (ok t)).nodes (node_count t.root) path)
after_load b (refused r) (u32 name) = refusal_numbers r
after_load b (ok t) (u32 name) = numbers itself (prop_u32 b (used (tables_after lent b (ok t)) t) 0 name)

unfoldable pub said : Case → List ℕ
said c = after_load c.blob (load lent c.blob) c.ask

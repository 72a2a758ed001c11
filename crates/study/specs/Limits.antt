-- The limits that documents 01 and 02 set, each once, and tables in rows of as many places as there can be tides. Assumes nothing.
use Rattle.std.specs.Prelude.{ℕ, ◌+◌, ◌*◌, List, get_or}

-- the most tides that a dataset holds, and the greatest minimum of a block
abbrev pub max_tides : ℕ
max_tides = 120

-- the places of a table that has a row of max_tides places for each tide
abbrev pub table_size : ℕ
table_size = 14400

-- the most settings; there is a b for each
abbrev pub max_settings : ℕ
max_settings = 8

-- the greatest distance
abbrev pub max_distance : ℕ
max_distance = 1048575

-- the users (document 02: keepers); there is a count of withdrawals for each
abbrev pub max_users : ℕ
max_users = 4

-- the greatest count of withdrawals
abbrev pub max_withdrawals : ℕ
max_withdrawals = 65535

-- place j of row i of such a table
abbrev pub cell : List ℕ → ℕ → ℕ → ℕ
cell l i j = get_or l (i * max_tides + j) 0

-- The sheets of documents 01 and 02 (2.7) and some more, from the bytes of files of both marks. There are no proofs here: `sheets` of
-- CasesProof.antt proves the statement, by computation. Assumes nothing.
use Rattle.std.specs.Prelude.{◌≡◌, [], ◌∷◌, ◌++◌, map, replicate}
use Rattle.sheet_text.specs.Text.{ascii}
use Rattle.sheet_of_file.specs.Sheet.{sheet_of}

-- each file and its sheet
abbrev pub Sheets : Type 0
Sheets =
    map sheet_of
    -- one tide, k = 1, b0 = 1
    ((0x55 ∷ 0x02 ∷ 0x20 ∷ 0x40 ∷ replicate 9 0)
    -- the same after 65,535 withdrawals by user 1, 1 by user 2, 20 by user 3 and 300 by user 4
    ∷ (0x55 ∷ 0x02 ∷ 0x20 ∷ 0x7f ∷ 0xff ∷ 0xc0 ∷ 0x00 ∷ 0x40 ∷ 0x05 ∷ 0x00 ∷ 0x4b ∷ 0x00 ∷ 0x00 ∷ [])
    -- both of mark 54: the one count is user 1's
    ∷ (0x54 ∷ 0x02 ∷ 0x20 ∷ 0x40 ∷ 0x00 ∷ 0x00 ∷ 0x00 ∷ [])
    ∷ (0x54 ∷ 0x02 ∷ 0x20 ∷ 0x7f ∷ 0xff ∷ 0xc0 ∷ 0x00 ∷ [])
    -- one tide, b0 = 2
    ∷ (0x55 ∷ 0x02 ∷ 0x20 ∷ 0x80 ∷ replicate 9 0)
    ∷ (0x54 ∷ 0x02 ∷ 0x20 ∷ 0x80 ∷ 0x00 ∷ 0x00 ∷ 0x00 ∷ [])
    -- no tides
    ∷ (0x55 ∷ 0x00 ∷ 0x20 ∷ 0x40 ∷ replicate 9 0)
    ∷ (0x54 ∷ 0x00 ∷ 0x20 ∷ 0x40 ∷ 0x00 ∷ 0x00 ∷ 0x00 ∷ [])
    -- a byte too few
    ∷ (0x55 ∷ 0x00 ∷ 0x20 ∷ 0x40 ∷ replicate 8 0)
    ∷ (0x54 ∷ 0x00 ∷ 0x20 ∷ 0x40 ∷ 0x00 ∷ 0x00 ∷ [])
    -- a tide at 1 and 1 from two tides at 3: without its pair
    ∷ (0x55 ∷ 0x06 ∷ 0x20 ∷ 0x40 ∷ (replicate 11 0 ++ (0x60 ∷ 0x00 ∷ 0x00 ∷ 0x40 ∷ 0x00 ∷ 0x04 ∷ [])))
    ∷ (0x54 ∷ 0x06 ∷ 0x20 ∷ 0x40 ∷ 0x00 ∷ 0x00 ∷ 0x00 ∷ 0x00 ∷ 0x00 ∷ 0x60 ∷ 0x00 ∷ 0x00 ∷ 0x40 ∷ 0x00 ∷ 0x04 ∷ [])
    ∷ [])
    ≡ ascii "block centre tides widest\n1 1 1 0\nreach 0 widest 0 withdrawn 0 0 0 0\n"
    ∷ ascii "block centre tides widest\n1 1 1 0\nreach 0 widest 0 withdrawn 65535 1 20 300\n"
    ∷ ascii "block centre tides widest\n1 1 1 0\nreach 0 widest 0 withdrawn 0 0 0 0\n"
    ∷ ascii "block centre tides widest\n1 1 1 0\nreach 0 widest 0 withdrawn 65535 0 0 0\n"
    ∷ ascii "refused 25\n"
    ∷ ascii "refused 25\n"
    ∷ ascii "refused 24\n"
    ∷ ascii "refused 24\n"
    ∷ ascii "refused 8\n"
    ∷ ascii "refused 8\n"
    ∷ ascii "refused 7\n"
    ∷ ascii "refused 7\n"
    ∷ []

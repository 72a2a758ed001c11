-- "The study file" of document 01, with the counts and marks of document 02, 2.7: the fields of a file and its bytes; what the fields of
-- given bytes hold, and why Read refuses them. Assumes nothing.
use Rattle.std.specs.Prelude.{ℕ, ◌+◌, ◌-◌, ◌*◌, ◌/◌, cond, not, ◌&&◌, ◌||◌, ltb, eqb, length, take, replicate}
use mathlib.Core.List.{List, [], ◌∷◌, ◌++◌, map, flat_map}
use Rattle.lists.specs.Lists.{between, iota, tabulate, is_empty}
use Rattle.study.specs.Limits.{max_tides, max_users}
use Rattle.study.specs.declared.Minima.{Minima}
use Rattle.study.specs.Study.{Tide, Study, Contents, size, tide, distance, valid_minima}
use Rattle.study.specs.Refusals.{number, Reason, ◌⇒◌}
use Rattle.study.specs.Calls.{violations, first_violation}
use Rattle.file_format.specs.Bits.{bits_at, Field, field, all_bits, packed}

-- ---- the file of given contents

-- the mark of a file that carries a count for each user
abbrev pub new_mark : ℕ
new_mark = 0x55

-- the mark of document 01's files, which carry one count
abbrev pub old_mark : ℕ
old_mark = 0x54

-- a tide: setting less one, and its distances to the earlier tides
unfoldable pub tide_fields : Tide → List Field
tide_fields x = field 3 (x.setting - 1) ∷ map (field 20) x.row

-- all fields of a file with this mark and these counts of withdrawals, in document 01's order
unfoldable pub fields : ℕ → List ℕ → Study → List Field
fields mark counts S =
    -- mark
    field 8 mark
    -- tides
    ∷ field 7 (size S)
    -- k
    ∷ field 4 S.k
    -- b0
    ∷ field 7 S.minima.b0
    -- the counts, k minima, then each tide
    ∷ (map (field 16) counts ++ (map (field 7) (take S.k S.minima.b) ++ flat_map tide_fields S.tides))

-- the bytes that these fields fill
unfoldable pub file_with : ℕ → List ℕ → Study → List ℕ
file_with mark counts S = packed (all_bits (fields mark counts S))

-- document 02, 2.7: the file of given contents: a count for each user, and a mark of its own
unfoldable pub file_of : Contents → List ℕ
file_of H = file_with new_mark H.withdrawals H.study

-- document 01's file of a study and one count, which is no longer written
unfoldable pub old_file : ℕ → Study → List ℕ
old_file count S = file_with old_mark (count ∷ []) S

-- where c counts end: the fields before them have 26 bits, and each count has 16
abbrev pub counts_end : ℕ → ℕ
counts_end c = 26 + 16 * c

-- the bits of a file of c counts, k settings and n tides, without the fill bits
unfoldable pub bit_length : ℕ → ℕ → ℕ → ℕ
bit_length c k n = counts_end c + 7 * k + 3 * n + 10 * (n * (n - 1))

-- its bytes: the last one is filled with zero bits
unfoldable pub byte_length : ℕ → ℕ → ℕ → ℕ
byte_length c k n = (bit_length c k n + 7) / 8

-- ---- what given bytes hold, by bit position

-- how many counts a file of this mark carries
unfoldable pub counts_under : ℕ → ℕ
counts_under mark = cond (eqb mark new_mark) max_users 1

-- a file's mark
abbrev pub mark_of : List ℕ → ℕ
mark_of s = bits_at s 0 8

-- how many counts it carries
abbrev pub counts_in : List ℕ → ℕ
counts_in s = counts_under (mark_of s)

-- the counts of the file, from user 1 on; those of the other users are 0
unfoldable pub counts_at : List ℕ → List ℕ
counts_at s = tabulate (counts_in s) (λ i. bits_at s (counts_end i) 16) ++ replicate (max_users - counts_in s) 0

-- tide t begins where the bits of t tides end
unfoldable pub tide_at : List ℕ → ℕ → ℕ → Tide
tide_at s k t =
    let at = bit_length (counts_in s) k t in
    record { setting = bits_at s at 3 + 1; row = tabulate t (λ i. bits_at s (at + 3 + 20 * i) 20) }

-- the k minima of the file; those above k are 0
unfoldable pub minima_at : List ℕ → ℕ → Minima
minima_at s k = record { b0 = bits_at s 19 7; b = tabulate k (λ j. bits_at s (counts_end (counts_in s) + 7 * j) 7) ++ replicate (8 - k) 0 }

-- the contents that given bytes hold
unfoldable pub decoded : List ℕ → Contents
decoded s =
    let n = bits_at s 8 7 in
    let k = bits_at s 15 4 in
    record { study = record { k = k; minima = minima_at s k; tides = tabulate n (tide_at s k) }; withdrawals = counts_at s }

-- ---- Read's own reasons, in the documents' order

-- before any tide: 8 under 6 bytes, 9 neither mark, 8 the new mark under 12 bytes, 10, 2, 8 another length, 3, 11
unfoldable pub head_reasons : List ℕ → List Reason
head_reasons s =
    let n = bits_at s 8 7 in
    let k = bits_at s 15 4 in
    let end = bit_length (counts_in s) k n in
    (ltb (length s) 6 ⇒ number 8)
    ∷ (not (eqb (mark_of s) new_mark || eqb (mark_of s) old_mark) ⇒ number 9)
    ∷ (eqb (mark_of s) new_mark && ltb (length s) 12 ⇒ number 8)
    ∷ (ltb max_tides n ⇒ number 10)
    ∷ (not (between 1 8 k) ⇒ number 2)
    ∷ (not (eqb (length s) (byte_length (counts_in s) k n)) ⇒ number 8)
    ∷ (not (valid_minima k (minima_at s k)) ⇒ number 3)
    ∷ (not (eqb (bits_at s end (8 * length s - end)) 0) ⇒ number 11)
    ∷ []

-- of tide t: its setting, and the first pair of earlier tides that violates the triangle inequality with it
unfoldable pub tide_reasons : Study → ℕ → List Reason
tide_reasons S t =
    let violating = violations (distance S) t (distance S t) in
    (not (between 1 S.k (tide S t).setting) ⇒ number 5)
    ∷ (not (is_empty violating) ⇒ first_violation violating)
    ∷ []

-- all reasons: those before any tide, then those of each tide
unfoldable pub read_reasons : List ℕ → List Reason
read_reasons s =
    let S = (decoded s).study in
    head_reasons s ++ flat_map (tide_reasons S) (iota 0 (size S))

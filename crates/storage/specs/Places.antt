-- What Open, Enter and Withdraw write into memory, place by place, and that it lays out the study they make. Assumes nothing.
use Rattle.std.specs.Prelude.{ℕ, zero, suc, ◌+◌, ◌*◌, ◌/◌, ◌%◌, cond, List, leb, length, get_or, set}
use Rattle.study.specs.Limits.{cell, max_tides}
use Rattle.study.specs.Calls.{skip}

-- the first m distances of a new tide's row, in its row and in its column
unfoldable pub with_row : List ℕ → ℕ → List ℕ → List ℕ
with_row row zero d = d
with_row row (suc m) d = set (set (with_row row m d) (length row * max_tides + m) (get_or row m 0)) (m * max_tides + length row) (get_or row m 0)

-- what place p of the distances holds once tide m is gone: the distance of the tides that move there; past the memory there is none
unfoldable pub moved_distance : List ℕ → ℕ → ℕ → ℕ
moved_distance d m p =
    cond (leb max_tides (skip m (p / max_tides))) 0 (cond (leb max_tides (skip m (p % max_tides))) 0 (cell d (skip m (p / max_tides)) (skip m (p % max_tides))))

-- what place t of the settings holds once tide m is gone: the setting of the tide that moves there; past the memory there is none
unfoldable pub moved_setting : List ℕ → ℕ → ℕ → ℕ
moved_setting g m t = cond (leb max_tides (skip m t)) 0 (get_or g (skip m t) 0)

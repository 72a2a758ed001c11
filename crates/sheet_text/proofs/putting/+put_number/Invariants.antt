-- The number falls: the digits of its tenth part are put first. Assumes nothing.
use Rattle.sheet_text.proofs.putting.+put_number.Given as goal

abbrev pub decreases-put_number : goal.decreases-put_number
decreases-put_number l = l.x

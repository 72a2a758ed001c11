-- A measured study with its distances lowered to their metric closure (document 02, 2.1: mended), and the text of it, in the form that
-- study_text reads. Assumes nothing.
use Rattle.std.specs.Prelude.{ℕ, cond, ltb, length, take}
use mathlib.Core.List.{List, [], ◌++◌, flat_map}
use Rattle.lists.specs.Lists.{tabulate, over}
use Rattle.study.specs.Study.{Tide, Study, with_tides, size, tide, distance}
use Rattle.study.specs.Refusals.{number}
use Rattle.metric_closure.specs.Closure.{closure, lowered_pairs}
use Rattle.sheet_text.specs.Text.{ascii, decimal, spaced}
use Rattle.text_words.specs.Words.{newlines}
use Rattle.study_text.specs.declared.Rule.TheVariants as RuleCase
use Rattle.study_text.specs.Packing.{Report, done, refused_at, too_long, Turn, going, ended, stopped, text_of}

-- ---- the study

-- how many pairs of tides are lowered
unfoldable pub lowered : Study → ℕ
lowered S = lowered_pairs (size S) (distance S)

-- tide t: its setting, and its lowered distances to the tides before it
unfoldable pub closed_tide : Study → ℕ → Tide
closed_tide S t = record { setting = (tide S t).setting; row = tabulate t (closure (size S) (distance S) t) }

-- the same study with its distances lowered
unfoldable pub closed_study : Study → Study
closed_study S = with_tides (tabulate (size S) (closed_tide S)) S

-- ---- its text

-- numbers on a line of their own, single blanks between
unfoldable pub number_line : ℕ → List ℕ → List ℕ
number_line x xs = decimal x ++ flat_map spaced xs ++ ascii "\n"

-- a tide: its setting and its distances to the tides before it
unfoldable pub tide_line : Tide → List ℕ
tide_line x = number_line x.setting x.row

-- a study: k; b0 and the b of each setting; the tides
unfoldable pub study_text : Study → List ℕ
study_text S = number_line S.k [] ++ number_line S.minima.b0 (take S.k S.minima.b) ++ flat_map tide_line S.tides

-- the first line, a comment
unfoldable pub lowered_line : ℕ → List ℕ
lowered_line pairs = ascii "# " ++ decimal pairs ++ ascii " pairs lowered\n"

-- what `mend` writes of a measured study: that line, and the closed study
unfoldable pub closure_text : Study → List ℕ
closure_text S = lowered_line (lowered S) ++ study_text (closed_study S)

-- ---- what is said of a text whose tides are measured, and what is written

-- as long as the longest text that is read; a closure's text is never longer
abbrev pub text_room : ℕ
text_room = 131072

-- of a text that was read: the length of the closure's text; with less room than that 1, at the text's end. No text is still going after 121 turns
abbrev pub reported : Turn → ℕ → Report
reported (ended H l) room = cond (ltb room text_room) (refused_at l (number 1)) (done (length (closure_text H.study)))
reported (stopped t) room = t
reported (going H c) room = refused_at c.line (number 22)

-- the lent bytes: those past the closure's text stay
abbrev pub printed : Turn → List ℕ → List ℕ
printed (ended H l) bytes = cond (ltb (length bytes) text_room) bytes (over (closure_text H.study) bytes)
printed (stopped t) bytes = bytes
printed (going H c) bytes = bytes

-- what is said of any text; one above 131,072 bytes is too long
unfoldable pub mend_answer : List ℕ → ℕ → Report
mend_answer text room = cond (ltb text_room (length text)) (too_long (newlines text)) (reported (text_of RuleCase.Measured text) room)

-- the lent bytes after it
unfoldable pub mend_leaves : List ℕ → List ℕ → List ℕ
mend_leaves text bytes = cond (ltb text_room (length text)) bytes (printed (text_of RuleCase.Measured text) bytes)

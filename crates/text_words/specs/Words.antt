-- The words of a text: what stands next at a place. Bytes are ASCII. Assumes nothing.
use Rattle.std.specs.Prelude.{ℕ, ◌+◌, ◌-◌, ◌*◌, ◌≤◌, Bool, false, cond, not, ◌&&◌, ◌||◌, List, [], ◌∷◌, leb, eqb, ltb, length, drop, Result, Ok, Err}
use Rattle.lists.specs.Lists.{between, bit, all_of}
use Rattle.text_words.specs.declared.Cursor.{Cursor}
use Rattle.text_words.specs.declared.Word.{Word}
use Rattle.text_words.specs.declared.Word.TheVariants as WordCase
use Rattle.text_words.specs.declared.NumeralError.{NumeralError}
use Rattle.text_words.specs.declared.NumeralError.TheVariants as NumeralErrorCase
use Rattle.text_words.specs.declared.WordError.{WordError}

-- 1 for a line's end
abbrev pub newline : ℕ → ℕ
newline b = bit (eqb b 10)

-- how many lines end in these bytes
unfoldable pub newlines : List ℕ → ℕ
newlines [] = 0
newlines (b ∷ bs) = newline b + newlines bs

-- space, tab, line feed, carriage return, and # end a word
unfoldable pub ends_word : ℕ → Bool
ends_word b = eqb b 32 || (eqb b 9 || (eqb b 10 || (eqb b 13 || eqb b 35)))

-- a word begins with any other byte outside comments
unfoldable pub begins : Bool → ℕ → Bool
begins comment b = not comment && not (ends_word b)

-- a comment begins with # and goes to its line's end
unfoldable pub comment_after : Bool → ℕ → Bool
comment_after comment b = not (eqb b 10) && (comment || eqb b 35)

-- the place after a byte
unfoldable pub past : Cursor → ℕ → Cursor
past c b = record { at = c.at + 1; line = c.line + newline b }

-- from a place where these bytes are left: where the next word begins, or the text ends
unfoldable pub start_of : Bool → Cursor → List ℕ → Cursor
start_of comment c [] = c
start_of comment c (b ∷ bs) = cond (begins comment b) c (start_of (comment_after comment b) (past c b) bs)

-- the bytes up to the word's end
unfoldable pub word_of : List ℕ → List ℕ
word_of [] = []
word_of (b ∷ bs) = cond (ends_word b) [] (b ∷ word_of bs)

-- ---- numbers

-- 0 to 9
unfoldable pub digit : ℕ → Bool
digit b = between 48 57 b

-- a number with one more digit
unfoldable pub with_digit : ℕ → ℕ → ℕ
with_digit v b = v * 10 + (b - 48)

-- the number that the digits make after v
unfoldable pub value_from : ℕ → List ℕ → ℕ
value_from v [] = v
value_from v (b ∷ bs) = value_from (with_digit v b) bs

-- a word as a number: digits alone, and of 32 bits
unfoldable pub numeral_of : List ℕ → Result ℕ NumeralError
numeral_of w =
    cond (all_of digit w) (cond (leb (value_from 0 w) 4294967295) (Ok (value_from 0 w)) (Err NumeralErrorCase.TooLarge)) (Err NumeralErrorCase.NotANumber)

-- ---- words

-- a word of so many bytes
abbrev pub word_from : Cursor → ℕ → Result ℕ NumeralError → Result Word WordError
word_from start n (Ok x) = Ok (WordCase.Number x (record { at = start.at + n; line = start.line }))
word_from start n (Err e) = Err (record { line = start.line; why = e })

-- the word that begins at a place; without one the text ends there
unfoldable pub word_at : List ℕ → Cursor → Result Word WordError
word_at text start =
    let w = word_of (drop start.at text) in
    cond (eqb (length w) 0) (Ok (WordCase.End start.line)) (word_from start (length w) (numeral_of w))

-- the next word from a place on
unfoldable pub next_of : List ℕ → Cursor → Result Word WordError
next_of text c = word_at text (start_of false c (drop c.at text))

-- a place in a text that is not too long; a byte ends at most one line
pub record CursorWithin (text : List ℕ) (c : Cursor) : Type 0 where
  pub short : length text ≤ 131072
  pub inside : c.at ≤ length text
  pub line_low : c.line ≤ c.at + 1

-- what is too large stays at 2 ^ 32
unfoldable pub capped : ℕ → ℕ
capped x = cond (ltb x 4294967296) x 4294967296

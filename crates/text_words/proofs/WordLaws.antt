-- The steps of reading a word, at places of a text. Assumes nothing.
use Prim.Native.Nat.{ℕ, suc, ◌+◌, ◌-◌, ◌*◌, ◌≤◌, ◌<◌, min}
use native.Mathlib.Omega.{arith}
use native.Mathlib.Numerals.{add-one}
use mathlib.Core.Path.{◌≡◌, refl, sym, ap, ap₂, ◌∙◌, subst}
use mathlib.Core.Logic.{⊎_elim}
use mathlib.Core.Bool.{Bool, true, false, cond}
use mathlib.Core.List.{List, [], ◌∷◌}
use lib.Dec.{eqb}
use lib.ListN.{length, take, drop, get_or, length-drop}
use lib.Seq.{drop-cons, drop-length, take-length}
use borrow.Author.Tests.{lt-ltb, le-ltb, le-leb, lt-leb, eqb-false}
use Rattle.std.specs.Prelude.{Option, MatchOption, Result, Ok, Err, count_by}
use Rattle.std.specs.List.{AllWithin, HoldsAt}
use Rattle.std.specs.Option.{unwrap_or}
use Rattle.std.proofs.lemmas.Iterator.{index_from_first}
use Rattle.std.proofs.lemmas.List.Sums.{sum_by-cons}
use Rattle.lists.specs.Lists.{bit, between, all_of}
use Rattle.lists.proofs.Tests.{split, between-T, true-T}
use Rattle.text_words.specs.declared.Cursor.{Cursor}
use Rattle.text_words.specs.declared.Word.TheVariants as WordCase
use Rattle.text_words.specs.declared.NumeralError.{NumeralError}
use Rattle.text_words.specs.declared.NumeralError.TheVariants as NumeralErrorCase
use Rattle.text_words.specs.Words.{newline, newlines, ends_word, begins, comment_after, past, start_of, word_of}
use Rattle.text_words.specs.Words.{digit, with_digit, value_from, numeral_of, word_from, word_at, next_of, CursorWithin, capped}

-- ---- places

bit_small : (t : Bool) → bit t ≤ 1
bit_small true = omega arith
bit_small false = omega arith

pub newline_small : (b : ℕ) → newline b ≤ 1
newline_small b = bit_small (eqb b 10)

-- what is left at i, and one byte further
left : (text : List ℕ) (i : ℕ) → i < length text → drop i text ≡ get_or text i 0 ∷ drop (i + 1) text
left text i h = drop-cons text i 0 h ∙ ap (λ n. get_or text i 0 ∷ drop n text) (sym (add-one i))

none_left : (text : List ℕ) (i : ℕ) → i ≡ length text → drop i text ≡ []
none_left text i e = ap (λ n. drop n text) e ∙ drop-length text

-- what is left, as the code takes it
all_left : (text : List ℕ) (i : ℕ) → take (length text - i) (drop i text) ≡ drop i text
all_left text i = ap (λ n. take n (drop i text)) (sym (length-drop i text)) ∙ take-length (drop i text)

-- ---- lines

pub lines_counted : (text : List ℕ) → count_by (λ b. eqb b 10) text ≡ newlines text
unfolding newlines
lines_counted [] = refl
lines_counted (b ∷ bs) = sum_by-cons (λ x. cond (eqb x 10) 1 0) b bs ∙ ap₂ (λ x y. x + y) (as_bit (eqb b 10)) (lines_counted bs)
  where
    as_bit : (t : Bool) → cond t 1 0 ≡ bit t
    as_bit true = refl
    as_bit false = refl

-- ---- the start of a word

module _ (text : List ℕ) (comment : Bool) (i l : ℕ) where
  abbrev here : Cursor
  here = record { at = i; line = l }

  pub start_goes : {after : Bool} {n : ℕ} {s : Cursor} → i < length text → begins comment (get_or text i 0) ≡ false
      → after ≡ comment_after comment (get_or text i 0) → n ≡ newline (get_or text i 0) → start_of comment here (drop i text) ≡ s
      → start_of after (record { at = i + 1; line = l + n }) (drop (i + 1) text) ≡ s
  unfolding start_of past
  start_goes h t e f g = rw (e, f) (sym (rw (left text i h, t)) ∙ g)

  pub start_here : {s : Cursor} → i < length text → begins comment (get_or text i 0) ≡ true → start_of comment here (drop i text) ≡ s → here ≡ s
  unfolding start_of
  start_here h t g = sym (rw (left text i h, t)) ∙ g

  pub start_end : {s : Cursor} → i ≡ length text → start_of comment here (drop i text) ≡ s → here ≡ s
  unfolding start_of
  start_end e g = sym (rw (none_left text i e)) ∙ g

-- ---- the end of a word

-- where the first byte stands that ends it, or the text ends
pub word_length : (bs : List ℕ) (first : Option ℕ)
    → MatchOption first (AllWithin (λ b. ends_word b ≡ false) bs 0 (length bs))
    (λ i. (i < length bs) × HoldsAt (λ b. ends_word b ≡ true) bs i × AllWithin (λ b. ends_word b ≡ false) bs 0 i)
    → length (word_of bs) ≡ unwrap_or first (length bs)
unfolding word_of
word_length =
    index_from_first (λ bs. length (word_of bs)) (λ b. ends_word b ≡ true) (λ b. ends_word b ≡ false) refl (λ x xs h. rw h refl)
    (λ x xs h. rw h (omega arith))

-- ---- numbers

pub capped_small : (x : ℕ) → x < 4294967296 → capped x ≡ x
unfolding capped
capped_small x h = rw (lt-ltb x 4294967296 h)

pub capped_large : (x : ℕ) → 4294967296 ≤ x → capped x ≡ 4294967296
unfolding capped
capped_large x h = rw (le-ltb x 4294967296 h)

pub capped_most : (x : ℕ) → capped x ≤ 4294967296
capped_most x = ⊎_elim (λ (h : x < 4294967296). omega (arith, capped_small x h)) (λ (h : 4294967296 ≤ x). omega (arith, capped_large x h)) (split x 4294967296)

pub capped_is : (x : ℕ) → min x 4294967296 ≡ capped x
capped_is x =
    ⊎_elim (λ (h : x < 4294967296). omega (arith, capped_small x h)) (λ (h : 4294967296 ≤ x). omega (arith, capped_large x h)) (split x 4294967296)

-- nothing is lost by capping before each digit
capped_digit : (x b : ℕ) → capped (with_digit (capped x) b) ≡ capped (with_digit x b)
unfolding with_digit
capped_digit x b =
    ⊎_elim (λ (h : x < 4294967296). ap (λ y. capped (y * 10 + (b - 48))) (capped_small x h))
    (λ (h : 4294967296 ≤ x).
    ap (λ y. capped (y * 10 + (b - 48))) (capped_large x h) ∙ capped_large (4294967296 * 10 + (b - 48)) (omega arith)
    ∙ sym (capped_large (x * 10 + (b - 48)) (omega arith)))
    (split x 4294967296)

capped_value : (x : ℕ) (bs : List ℕ) → capped (value_from (capped x) bs) ≡ capped (value_from x bs)
unfolding value_from
capped_value x [] =
    ⊎_elim (λ (h : x < 4294967296). ap capped (capped_small x h))
    (λ (h : 4294967296 ≤ x). ap capped (capped_large x h) ∙ capped_large 4294967296 (omega arith) ∙ sym (capped_large x h))
    (split x 4294967296)
capped_value x (b ∷ bs) =
    sym (capped_value (with_digit (capped x) b) bs) ∙ ap (λ y. capped (value_from y bs)) (capped_digit x b) ∙ capped_value (with_digit x b) bs

pub digit_low : (b : ℕ) → digit b ≡ true → 48 ≤ b
unfolding digit
digit_low b e = ((between-T 48 57 b).0 (true-T (between 48 57 b) e)).0

module _ (word : List ℕ) (i : ℕ) where
  pub digits_more : i < length word → digit (get_or word i 0) ≡ true → all_of digit (drop i word) ≡ all_of digit word
      → all_of digit (drop (i + 1) word) ≡ all_of digit word
  digits_more h t e = sym (rw (left word i h, t)) ∙ e

  pub value_more : (v : ℕ) {w : ℕ} → i < length word → w ≡ capped (with_digit v (get_or word i 0)) → capped (value_from v (drop i word)) ≡ capped
      (value_from 0 word)
      → capped (value_from w (drop (i + 1) word)) ≡ capped (value_from 0 word)
  unfolding value_from
  value_more v h e f = rw e (capped_value (with_digit v (get_or word i 0)) (drop (i + 1) word) ∙ sym (rw (left word i h)) ∙ f)

  pub numeral_bad : i < length word → digit (get_or word i 0) ≡ false → all_of digit (drop i word) ≡ all_of digit word
      → Err NumeralErrorCase.NotANumber ≡ numeral_of word
  unfolding numeral_of
  numeral_bad h t e = let f : all_of digit word ≡ false = sym e ∙ rw (left word i h, t) in rw f

  module _ (v : ℕ) (end : i ≡ length word) (ok : all_of digit (drop i word) ≡ all_of digit word)
      (told : capped (value_from v (drop i word)) ≡ capped (value_from 0 word)) where
    all_digits : all_of digit word ≡ true
    all_digits = sym ok ∙ rw (none_left word i end)

    value_is : capped v ≡ capped (value_from 0 word)
    unfolding value_from
    value_is = sym (rw (none_left word i end)) ∙ told

    pub numeral_number : v < 4294967296 → Ok v ≡ numeral_of word
    unfolding numeral_of
    numeral_number h = rw (all_digits, ← same, le-leb v 4294967295 (omega arith))
      where
        same : v ≡ value_from 0 word
        same =
            ⊎_elim (λ (l : value_from 0 word < 4294967296). sym (capped_small v h) ∙ value_is ∙ capped_small (value_from 0 word) l)
            (λ (g : 4294967296 ≤ value_from 0 word). omega (arith, capped_small v h, value_is, capped_large (value_from 0 word) g))
            (split (value_from 0 word) 4294967296)

    pub numeral_large : 4294967296 ≤ v → Err NumeralErrorCase.TooLarge ≡ numeral_of word
    unfolding numeral_of
    numeral_large h =
        let large : 4294967295 < value_from 0 word =
        ⊎_elim (λ (l : value_from 0 word < 4294967296). omega (arith, capped_large v h, value_is, capped_small (value_from 0 word) l))
        (λ (g : 4294967296 ≤ value_from 0 word). omega arith) (split (value_from 0 word) 4294967296) in
        rw (all_digits, lt-leb (value_from 0 word) 4294967295 large)

-- ---- the next word

-- a place from m to n, on a line that its bytes allow
record Place (m n : ℕ) (c : Cursor) : Type 0 where
  low : m ≤ c.at
  high : c.at ≤ n
  line_low : c.line ≤ c.at + 1

start_place : (comment : Bool) (c : Cursor) (bs : List ℕ) → c.line ≤ c.at + 1 → Place c.at (c.at + length bs) (start_of comment c bs)
unfolding start_of past
start_place comment c [] h = record { low = omega arith; high = omega arith; line_low = h }
start_place comment c (b ∷ bs) h = by (begins comment b) (start_place (comment_after comment b) (past c b) bs (omega (arith, newline_small b)))
  where
    by : (t : Bool) → Place (c.at + 1) (c.at + 1 + length bs) (start_of (comment_after comment b) (past c b) bs)
        → Place c.at (c.at + suc (length bs)) (cond t c (start_of (comment_after comment b) (past c b) bs))
    by true rest = record { low = omega arith; high = omega arith; line_low = h }
    by false rest = record { low = omega (arith, rest.low); high = omega (arith, rest.high); line_low = rest.line_low }

pub start_within : {text : List ℕ} {c : Cursor} → CursorWithin text c → CursorWithin text (start_of false c (drop c.at text))
start_within {text} {c} w =
    let p = start_place false c (drop c.at text) w.line_low in
    record { short = w.short; inside = omega (arith, p.high, length-drop c.at text, w.inside); line_low = p.line_low }

pub word_front : (bs : List ℕ) → take (length (word_of bs)) bs ≡ word_of bs
unfolding word_of
word_front [] = refl
word_front (b ∷ bs) = by (ends_word b) (word_front bs)
  where
    by : (t : Bool) → take (length (word_of bs)) bs ≡ word_of bs → take (length (cond t [] (b ∷ word_of bs))) (b ∷ bs) ≡ cond t [] (b ∷ word_of bs)
    by true e = refl
    by false e = ap (λ w. b ∷ w) e

module _ (text : List ℕ) (c : Cursor) {start : Cursor} (e : start ≡ start_of false c (drop c.at text)) {word : List ℕ}
    (part : word ≡ word_of (take (length text - start.at) (drop start.at text))) where
  f : word ≡ word_of (drop start.at text)
  f = part ∙ ap word_of (all_left text start.at)

  tested : {t : Bool} → eqb (length word) 0 ≡ t → eqb (length (word_of (drop start.at text))) 0 ≡ t
  tested h = sym (ap (λ w. eqb (length w) 0) f) ∙ h

  pub next_end : eqb (length word) 0 ≡ true → Ok (WordCase.End start.line) ≡ next_of text c
  unfolding next_of word_at
  next_end h = rw (← e, tested h)

  module _ (h : eqb (length word) 0 ≡ false) {found : Result ℕ NumeralError} (g : found ≡ numeral_of word) where
    next_word : word_from start (length word) found ≡ next_of text c
    unfolding next_of word_at
    next_word =
        rw (← e, tested h)
        (ap (word_from start (length word)) (g ∙ ap numeral_of f)
        ∙ ap (λ n. word_from start n (numeral_of (word_of (drop start.at text)))) (ap length f))

    pub next_number : {x : ℕ} → found ≡ Ok x → Ok (WordCase.Number x (record { at = start.at + length word; line = start.line })) ≡ next_of text c
    next_number k = sym (ap (word_from start (length word)) k) ∙ next_word

    pub next_wrong : {why : NumeralError} → found ≡ Err why → Err (record { line = start.line; why = why }) ≡ next_of text c
    next_wrong k = sym (ap (word_from start (length word)) k) ∙ next_word

-- ---- the place after a number

word_short : (bs : List ℕ) → length (word_of bs) ≤ length bs
unfolding word_of
word_short [] = omega arith
word_short (b ∷ bs) = by (ends_word b) (word_short bs)
  where
    by : (t : Bool) → length (word_of bs) ≤ length bs → length (cond t [] (b ∷ word_of bs)) ≤ suc (length bs)
    by true h = omega arith
    by false h = omega arith

-- the word at a place is a number: it has a digit at least, and the place after it is past its bytes
record NumberAt (text : List ℕ) (start d : Cursor) : Type 0 where
  some_digit : 0 < length (word_of (drop start.at text))
  after : record { at = start.at + length (word_of (drop start.at text)); line = start.line } ≡ d

number_at : (text : List ℕ) (start : Cursor) {d : Cursor} {x : ℕ} → word_at text start ≡ Ok (WordCase.Number x d) → NumberAt text start d
unfolding word_at
number_at text start {d} {x} e = by (eqb (length w) 0) (numeral_of w) refl e
  where
    w : List ℕ
    w = word_of (drop start.at text)

    by : (t : Bool) (f : Result ℕ NumeralError) → eqb (length (word_of (drop start.at text))) 0 ≡ t
        → cond t (Ok (WordCase.End start.line)) (word_from start (length (word_of (drop start.at text))) f) ≡ Ok (WordCase.Number x d) → NumberAt text start d
    by true f q h = absurd (let z : ◌≡◌ {A = ℕ} 0 1 = cc in omega arith)
    by false (Ok y) q h =
        let some : length (word_of (drop start.at text)) ≡ 0 → ⊥ = eqb-false (length (word_of (drop start.at text))) 0 q in
        record { some_digit = omega arith; after = cc }
    by false (Err e) q h = absurd (let z : ◌≡◌ {A = ℕ} 0 1 = cc in omega arith)

-- a place of the text again
pub next_within : {text : List ℕ} {c d : Cursor} {x : ℕ} → CursorWithin text c → next_of text c ≡ Ok (WordCase.Number x d) → CursorWithin text d
unfolding next_of
next_within {text} {c} {d} w e =
    let start = start_of false c (drop c.at text) in
    let W = start_within w in
    subst (CursorWithin text) (number_at text start e).after
    (record {
      short = w.short;
      inside = omega (arith, W.inside, word_short (drop start.at text), length-drop start.at text);
      line_low = omega (arith, W.line_low);
    })

-- and further on
pub next_further : {text : List ℕ} {c d : Cursor} {x : ℕ} → CursorWithin text c → next_of text c ≡ Ok (WordCase.Number x d) → c.at < d.at
unfolding next_of
next_further {text} {c} {d} w e =
    let start = start_of false c (drop c.at text) in
    let N = number_at text start e in
    omega (arith, (start_place false c (drop c.at text) w.line_low).low, N.some_digit, ap (λ (s : Cursor). s.at) N.after)

-- Numbers read back from the bytes that spell them: a number's digits, the word that stands next, a row of numbers. Assumes nothing.
use Prim.Native.Nat.{ℕ, zero, suc, ◌+◌, ◌/◌, ◌%◌, ◌^◌, ◌≤◌, ◌<◌}
use native.Mathlib.Nat.{pow-suc}
use native.Mathlib.Omega.{arith}
use mathlib.Core.Path.{◌≡◌, refl, sym, ap, ◌∙◌, subst}
use mathlib.Core.Logic.{⊎_elim}
use mathlib.Core.Bool.{Bool, true, false, not}
use mathlib.Core.List.{List, [], ◌∷◌, ◌++◌, flat_map, append-nil, append_assoc}
use lib.Dec.{T, eqb}
use lib.ListN.{length, drop, length-append}
use lib.Seq.{drop-drop, drop-append_seam, append_snoc}
use borrow.Author.Tests.{le-leb, ne_eqb}
use Rattle.std.specs.Prelude.{Ok}
use Rattle.lists.specs.Lists.{all_of}
use Rattle.lists.proofs.Tests.{split, between-T, and_T, T-left, T-right, T_true, T_false}
use Rattle.lists.proofs.Members.{all_at, all_of_lem, all_append}
use Rattle.metric_closure.specs.Tables.{InRange}
use Rattle.sheet_text.specs.Text.{ascii, digit as byte_of, decimal, spaced}
use Rattle.sheet_text.proofs.NumberLaws.{decimal_one, decimal_more}
use Rattle.text_words.specs.declared.Cursor.{Cursor}
use Rattle.text_words.specs.declared.Word.TheVariants as WordCase
use Rattle.text_words.specs.Words.{ends_word, begins, comment_after, past, start_of, word_of, digit, with_digit, value_from, numeral_of, word_at, next_of}
use Rattle.study_text.specs.Packing.{Got, got, number_of, numbers_of, onward}
use Rattle.closure_text.specs.Text.{lowered_line}

-- ---- digits

-- digits that make up x
pub record Spells (x : ℕ) (bs : List ℕ) : Type 0 where
  pub nonempty : 1 ≤ length bs
  pub digits : T (all_of digit bs)
  pub value : value_from 0 bs ≡ x

digit-T : (x : ℕ) → x < 10 → T (digit (byte_of x))
unfolding digit
digit-T x h = (between-T 48 57 (byte_of x)).1 (omega arith, omega arith)

digit_range : (b : ℕ) → T (digit b) → (48 ≤ b) × (b ≤ 57)
unfolding digit
digit_range b t = (between-T 48 57 b).0 t

value_last : (v : ℕ) (bs : List ℕ) (b : ℕ) → value_from v (bs ++ (b ∷ [])) ≡ with_digit (value_from v bs) b
unfolding value_from
value_last v [] b = refl
value_last v (c ∷ bs) b = value_last (with_digit v c) bs b

spells_one : (x : ℕ) → x < 10 → Spells x (byte_of x ∷ [])
unfolding value_from with_digit
spells_one x h = record { nonempty = omega arith; digits = and_T (digit (byte_of x)) true (digit-T x h) tt; value = omega arith }

spells_more : (x : ℕ) {bs : List ℕ} → Spells (x / 10) bs → Spells x (bs ++ (byte_of (x % 10) ∷ []))
unfolding with_digit
spells_more x {bs} s =
    let last = digit-T (x % 10) (omega arith) in
    record {
      nonempty = omega (arith, length-append bs (byte_of (x % 10) ∷ []));
      digits = all_append digit bs (byte_of (x % 10) ∷ []) s.digits (and_T (digit (byte_of (x % 10))) true last tt);
      value = omega (arith, value_last 0 bs (byte_of (x % 10)), s.value);
    }

spells_to : (n x : ℕ) → x < 10 ^ suc n → x < 4294967296 → Spells x (decimal x)
spells_to zero x h k = subst (Spells x) (sym (decimal_one x h)) (spells_one x h)
spells_to (suc n) x h k =
    ⊎_elim (λ (l : x < 10). subst (Spells x) (sym (decimal_one x l)) (spells_one x l))
    (λ (g : 10 ≤ x).
    subst (Spells x) (sym (decimal_more x g (omega arith))) (spells_more x (spells_to n (x / 10) (omega (arith, pow-suc 10 (suc n))) (omega arith))))
    (split x 10)

-- the digits of a number of 32 bits
pub decimal_spells : (x : ℕ) → x < 4294967296 → Spells x (decimal x)
decimal_spells x h = spells_to 9 x (omega arith) h

numeral_is : {x : ℕ} {bs : List ℕ} → x < 4294967296 → Spells x bs → numeral_of bs ≡ Ok x
unfolding numeral_of
numeral_is {x} {bs} h s = rw (T_true (all_of digit bs) s.digits, s.value, le-leb x 4294967295 (omega arith))

-- ---- a word of digits

digit_goes : (b : ℕ) → T (digit b) → ends_word b ≡ false
unfolding ends_word
digit_goes b t =
    let r = digit_range b t in
    rw (ne_eqb b 32 (omega arith), ne_eqb b 9 (omega arith), ne_eqb b 10 (omega arith), ne_eqb b 13 (omega arith), ne_eqb b 35 (omega arith))

-- digits go on to where a word would end at once
word_digits : (bs rest : List ℕ) → T (all_of digit bs) → word_of rest ≡ [] → word_of (bs ++ rest) ≡ bs
unfolding word_of
word_digits [] rest t e = e
word_digits (b ∷ bs) rest t e =
    rw (digit_goes b (T-left (digit b) (all_of digit bs) t)) (ap (λ w. b ∷ w) (word_digits bs rest (T-right (digit b) (all_of digit bs) t) e))

start_digits : (c : Cursor) (bs rest : List ℕ) → T (all_of digit bs) → 1 ≤ length bs → start_of false c (bs ++ rest) ≡ c
unfolding start_of begins
start_digits c [] rest t h = absurd (omega arith)
start_digits c (b ∷ bs) rest t h = rw (digit_goes b (T-left (digit b) (all_of digit bs) t))

word_at_lem : (text : List ℕ) (c : Cursor) {x : ℕ} (bs : List ℕ) → word_of (drop c.at text) ≡ bs → x < 4294967296 → Spells x bs
    → word_at text c ≡ Ok (WordCase.Number x (record { at = c.at + length bs; line = c.line }))
unfolding word_at
word_at_lem text c bs e h s = let some_byte = s.nonempty in rw (e, ne_eqb (length bs) 0 (λ z. omega arith), numeral_is h s)

-- ---- what stands between two words

-- the place after these bytes
abbrev pub moved : Cursor → List ℕ → Cursor
moved c [] = c
moved c (b ∷ bs) = moved (past c b) bs

moved_at : (c : Cursor) (bs : List ℕ) → (moved c bs).at ≡ c.at + length bs
unfolding past
moved_at c [] = omega arith
moved_at c (b ∷ bs) = moved_at (past c b) bs ∙ omega arith

-- bytes that a search for the next word passes
pub record Gap (bs : List ℕ) : Type 0 where
  pub passed : (c : Cursor) (rest : List ℕ) → start_of false c (bs ++ rest) ≡ start_of false (moved c bs) rest

pub blank_gap : Gap (32 ∷ [])
unfolding start_of begins ends_word comment_after
blank_gap = record { passed = λ c rest. refl }

pub newline_gap : Gap (10 ∷ [])
unfolding start_of begins ends_word comment_after
newline_gap = record { passed = λ c rest. refl }

-- a byte that ends no line
abbrev in_line : ℕ → Bool
in_line b = not (eqb b 10)

comment_goes : (b : ℕ) → T (in_line b) → comment_after true b ≡ true
unfolding comment_after
comment_goes b t = rw (T_false (eqb b 10) t)

comment_passed : (bs : List ℕ) → T (all_of in_line bs) → (c : Cursor) (rest : List ℕ)
    → start_of true c (bs ++ (10 ∷ []) ++ rest) ≡ start_of false (moved c (bs ++ (10 ∷ []))) rest
unfolding start_of begins comment_after
comment_passed [] t c rest = refl
comment_passed (b ∷ bs) t c rest =
    rw (comment_goes b (T-left (in_line b) (all_of in_line bs) t)) (comment_passed bs (T-right (in_line b) (all_of in_line bs) t) (past c b) rest)

-- a comment, # to the line's end
comment_gap : (bs : List ℕ) → T (all_of in_line bs) → Gap (35 ∷ bs ++ (10 ∷ []))
unfolding start_of begins ends_word comment_after
comment_gap bs t = record { passed = λ c rest. comment_passed bs t (past c 35) rest }

pub lowered_gap : (m : ℕ) → m < 4294967296 → Gap (lowered_line m)
unfolding lowered_line
lowered_gap m h = subst Gap whole (comment_gap (32 ∷ decimal m ++ ascii " pairs lowered") in_line_lem)
  where
    whole : 35 ∷ 32 ∷ decimal m ++ ascii " pairs lowered" ++ (10 ∷ []) ≡ 35 ∷ 32 ∷ decimal m ++ ascii " pairs lowered\n"
    whole = append_assoc (35 ∷ 32 ∷ decimal m) (ascii " pairs lowered") (10 ∷ [])

    in_line_lem : T (all_of in_line (32 ∷ decimal m ++ ascii " pairs lowered"))
    in_line_lem = all_append in_line (32 ∷ decimal m) (ascii " pairs lowered")
        (all_of_lem in_line (decimal m) (λ b i. let r = digit_range b (all_at digit (decimal m) (decimal_spells m h).digits i) in
        subst T (sym (ap not (ne_eqb b 10 (omega arith)))) tt)) tt

-- ---- the next word

-- at this place of the text these bytes are left
pub record Left (text : List ℕ) (c : Cursor) (rest : List ℕ) : Type 0 where
  pub bytes : drop c.at text ≡ rest

-- past the first of them
left_past : (text : List ℕ) (n : ℕ) (bs rest : List ℕ) → drop n text ≡ bs ++ rest → drop (n + length bs) text ≡ rest
left_past text n bs rest e = sym (drop-drop (length bs) n text) ∙ ap (drop (length bs)) e ∙ drop-append_seam bs rest

-- x stands next, and this is left after it
pub record NextIs (text : List ℕ) (c : Cursor) (x : ℕ) (rest : List ℕ) : Type 0 where
  pub to : Cursor
  pub is : next_of text c ≡ Ok (WordCase.Number x to)
  pub left : Left text to rest

module _ {gap : List ℕ} (G : Gap gap) {text : List ℕ} {c : Cursor} where
  -- the place after the gap
  past_gap : {rest : List ℕ} → Left text c (gap ++ rest) → drop (moved c gap).at text ≡ rest
  past_gap {rest} L = ap (λ n. drop n text) (moved_at c gap) ∙ left_past text c.at gap rest L.bytes

  pub next_is : {x : ℕ} {rest : List ℕ} → x < 4294967296 → word_of rest ≡ [] → Left text c (gap ++ (decimal x ++ rest)) → NextIs text c x rest
  unfolding next_of
  next_is {x} {rest} h stops L =
      let s = decimal_spells x h in
      let here : drop (moved c gap).at text ≡ decimal x ++ rest = past_gap L in
      let starts : start_of false c (drop c.at text) ≡ moved c gap =
      ap (start_of false c) L.bytes ∙ G.passed c (decimal x ++ rest) ∙ start_digits (moved c gap) (decimal x) rest s.digits s.nonempty in
      record {
        to = record { at = (moved c gap).at + length (decimal x); line = (moved c gap).line };
        is = ap (word_at text) starts ∙ word_at_lem text (moved c gap) (decimal x) (ap word_of here ∙ word_digits (decimal x) rest s.digits stops) h s;
        left = record { bytes = left_past text (moved c gap).at (decimal x) rest here };
      }

  -- no word is left
  pub next_none : Left text c (gap ++ []) → next_of text c ≡ Ok (WordCase.End (moved c gap).line)
  unfolding next_of word_at start_of word_of
  next_none L =
      let starts : start_of false c (drop c.at text) ≡ moved c gap = ap (start_of false c) L.bytes ∙ G.passed c [] in
      rw (starts, past_gap L)

-- ---- what was read, and what is left after it

pub record Reads {A : Type 0} (text : List ℕ) (g : Got A) (x : A) (rest : List ℕ) : Type 0 where
  pub to : Cursor
  pub is : g ≡ got x to
  pub left : Left text to rest

-- one thing read after another
pub reads_then : {A B : Type 0} {text : List ℕ} {g : Got A} {x : A} {y : B} {mid rest : List ℕ} (f : A → Cursor → Got B) → Reads text g x mid
    → ((c : Cursor) → Left text c mid → Reads text (f x c) y rest) → Reads text (onward g f) y rest
reads_then {text = text} {x = x} {y = y} {rest = rest} f R next =
    subst (λ g. Reads text (onward g f) y rest) (sym R.is) (next R.to R.left)

pub reads_number : {text : List ℕ} {c : Cursor} {x : ℕ} {rest : List ℕ} → NextIs text c x rest → Reads text (number_of text c) x rest
unfolding number_of
reads_number N = record { to = N.to; is = rw N.is; left = N.left }

-- ---- a row of numbers

-- n numbers from a place on
pub record ReadsRow (text : List ℕ) (from : Cursor) (n : ℕ) (xs rest : List ℕ) : Type 0 where
  pub row : Reads text (numbers_of text n from) xs rest

pub row_none : {text : List ℕ} {from : Cursor} {rest : List ℕ} → Left text from rest → ReadsRow text from 0 [] rest
unfolding numbers_of
row_none {from = from} L = record { row = record { to = from; is = refl; left = L } }

-- one number more
pub row_more : {text : List ℕ} {from : Cursor} {n x : ℕ} {xs gap rest : List ℕ} → Gap gap → x < 4294967296 → word_of rest ≡ []
    → ReadsRow text from n xs (gap ++ (decimal x ++ rest)) → ReadsRow text from (suc n) (xs ++ (x ∷ [])) rest
unfolding numbers_of
row_more {text} {n = n} {x = x} {xs = xs} G h stops R =
    record {
      row = reads_then (λ ys d. onward (number_of text d) (λ y e. got (ys ++ (y ∷ [])) e)) R.row (λ c L.
          reads_then (λ y e. got (xs ++ (y ∷ [])) e) (reads_number (next_is G h stops L)) (λ d K. record { to = d; is = refl; left = K }));
    }

-- the word before has ended, with a blank or with the row
pub row_stops : (xs rest : List ℕ) → word_of rest ≡ [] → word_of (flat_map spaced xs ++ rest) ≡ []
unfolding word_of ends_word flat_map spaced
row_stops [] rest e = e
row_stops (x ∷ xs) rest e = refl

spaced_apart : (x : ℕ) (xs rest : List ℕ) → flat_map spaced (x ∷ xs) ++ rest ≡ (32 ∷ []) ++ (decimal x ++ (flat_map spaced xs ++ rest))
unfolding flat_map spaced
spaced_apart x xs rest = ap (λ (bs : List ℕ). 32 ∷ bs) (append_assoc (decimal x) (flat_map spaced xs) rest)

-- numbers with a blank before each
pub row_all : {text : List ℕ} {from : Cursor} (xs : List ℕ) {n : ℕ} {ys rest : List ℕ} → InRange (length xs) xs → word_of rest ≡ []
    → ReadsRow text from n ys (flat_map spaced xs ++ rest) → ReadsRow text from (n + length xs) (ys ++ xs) rest
unfolding flat_map
row_all {text} {from} [] {n} {ys} {rest} I stops R =
    let e : n ≡ n + 0 = omega arith in
    rw (append-nil ys) (subst (λ k. ReadsRow text from k ys rest) e R)
row_all {text} {from} (x ∷ xs) {n} {ys} {rest} I stops R =
    let small = I.near 0 (omega arith) in
    let later : InRange (length xs) xs = record { near = λ p h. I.near (suc p) (omega arith) } in
    let one = row_more blank_gap (omega arith) (row_stops xs rest stops) (subst (ReadsRow text from n ys) (spaced_apart x xs rest) R) in
    let e : suc n + length xs ≡ n + suc (length xs) = omega arith in
    subst (λ k. ReadsRow text from k (ys ++ x ∷ xs) rest) e
    (subst (λ zs. ReadsRow text from (suc n + length xs) zs rest) (append_snoc ys x xs) (row_all xs later stops one))

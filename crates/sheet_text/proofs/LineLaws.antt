-- The sheet put field after field: each line's length at most, and that its fields make it up. Assumes nothing.
use Prim.Native.Nat.{ℕ, suc, ◌+◌, ◌^◌, ◌≤◌, ◌<◌, min}
use native.Mathlib.Omega.{arith}
use native.Mathlib.Numerals.{add-one}
use mathlib.Core.Path.{◌≡◌, refl, sym, ap, ◌∙◌, subst}
use mathlib.Core.Logic.{⊎_elim}
use mathlib.Core.List.{List, [], ◌∷◌, ◌++◌, flat_map, append-nil, append_assoc}
use lib.ListN.{length, take, drop, get_or, length-append}
use lib.Seq.{length-take-le, take-suc, take_all, take_at}
use Rattle.lists.specs.Lists.{tabulate, overwrite}
use Rattle.lists.proofs.Tests.{split}
use Rattle.lists.proofs.Members.{flat_map_append, flat_map_one}
use Rattle.lists.proofs.Tables.{length_tabulate}
use Rattle.study.specs.declared.BlockRecord.{BlockRecord}
use Rattle.std.specs.Prelude.{Result, Ok, Err}
use Rattle.study.specs.declared.Refusal.{Refusal}
use Rattle.study.specs.Refusals.{Numbered, numbered, value}
use Rattle.study.specs.declared.Figures.{Figures}
use Rattle.study.specs.Calls.{blocked_of}
use Rattle.study.specs.Numbers.{number_of}
use Rattle.sheet_text.specs.Text.{ascii, decimal, spaced, each_line, heading, line, lines, closing, refused_text, sheet_text}
use Rattle.sheet_text.proofs.NumberLaws.{decimal_short}
use Rattle.sheet_text.specs.Putting.{PutText}
use Rattle.sheet_text.proofs.PuttingLaws.{puts_none, puts_then, puts_as}
use Rattle.sheet_text.specs.Lines.{field, named}

pub field_length : (x mark : ℕ) → length (field x mark) ≡ length (decimal x) + 1
unfolding field
field_length x mark = length-append (decimal x) (mark ∷ [])

pub field_short : (n x mark : ℕ) → x < 10 ^ suc n → length (field x mark) ≤ suc n + 1
field_short n x mark h = omega (arith, field_length x mark, decimal_short n x h)

pub named_length : (name : List ℕ) (x mark : ℕ) → length (named name x mark) ≡ length name + length (field x mark)
unfolding named
named_length name x mark = length-append name (field x mark)

-- a number of 32 bits has at most ten digits
pub named_short : (name : List ℕ) (x mark : ℕ) → x < 4294967296 → length (named name x mark) ≤ length name + 11
named_short name x mark h = omega (arith, named_length name x mark, field_short 9 x mark (omega arith))

-- ---- the line of a block

module _ (n : ℕ) (r : BlockRecord) where
  line_fields : field n 32 ++ field r.centre 32 ++ field r.tides 32 ++ field r.diameter 10 ≡ line n r
  unfolding field line
  line_fields = simp append_assoc

  pub line_put : {l a b c d : List ℕ} {at p q s end : ℕ} → PutText l at (field n 32) p a → PutText a p (field r.centre 32) q b
      → PutText b q (field r.tides 32) s c → PutText c s (field r.diameter 10) end d → PutText l at (line n r) end d
  line_put w x y z = puts_as (puts_then (puts_then (puts_then w x) y) z) line_fields refl

  pub line_length : length (line n r) ≡ length (field n 32) + length (field r.centre 32) + length (field r.tides 32) + length (field r.diameter 10)
  line_length = ap length (sym line_fields) ∙ simp length-append

  pub line_short : n < 256 → r.centre < 256 → r.tides < 256 → r.diameter < 4294967296 → length (line n r) ≤ 23
  line_short a b c d =
      omega (
        arith,
        line_length,
        field_short 2 n 32 (omega arith),
        field_short 2 r.centre 32 (omega arith),
        field_short 2 r.tides 32 (omega arith),
        field_short 9 r.diameter 10 (omega arith),
      )

-- ---- numbers, a blank before each

module _ (xs : List ℕ) where
  pub spaced_none : {l : List ℕ} {at : ℕ} → at ≤ length l → PutText l at (flat_map spaced (take 0 xs)) at l
  unfolding flat_map
  spaced_none {l} {at} h = puts_none l at h

  pub spaced_more : (i : ℕ) → i < length xs → {l m n k : List ℕ} {at mid last end : ℕ} → PutText l at (flat_map spaced (take i xs)) mid m
      → PutText m mid (32 ∷ []) last n → PutText n last (decimal (get_or xs i 0)) end k → PutText l at (flat_map spaced (take (i + 1) xs)) end k
  unfolding spaced
  spaced_more i h p q r = puts_as (puts_then p (puts_then q r)) (sym more) refl
    where
      more : flat_map spaced (take (i + 1) xs) ≡ flat_map spaced (take i xs) ++ spaced (get_or xs i 0)
      more =
          ap (λ k. flat_map spaced (take k xs)) (add-one i) ∙ ap (flat_map spaced) (take-suc xs i 0 h)
          ∙ flat_map_append spaced (take i xs) (get_or xs i 0 ∷ []) ∙ ap (λ ys. flat_map spaced (take i xs) ++ ys) (flat_map_one spaced (get_or xs i 0))

-- ---- the last line

module _ (r w : ℕ) (xs : List ℕ) where
  closing_fields : named (ascii "reach ") r 32 ++ named (ascii "widest ") w 32 ++ ascii "withdrawn" ++ flat_map spaced xs ++ (10 ∷ []) ≡ closing r w xs
  unfolding field named closing
  closing_fields = simp append_assoc

  pub closing_put : {l a b c d e : List ℕ} {at p q s t end : ℕ} → PutText l at (named (ascii "reach ") r 32) p a
      → PutText a p (named (ascii "widest ") w 32) q b → PutText b q (ascii "withdrawn") s c → PutText c s (flat_map spaced xs) t d
      → PutText d t (10 ∷ []) end e → PutText l at (closing r w xs) end e
  closing_put u v x y z = puts_as (puts_then (puts_then (puts_then (puts_then u v) x) y) z) closing_fields refl

-- ---- a refusal

refused_field : (r : Numbered) → named (ascii "refused ") (number_of r) 10 ≡ refused_text r
unfolding field named refused_text
refused_field r = simp append_assoc

pub refused_short : (x : ℕ) → x < 4294967296 → length (named (ascii "refused ") x 10) ≤ 19
refused_short x h = named_short (ascii "refused ") x 10 h

pub refused_put : {l m : List ℕ} {at end x : ℕ} (r : Numbered) → x ≡ number_of r → PutText l at (named (ascii "refused ") x 10) end m
    → PutText l at (refused_text r) end m
refused_put r e p = puts_as p (ap (λ n. named (ascii "refused ") n 10) e ∙ refused_field r) refl

-- ---- a line for each of a list

module _ {A : Type 0} (f : ℕ → A → List ℕ) where
  lines_end : (n : ℕ) (xs : List A) (x : A) → each_line f n (xs ++ (x ∷ [])) ≡ each_line f n xs ++ f (n + length xs) x
  unfolding each_line
  lines_end n [] x = append-nil (f n x) ∙ ap (λ k. f k x) (omega arith)
  lines_end n (y ∷ xs) x =
      ap (λ l. f n y ++ l) (lines_end (suc n) xs x ∙ ap (λ k. each_line f (suc n) xs ++ f k x) (omega arith))
      ∙ sym (append_assoc (f n y) (each_line f (suc n) xs) (f (n + suc (length xs)) x))

  module _ (xs : List A) where
    pub lines_none : {l : List ℕ} {at : ℕ} → at ≤ length l → PutText l at (each_line f 1 (take 0 xs)) at l
    unfolding each_line
    lines_none {l} {at} h = puts_none l at h

    pub lines_more : (d : A) (i : ℕ) → i < length xs → {l m n : List ℕ} {at mid end : ℕ} → PutText l at (each_line f 1 (take i xs)) mid m
        → PutText m mid (f (i + 1) (get_or xs i d)) end n → PutText l at (each_line f 1 (take (i + 1) xs)) end n
    lines_more d i h p q = puts_as (puts_then p q) (sym more) refl
      where
        more : each_line f 1 (take (i + 1) xs) ≡ each_line f 1 (take i xs) ++ f (i + 1) (get_or xs i d)
        more =
            ap (λ k. each_line f 1 (take k xs)) (add-one i) ∙ ap (each_line f 1) (take-suc xs i d h) ∙ lines_end 1 (take i xs) (get_or xs i d)
            ∙ ap (λ k. each_line f 1 (take i xs) ++ f k (get_or xs i d)) (omega (arith, length-take-le i xs (omega arith)))

    -- all of the first n, or of all where there are fewer
    pub lines_all : (i m n : ℕ) → m ≡ min n (length xs) → length (take m xs) ≤ i → {l k : List ℕ} {at end : ℕ}
        → PutText l at (each_line f 1 (take i (take m xs))) end k → PutText l at (each_line f 1 (take n xs)) end k
    lines_all i m n e h p = puts_as p (ap (each_line f 1) (take_all i (take m xs) h ∙ front)) refl
      where
        front : take m xs ≡ take n xs
        front =
            ⊎_elim (λ (l : n < length xs). let same : m ≡ n = omega arith in ap (λ k. take k xs) same)
            (λ (l : length xs ≤ n). take_all m xs (omega arith) ∙ sym (take_all n xs l)) (split n (length xs))

-- ---- the sheet

module _ {answer : Result Figures Refusal} (records : List BlockRecord) (withdrawn : List ℕ) {l : List ℕ} {end : ℕ} where
  pub sheet_refused : {m : List ℕ} {why : Refusal} → answer ≡ Err why → PutText l 0 (refused_text (numbered why)) end m
      → PutText l 0 (sheet_text (blocked_of answer) records withdrawn) end m
  sheet_refused {m} e p = subst (λ a. PutText l 0 (sheet_text (blocked_of a) records withdrawn) end m) (sym e) p

  pub sheet_done : {a b m : List ℕ} {F : Figures} {first last : ℕ} → answer ≡ Ok F → PutText l 0 heading first a
      → PutText a first (lines 1 (take F.blocks records)) last b → PutText b last (closing F.radius F.widest withdrawn) end m
      → PutText l 0 (sheet_text (blocked_of answer) records withdrawn) end m
  sheet_done {a} {b} {m} e x y z = subst (λ a. PutText l 0 (sheet_text (blocked_of a) records withdrawn) end m) (sym e) (puts_then (puts_then x y) z)

-- the sheet of records that were written over old ones
pub sheet_written : (F : Figures) (f : ℕ → BlockRecord) (old : List BlockRecord) (withdrawn : List ℕ)
    → sheet_text (value F) (overwrite F.blocks f old) withdrawn ≡ sheet_text (value F) (tabulate F.blocks f) withdrawn
unfolding overwrite
sheet_written F f old withdrawn =
    let long = length_tabulate F.blocks f in
    ap (λ rs. heading ++ lines 1 rs ++ closing F.radius F.widest withdrawn)
    (take_at (tabulate F.blocks f) (drop F.blocks old) F.blocks long ∙ sym (take_all F.blocks (tabulate F.blocks f) (omega arith)))

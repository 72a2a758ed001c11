-- From the reply and the rows of a core that divides into blocks to what the call for C answers and writes. Assumes nothing.
use Rattle.std.specs.Prelude.{◌≡◌, ℕ, ◌<◌, ◌≤◌, min, true, ◌||◌, List, [], ◌∷◌, map, length, get_or, replicate}
use native.Mathlib.Omega.{arith}
use mathlib.Core.Path.{refl, sym, ap, ◌∙◌, subst}
use mathlib.Core.Logic.{⊎_elim}
use lib.ListN.{length-replicate, length-map, get_or-map}
use lib.Seq.{ext_get_or}
use Rattle.lists.specs.Lists.{tabulate, overwrite, over}
use Rattle.lists.proofs.Tests.{split}
use Rattle.lists.proofs.Tables.{length_tabulate, get_d_tabulate, length_overwrite, getD_overwrite, get_d_past, overwrite_none}
use Rattle.study.specs.declared.Refusal.{Refusal}
use Rattle.study.specs.declared.Dataset.{Dataset}
use Rattle.study.specs.declared.BlockRecord.{BlockRecord}
use Rattle.study.specs.declared.Figures.{Figures}
use Rattle.study.specs.Refusals.{Numbered, accepted, refused, Reply, value, refusal}
use Rattle.study.specs.Calls.{block_reasons, figures}
use Rattle.study.proofs.CallLaws.{reply_value}
use Rattle.validity.specs.Memory.{State, study_of, contents_of}
use Rattle.access.specs.Calls.{Output, first_list, Call, answer, output, reply, list_after}
use Rattle.access.specs.Calls.{lent as lent_to}
use Rattle.access.proofs.AccessLaws.{unwritten, reply_tells}
use Rattle.blocking.specs.declared.block.BlockRows.{BlockRows}
use Rattle.blocking.specs.Calls.{figure_numbers, makes_blocks}
use Rattle.blocking.specs.Rows.{row_record, no_record, Lending, RowsOf}
use Rattle.blocking.proofs.BlockLaws.{made_answer}
use Rattle.blocking.proofs.RowLaws.{rows_count}
use Rattle.c_records.specs.Record.{Lent, record_size, code}
use Rattle.c_api.specs.Api.{lacks, c_verdict, c_output, Places, places, record_room, record_at, records_in, in_column, filled}
use Rattle.c_records.specs.Records.{Narrow, ColumnRoom}
use Rattle.c_records.proofs.RecordLaws.{with_record, front_written}
use Rattle.c_records.proofs.CodeLaws.{small, inquiry_narrow}
use Rattle.c_api.proofs.CallLaws.{too_short}
use Rattle.c_api.proofs.OutputLaws.{reply_why, reply_numbers, Reads, code_own, output_own}

-- ---- a column of records

-- n records written over m that a column holds: the column with n numbers written
module _ (f : BlockRecord → ℕ) (zero_of : f no_record ≡ 0) (g h : ℕ → BlockRecord) (n m : ℕ) (old : List ℕ) (few : n ≤ m) (fits : m ≤ length old)
    (same : (i : ℕ) → i < m → f (h i) ≡ get_or old i 0) where
  abbrev records : List BlockRecord
  records = overwrite n g (tabulate m h)

  records_long : length records ≡ m
  records_long = length_overwrite g (tabulate m h) n (subst (λ z. n ≤ z) (sym (length_tabulate m h)) few) ∙ length_tabulate m h

  mapped_long : length (map f records) ≡ m
  mapped_long = length-map records f ∙ records_long

  mapped_at : (i : ℕ) → get_or (map f records) i 0 ≡ f (get_or records i no_record)
  mapped_at i = ap (get_or (map f records) i) (sym zero_of) ∙ get_or-map f records i no_record

  column_at : (i : ℕ) → i < m → get_or (map f records) i 0 ≡ get_or (overwrite n (λ i. f (g i)) old) i 0
  column_at i l =
      ⊎_elim
      (λ k. mapped_at i ∙ ap f (getD_overwrite g (tabulate m h) n i no_record k) ∙ sym (getD_overwrite (λ i. f (g i)) old n i 0 k))
      (λ k. mapped_at i ∙ ap f (get_d_past g (tabulate m h) n i no_record k ∙ get_d_tabulate m h i no_record l) ∙ same i l
      ∙ sym (get_d_past (λ i. f (g i)) old n i 0 k))
      (split i n)

  column_is : in_column f records old ≡ overwrite n (λ i. f (g i)) old
  column_is =
      sym (front_written (map f records) old) ∙ ap (λ z. overwrite z (λ i. get_or (map f records) i 0) old) mapped_long
      ∙ ext_get_or 0 (overwrite m (λ i. get_or (map f records) i 0) old) (overwrite n (λ i. f (g i)) old)
      (length_overwrite (λ i. get_or (map f records) i 0) old m fits ∙ sym (length_overwrite (λ i. f (g i)) old n (omega arith)))
      (λ i _. ⊎_elim (λ k. getD_overwrite (λ i. get_or (map f records) i 0) old m i 0 k ∙ column_at i k)
      (λ k. get_d_past (λ i. get_or (map f records) i 0) old m i 0 k ∙ sym (get_d_past (λ i. f (g i)) old n i 0 (omega arith))) (split i m))

-- n records over those in the places
module _ (p : Places) (g : ℕ → BlockRecord) (n : ℕ) (few : n ≤ record_room p) where
  abbrev put : List BlockRecord
  put = overwrite n g (records_in p)

  pub centres_put : in_column (λ r. r.centre) put p.centres ≡ overwrite n (λ i. (g i).centre) p.centres
  unfolding records_in
  centres_put = column_is (λ r. r.centre) refl g (record_at p) n (record_room p) p.centres few (omega arith) (λ i l. refl)

  pub sizes_put : in_column (λ r. r.tides) put p.sizes ≡ overwrite n (λ i. (g i).tides) p.sizes
  unfolding records_in
  sizes_put = column_is (λ r. r.tides) refl g (record_at p) n (record_room p) p.sizes few (omega arith) (λ i l. refl)

  pub diameters_put : in_column (λ r. r.diameter) put p.diameters ≡ overwrite n (λ i. (g i).diameter) p.diameters
  unfolding records_in
  diameters_put = column_is (λ r. r.diameter) refl g (record_at p) n (record_room p) p.diameters few (omega arith) (λ i l. refl)

-- ---- Block's reply

module _ (s : State) (list : List ℕ) (room : ℕ) (v : Reply (List ℕ)) (q : Lending room (λ records. v ≡ reply s (makes_blocks list records))) where
  -- some records of this number
  abbrev some_records : List BlockRecord
  some_records = replicate room no_record

  abbrev as_many : length some_records ≡ room
  as_many = length-replicate room no_record

  pub block_why : {y : Numbered} → v ≡ refusal y → Lending room (λ records. answer s (makes_blocks list records) ≡ refused y)
  block_why e records k = reply_why s (makes_blocks list records) (sym e ∙ q records k)

  pub block_narrow : {y : Numbered} → v ≡ refusal y → Narrow (refused y)
  unfolding makes_blocks block_reasons
  block_narrow e = subst Narrow (block_why e some_records as_many) (inquiry_narrow s _ (small tt, (small tt, (small tt, tt))))

  module _ {F : Figures} (e : v ≡ value (figure_numbers F)) where
    pub block_value : Lending room (λ records. (answer s (makes_blocks list records) ≡ accepted)
        × ((output s (makes_blocks list records)).numbers ≡ figure_numbers F))
    block_value records k = reply_numbers s (makes_blocks list records) (sym e ∙ q records k)

    blocks_are : F.blocks ≡ (figures (study_of s)).blocks
    unfolding makes_blocks contents_of
    blocks_are =
        ap (λ (l : List ℕ). get_or l 0 0)
        (reply_value (answer s (makes_blocks list some_records)) (figure_numbers (figures (study_of s)))
        (sym e ∙ q some_records as_many ∙ reply_tells s _)).1

    module _ {rows : BlockRows} (R : RowsOf s (makes_blocks list) room rows) where
      pub count_is : F.blocks ≡ rows.count
      count_is = blocks_are ∙ sym (rows_count list R (made_answer s list some_records as_many ∙ (block_value some_records as_many).0))

      pub blocks_small : F.blocks ≤ 120
      blocks_small = omega (arith, count_is, R.few)

      pub columns_fit : (x y z : List ℕ) → room ≡ min (length x) (min (length y) (length z)) → ColumnRoom F.blocks x y z
      columns_fit x y z m =
          let fits : F.blocks ≤ min (length x) (min (length y) (length z)) = omega (arith, count_is, R.fits) in
          record { few = blocks_small; in_centres = omega arith; in_sizes = omega arith; in_diameters = omega arith }

-- ---- any call that divides into blocks

places_are : {p q : Places} → p.list ≡ q.list → p.centres ≡ q.centres → p.sizes ≡ q.sizes → p.diameters ≡ q.diameters
    → p.result ≡ q.result → p ≡ q
places_are a b c d e = λ i. record { list = a i; centres = b i; sizes = c i; diameters = d i; result = e i }

-- what it is lent
abbrev pub Lends : List ℕ → (List BlockRecord → Call) → Type 0
Lends list ask = (records : List BlockRecord) → lent_to (ask records) ≡ record { numbers = []; lists = list ∷ []; records = records }

pub makes_lent : (list : List ℕ) → Lends list (makes_blocks list)
unfolding makes_blocks lent_to
makes_lent list records = refl

module _ (need : ℕ) (l : Lent) (p : Places) (ask : List BlockRecord → Call) (L : Lends p.list ask) where
  abbrev c : Call
  c = ask (records_in p)

  -- it answers the code n, and leaves q
  abbrev Settled : ℕ → Places → Type 0
  Settled n q = (n ≡ code (c_verdict l (lacks need p.result) c)) × (q ≡ filled (c_output l (lacks need p.result) c) p)

  -- nothing was written
  untouched : filled (record { numbers = []; lists = p.list ∷ []; records = records_in p }) p ≡ p
  unfolding filled
  untouched =
      let none : ℕ → BlockRecord = λ i. no_record in
      let same = overwrite_none none (records_in p) in
      places_are refl (ap (λ rs. in_column (λ r. r.centre) rs p.centres) same ∙ centres_put p none 0 (omega arith) ∙ sym (overwrite_none _ p.centres))
      (ap (λ rs. in_column (λ r. r.tides) rs p.sizes) same ∙ sizes_put p none 0 (omega arith) ∙ sym (overwrite_none _ p.sizes))
      (ap (λ rs. in_column (λ r. r.diameter) rs p.diameters) same ∙ diameters_put p none 0 (omega arith) ∙ sym (overwrite_none _ p.diameters)) refl

  pub blocks_too_short : lacks record_size l.numbers || lacks need p.result ≡ true → Settled 1 p
  blocks_too_short h =
      let e = too_short l (lacks need p.result) c h in
      (ap code (sym e.0), sym untouched ∙ ap (λ o. filled o p) (sym (L (records_in p)) ∙ sym e.2))

  -- what the core answers of the record as the code holds it, with this room for records
  module _ {r : Dataset} (R : Reads l r need p.result) {room : ℕ} (m : room ≡ record_room p) {new : List ℕ}
      (t : Lending room (λ records. new ≡ list_after (with_record l r) (ask records))) where
    abbrev s : State
    s = with_record l r

    as_long : length (records_in p) ≡ room
    unfolding records_in
    as_long = length_tabulate (record_room p) _ ∙ sym m

    pub blocks_refused : {y : Numbered} {n : ℕ} → Lending room (λ records. answer s (ask records) ≡ refused y) → n ≡ code (refused y)
        → Settled n (places new p.centres p.sizes p.diameters p.result)
    blocks_refused e f =
        let y = e (records_in p) as_long in
        let o = sym (unwritten s c (sym y)) ∙ L (records_in p) in
        let same : new ≡ p.list = t (records_in p) as_long ∙ ap (λ (x : Output). first_list x.lists) o in (
          f ∙ code_own R c y,
          ap (λ z. places z p.centres p.sizes p.diameters p.result) same ∙ sym untouched ∙ ap (λ x. filled x p) (sym o ∙ output_own R c),
        )

    pub blocks_done : {b : ℕ} {rows : BlockRows} {xs y z d f : List ℕ}
        → Lending room (λ records. (answer s (ask records) ≡ accepted) × ((output s (ask records)).numbers ≡ xs)) → RowsOf s ask room rows → b ≡ rows.count
        → y ≡ overwrite b (λ i. get_or rows.centres i 0) p.centres → z ≡ overwrite b (λ i. get_or rows.tides i 0) p.sizes
        → d ≡ overwrite b (λ i. get_or rows.diameters i 0) p.diameters → f ≡ over xs p.result → Settled 0 (places new y z d f)
    unfolding filled
    blocks_done {b} {rows} {xs} e W k ey ez ed ef =
        let v = e (records_in p) as_long in
        let o = output s c in
        let few : rows.count ≤ record_room p = omega (arith, W.fits, m) in
        let put : overwrite rows.count (row_record rows) (records_in p) ≡ o.records = W.records (records_in p) as_long in (
          code_own R c v.0,
          places_are {q = filled o p} (t (records_in p) as_long)
              (ey ∙ ap (λ j. overwrite j (λ i. get_or rows.centres i 0) p.centres) k ∙ sym (centres_put p (row_record rows) rows.count few)
              ∙ ap (λ rs. in_column (λ r. r.centre) rs p.centres) put)
              (ez ∙ ap (λ j. overwrite j (λ i. get_or rows.tides i 0) p.sizes) k ∙ sym (sizes_put p (row_record rows) rows.count few)
              ∙ ap (λ rs. in_column (λ r. r.tides) rs p.sizes) put)
              (ed ∙ ap (λ j. overwrite j (λ i. get_or rows.diameters i 0) p.diameters) k ∙ sym (diameters_put p (row_record rows) rows.count few)
              ∙ ap (λ rs. in_column (λ r. r.diameter) rs p.diameters) put)
              (ef ∙ ap (λ ns. over ns p.result) (sym v.1))
              ∙ ap (λ x. filled x p) (output_own R c),
        )

-- What is proved of every list of calls; there are no proofs here. `demand1`, `demand2`, `demand3`, `for_tariff`, `for_centres`, `for_enter`,
-- `duplicate_free` and `for_merge` of proofs/Proofs.antt prove the eight records of these names. Assumes nothing.
use Rattle.std.specs.Prelude.{ℕ, suc, ◌+◌, ◌*◌, ◌≤◌, ◌<◌, ◌≡◌, ◌⊎◌, ◌↔◌, false, List, [], ◌∷◌, ◌++◌, T, length, take}
use Rattle.std.proofs.Math.Option.{none, some}
use Rattle.lists.specs.Lists.{◌among◌, at, greatest, overwrite, over}
use Rattle.study.specs.declared.BlockRecord.{BlockRecord}
use Rattle.study.specs.Limits.{max_withdrawals}
use Rattle.study.specs.Problem.{centres, centre_of, labels, radius, blocking, diameter, greatest_diameter, Feasible}
use Rattle.study.specs.Study.{Study, Contents, size, distance, problem, Valid, Renumbered}
use Rattle.study.specs.Theorems.{Canonical, IsNearest, DuplicateOf}
use Rattle.study.specs.Refusals.{number, Numbered, Verdict, accepted, refused, value, IsFirst, is_user}
use Rattle.study.specs.declared.Figures.{Figures}
use Rattle.study.specs.Calls.{holds_duplicate, count_of, CentreLists, centres_written, block_record}
use Rattle.file_format.specs.File.{new_mark, old_mark, old_file, mark_of, file_of}
use Rattle.file_format.specs.Theorems.{Bytes, OldFile}
use Rattle.validity.specs.Memory.{State, short, is_dataset, contents_of}
use Rattle.access.specs.Calls.{Holding, fresh, held, Inquiry, Call, asks, reasons, lent, Response, learnt, response, answer, output, reply, list_after, after}
use Rattle.dataset.specs.Calls.{enters_tide}
use Rattle.study_file.specs.Calls.{reads_file, writes_file}
use Rattle.merge.specs.Merge.{merged}
use Rattle.merge.specs.Calls.{merges_datasets}
use Rattle.merge.specs.Theorems.{ForContents}
use Rattle.blocking.specs.Calls.{all_three, figure_numbers, finds_centres, makes_blocks}
use Rattle.pricing.specs.Tariff.{total, shares}
use Rattle.pricing.specs.Theorems.{StudyShares}
use Rattle.priced_blocks.specs.Calls.{prices_blocks}
use Rattle.guarantee.specs.Runs.{Offered, read_file, merge, call_of, brings_in, run, held_after, study_after}
use Rattle.guarantee.specs.Ledger.{Ledger, file_ledger, note_all, ledger_after, Exactly}
use Rattle.guarantee.specs.Counts.{accepted_calls, last_stretch, withdrawals_by, count_in}

-- ---- demand 1

-- for any record and memory and any call, as its contract cites it
pub record Demand1 : Type 0 where
  -- the answer is the first of the documents' reasons that holds, and accepted where none does; there is no other such answer
  pub first : (s : State) (c : Call) → IsFirst (reasons (short s) (held s) c) (answer s c)
  pub only : (s : State) (c : Call) (v : Verdict) → IsFirst (reasons (short s) (held s) c) v → v ≡ answer s c
  -- a refused call leaves record and memory as they were, and writes into nothing that it is lent
  pub unchanged : (s : State) (c : Call) (r : Numbered) → answer s c ≡ refused r → after s c ≡ s
  pub unwritten : (s : State) (c : Call) (r : Numbered) → answer s c ≡ refused r → output s c ≡ lent c
  -- a call that only reads leaves record and memory, accepted or not
  pub only_reads : (s : State) (Q : Inquiry) → after s (asks Q) ≡ s

-- ---- demand 3

-- what demand 3 says of a study, the figures that Block answers and the list that it leaves
pub record Guaranteed (S : Study) (F : Figures) (list : List ℕ) : Type 0 where
  -- the list divides the study: each tide has one of the blocks, and each block has a tide
  pub long : size S ≤ length list
  pub low : (t : ℕ) → t < size S → 1 ≤ labels list t
  pub high : (t : ℕ) → t < size S → labels list t ≤ F.blocks
  pub used : (m : ℕ) → 1 ≤ m → m ≤ F.blocks → (t : ℕ) × (t < size S) × (labels list t ≡ m)
  -- it meets every minimum
  pub feasible : Feasible (problem S) (labels list)
  -- widest is its greatest diameter, which is that of one of its blocks
  pub widest : F.widest ≡ greatest_diameter (problem S) (labels list)
  pub of_blocks : F.widest ≡ greatest F.blocks (λ i. diameter (problem S) (labels list) (suc i))
  -- against every feasible partition of the same tides, numbered in any order
  pub bounded : (R : Study) → Renumbered S R → (D : ℕ → ℕ) → Feasible (problem R) D
      → (F.radius ≤ greatest_diameter (problem R) D) × (F.widest ≤ 2 * greatest_diameter (problem R) D)

-- the response of an accepted Block: its figures, and the list and the records as they then stand
abbrev pub blocked : Figures → List ℕ → List BlockRecord → Response
blocked F list records = record { verdict = accepted; output = record { numbers = figure_numbers F; lists = list ∷ []; records = records } }

-- for every start, every list of calls, and the Block after it, lent any list and records
pub record Demand3 : Type 0 where
  -- where it is not refused, its caller learns figures, a list and records
  pub shaped : (start : State) (calls : List Offered) (list₀ : List ℕ) (records₀ : List BlockRecord)
      → answer (run start calls) (makes_blocks list₀ records₀) ≡ accepted
      → (F : Figures) × (list : List ℕ) × (records : List BlockRecord)
      × (response (run start calls) (makes_blocks list₀ records₀) ≡ blocked F list records)
  -- then there is a study, and the guarantee holds of it
  pub guaranteed : (start : State) (calls : List Offered) (list₀ list : List ℕ) (records₀ records : List BlockRecord) (F : Figures)
      → response (run start calls) (makes_blocks list₀ records₀) ≡ blocked F list records
      → (S : Study) × (study_after start calls ≡ some S) × Guaranteed S F list
  -- while there is no study, it is refused
  pub no_study : (start : State) (calls : List Offered) (list : List ℕ) (records : List BlockRecord) → study_after start calls ≡ none
      → (r : Numbered) × (answer (run start calls) (makes_blocks list records) ≡ refused r)

-- ---- demand 2

-- the blocking that documents 01 and 02 (2.6) single out: figures, list and records
pub record CanonicalBlock (S : Study) (F : Figures) (list₀ list : List ℕ) (records₀ records : List BlockRecord) : Type 0 where
  pub radius : F.radius ≡ radius (problem S)
  pub blocks : F.blocks ≡ length (centres (problem S) F.radius)
  pub widest : F.widest ≡ greatest_diameter (problem S) (labels (blocking (problem S)))
  pub list_is : list ≡ over (blocking (problem S)) list₀
  pub records_are : records ≡ overwrite F.blocks (block_record S) records₀
  -- an assignment at the radius, the first by the order in which the tides prefer blocks; no smaller candidate has one
  pub canonical : Canonical (problem S)

-- after an accepted call that begins anew the ledger begins with the tides that it brings in, if any, and goes on with the calls since
pub record Anew (start : State) (before since : List Offered) : Type 0 where
  pub begun : (c : Offered) (C : Contents) → brings_in (call_of c) ≡ some C → answer (run start before) (call_of c) ≡ accepted
      → ledger_after start (before ++ (c ∷ since)) ≡ note_all (short start) (some (fresh C)) (some (file_ledger C.study)) since

-- document 02, 2.9: a merge counts as a Read of the merged dataset's file. So does any call c that begins anew, of the file of what it brings in:
-- Read accepts that file in its place, and whatever calls come since, the same stands in record and memory, the same is held, and the ledger
-- and the stretch in which withdrawals are counted are the same
pub record AsRead (start : State) (before since : List Offered) (c : Offered) (file : List ℕ) : Type 0 where
  pub accepts : answer (run start before) (reads_file file) ≡ accepted
  pub leaves : run start (before ++ (c ∷ since)) ≡ run start (before ++ (read_file file ∷ since))
  pub holds : held_after start (before ++ (c ∷ since)) ≡ held_after start (before ++ (read_file file ∷ since))
  pub ledger : ledger_after start (before ++ (c ∷ since)) ≡ ledger_after start (before ++ (read_file file ∷ since))
  pub stretch : last_stretch start (before ++ (c ∷ since)) ≡ last_stretch start (before ++ (read_file file ∷ since))

-- Write, lent these bytes, is accepted, answers n and leaves bytes
pub record Wrote (s : State) (bytes : List ℕ) (n : ℕ) (left : List ℕ) : Type 0 where
  pub replied : reply s (writes_file bytes) ≡ value (n ∷ [])
  pub leaves : list_after s (writes_file bytes) ≡ left

-- files and datasets correspond one to one, of what Write and Read leave; a dataset's only file is that of mark 55 (document 02, 2.7)
pub record FilesAndDatasets : Type 0 where
  -- what Write writes, Read reads back: onto the same record and memory nothing changes, onto any other there is the same dataset
  pub same : (s : State) (bytes left : List ℕ) (n : ℕ) → Wrote s bytes n left → after s (reads_file (take n left)) ≡ s
  pub read_back : (s onto : State) (bytes left : List ℕ) (n : ℕ) → Wrote s bytes n left → short onto ≡ false
      → let read = after onto (reads_file (take n left)) in T (is_dataset read) × (contents_of read ≡ contents_of s)
  -- a file that Read accepts has one of two marks; one of mark 55 is what Write then writes
  pub marked : (onto : State) (file : List ℕ) → answer onto (reads_file file) ≡ accepted → (mark_of file ≡ new_mark) ⊎ (mark_of file ≡ old_mark)
  pub written_again : (onto : State) (file bytes : List ℕ) → Bytes file → answer onto (reads_file file) ≡ accepted → mark_of file ≡ new_mark
      → length file ≤ length bytes
      → (left : List ℕ) × Wrote (after onto (reads_file file)) bytes (length file) left × (take (length file) left ≡ file)
  -- one of mark 54 is read to the dataset whose own file says the same of k, minima, tides and counts
  pub from_old_file : (onto : State) (file : List ℕ) → Bytes file → answer onto (reads_file file) ≡ accepted → mark_of file ≡ old_mark
      → OldFile file (contents_of (after onto (reads_file file)))
  -- and every file of mark 54 of a valid study is still accepted, and gives that study, with its count as user 1's
  pub old_read : (onto : State) (count : ℕ) (S : Study) → short onto ≡ false → count ≤ max_withdrawals → Valid S
      → (answer onto (reads_file (old_file count S)) ≡ accepted)
      × (contents_of (after onto (reads_file (old_file count S))) ≡ record { study = S; withdrawals = count ∷ 0 ∷ 0 ∷ 0 ∷ [] })

-- for every start and every list of calls
pub record Demand2 : Type 0 where
  -- what record and memory hold is what the start and the calls brought in, and the same settles all that the caller of any call learns
  pub holds : (start : State) (calls : List Offered) → held (run start calls) ≡ held_after start calls
  pub settles : (start : State) (calls : List Offered) (c : Call) → response (run start calls) c ≡ learnt (short start) (held_after start calls) c
  -- the last file's tides, if any, and those entered since, without those withdrawn, in order
  pub exactly : (start : State) (calls : List Offered) (H : Holding) → held (run start calls) ≡ some H
      → (L : Ledger) × (ledger_after start calls ≡ some L) × Exactly H.contents.study L
  pub anew : (start : State) (before since : List Offered) → Anew start before since
  pub as_read : (start : State) (before since : List Offered) (c : Offered) (C : Contents) → brings_in (call_of c) ≡ some C
      → answer (run start before) (call_of c) ≡ accepted → AsRead start before since c (file_of C)
  -- document 02, 2.7: each count is the one it began with, and the withdrawals accepted from that user since the start or the last Open, Read
  -- or merge, whichever is later
  pub counted : (start : State) (calls : List Offered) (H : Holding) (u : ℕ) → held (run start calls) ≡ some H → T (is_user u)
      → let last = last_stretch start calls in count_of H.contents.withdrawals u ≡ count_in u last.from + withdrawals_by u last.calls
  -- 25, where no earlier reason holds, exactly when no partition is feasible
  pub too_few : (start : State) (calls : List Offered) (S : Study) (list : List ℕ) (records : List BlockRecord)
      → study_after start calls ≡ some S → 0 < size S
      → (answer (run start calls) (makes_blocks list records) ≡ refused (number 25)) ↔ ((D : ℕ → ℕ) → Feasible (problem S) D → ⊥)
  -- an accepted Block's figures, list and records are those that documents 01 and 02 single out
  pub blocking : (start : State) (calls : List Offered) (S : Study) (list₀ list : List ℕ) (records₀ records : List BlockRecord) (F : Figures)
      → study_after start calls ≡ some S
      → response (run start calls) (makes_blocks list₀ records₀) ≡ blocked F list records
      → CanonicalBlock S F list₀ list records₀ records
  -- files and datasets correspond one to one
  pub files : FilesAndDatasets

-- ---- the tariff (document 02, 2.3)

-- the response of an accepted tariff: the figures, the price and the shares, and the list and the records as they then stand
abbrev pub charged : Figures → ℕ → List ℕ → List ℕ → List BlockRecord → Response
charged F price parts list records =
    record { verdict = accepted; output = record { numbers = figure_numbers F ++ (price ∷ parts); lists = list ∷ []; records = records } }

-- for every start, every list of calls, and the tariff after it, lent any list and records
pub record ForTariff : Type 0 where
  -- it is accepted, or refused by a number, exactly as Block is
  pub as_block : (start : State) (calls : List Offered) (list : List ℕ) (records : List BlockRecord)
      → let s = run start calls in answer s (prices_blocks list records) ≡ answer s (makes_blocks list records)
  -- where Block is accepted, figures, list and records are Block's, the price is that of the study's blocking, and the shares of the
  -- settings add up to it (pricing/Theorems)
  pub charges : (start : State) (calls : List Offered) (S : Study) (list₀ list : List ℕ) (records₀ records : List BlockRecord) (F : Figures)
      → study_after start calls ≡ some S
      → response (run start calls) (makes_blocks list₀ records₀) ≡ blocked F list records
      → (response (run start calls) (prices_blocks list₀ records₀) ≡ charged F (total S) (shares S) list records)
      × StudyShares S

-- ---- Centres (document 02, 2.4)

-- the response of an accepted Centres: how many centres there are, and the three lists as they then stand
abbrev pub centred : ℕ → CentreLists → Response
centred count l = record { verdict = accepted; output = record { numbers = count ∷ []; lists = all_three l; records = [] } }

-- what is told of tide t: this block's centre is the nearest of the centres at g, it is this far away, and that is at most g
pub record NearestTold (S : Study) (g t block away : ℕ) : Type 0 where
  pub nearest : IsNearest (distance S) (centres (problem S) g) t block
  pub distance_is : away ≡ distance S (centre_of (centres (problem S) g) block) t
  pub in_radius : away ≤ g

-- what an accepted Centres at g tells of a study, lent l₀ and leaving l: what is written, and past it what was there
pub record CentresTold (S : Study) (g count : ℕ) (l₀ l : CentreLists) : Type 0 where
  pub counted : count ≡ length (centres (problem S) g)
  pub written : l ≡ centres_written S g l₀
  pub nearest : (t : ℕ) → t < size S → NearestTold S g t (at l.nearest t) (at l.away t)

-- for every start, every list of calls, and the Centres after it, at any g and lent any lists, where it is not refused
pub record ForCentres : Type 0 where
  pub tells : (start : State) (calls : List Offered) (S : Study) (g count : ℕ) (l₀ l : CentreLists) → study_after start calls ≡ some S
      → response (run start calls) (finds_centres g l₀) ≡ centred count l → CentresTold S g count l₀ l

-- ---- duplicates (document 02, 2.8: twins)

-- what 15 means, for every start, every list of calls and the Enter after it, whatever is held already: a tide that is refused by it is a
-- duplicate of one held, and a tide that is accepted is not
pub record ForEnter : Type 0 where
  pub refused_one : (start : State) (calls : List Offered) (S : Study) (setting : ℕ) (row : List ℕ) → study_after start calls ≡ some S
      → answer (run start calls) (enters_tide setting row) ≡ refused (number 15) → DuplicateOf S setting row
  pub accepted_none : (start : State) (calls : List Offered) (S : Study) (setting : ℕ) (row : List ℕ) → study_after start calls ≡ some S
      → answer (run start calls) (enters_tide setting row) ≡ accepted → DuplicateOf S setting row → ⊥

-- for every start and every list of calls
pub record DuplicateFree : Type 0 where
  -- where the start holds none, and nothing that an accepted call brings in holds one, none is held afterwards
  pub stays : (start : State) (calls : List Offered)
      → ((H : Holding) → held start ≡ some H → holds_duplicate H.contents.study ≡ false)
      → ((c : Offered) (C : Contents) → c among accepted_calls (short start) (held start) calls → brings_in (call_of c) ≡ some C
      → holds_duplicate C.study ≡ false)
      → (H : Holding) → held (run start calls) ≡ some H → holds_duplicate H.contents.study ≡ false

-- ---- merging (document 02, 2.9: joining)

-- an accepted merge of two records with their memory, after these calls: both are datasets, what is then held is what they hold, merged, and of
-- that all holds that document 02 says (merge/Theorems)
pub record HoldsMerged (start : State) (calls : List Offered) (a b : State) (firsts seconds : List ℕ) : Type 0 where
  pub first : T (is_dataset a)
  pub second : T (is_dataset b)
  pub holds : held_after start (calls ++ (merge a b firsts seconds ∷ [])) ≡ some (fresh (merged (contents_of a) (contents_of b) firsts seconds))
  pub merges : ForContents (contents_of a) (contents_of b) firsts seconds

-- for every start, every list of calls, and the merge after it, of any two, where it is not refused
pub record ForMerge : Type 0 where
  pub merged : (start : State) (calls : List Offered) (a b : State) (firsts seconds : List ℕ)
      → answer (run start calls) (merges_datasets a b firsts seconds) ≡ accepted → HoldsMerged start calls a b firsts seconds

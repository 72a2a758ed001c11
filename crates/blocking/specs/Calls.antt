-- Centres, Block and Judge, each as one value; what it answers and leaves is said of every call in access. Assumes nothing.
use Rattle.std.specs.Prelude.{ℕ, List, [], ◌∷◌, length, Option, Result, Ok, Err}
use Rattle.lists.specs.Lists.{overwrite, over}
use Rattle.study.specs.declared.BlockRecord.{BlockRecord}
use Rattle.study.specs.declared.Figures.{Figures}
use Rattle.study.specs.declared.Refusal.{Refusal}
use Rattle.study.specs.Problem.{blocking}
use Rattle.study.specs.Study.{Study, problem}
use Rattle.study.specs.Refusals.{numbered, settled, Reply, value, refusal, in_numbers}
use Rattle.study.specs.Calls.{CentreLists, centres_reasons, centre_numbers, centres_written, block_reasons, figures, block_record, blocked_of}
use Rattle.study.specs.Calls.{judge_reasons, Judgement, approval, disapproval, judgement, judged_of}
use Rattle.validity.specs.Memory.{State, study_of}
use Rattle.access.specs.Calls.{nobody, no_output, Inquiry, Call, asks, answer}

-- ---- Centres at g, lent three lists

-- these three
abbrev pub centre_lists : List ℕ → List ℕ → List ℕ → CentreLists
centre_lists l m d = record { list = l; nearest = m; away = d }

-- the three lists of Centres
abbrev pub all_three : CentreLists → List (List ℕ)
all_three l = l.list ∷ l.nearest ∷ l.away ∷ []

-- Centres at g, lent these lists: it answers the number of centres, and fills the three
unfoldable pub finds_centres : ℕ → CentreLists → Call
finds_centres g l =
    asks (record {
      caller = nobody;
      own = λ H. centres_reasons H.contents.study l;
      lent = record { numbers = []; lists = all_three l; records = [] };
      tells = λ H. let S = H.contents.study in record {
        numbers = length (centre_numbers S g) ∷ [];
        lists = all_three (centres_written S g l);
        records = [];
      };
    })

-- the number of the code's answer, by document 01's number and values
abbrev pub counted_reply : Result ℕ Refusal → Reply (List ℕ)
counted_reply (Ok count) = value (count ∷ [])
counted_reply (Err r) = refusal (numbered r)

-- the filled front of the list of centres, empty on a refusal
unfoldable pub centres_front : State → ℕ → CentreLists → List ℕ
centres_front s g l = settled (answer s (finds_centres g l)) (centre_numbers (study_of s) g) []

-- ---- Block, lent a list and records; of each only the length counts for the answer

-- a call that makes blocks, and answers these numbers of the study: the list's entries past the last tide stay, and so do the records
-- past the last block
abbrev pub block_inquiry : (Study → List ℕ) → List ℕ → List BlockRecord → Inquiry
block_inquiry numbers list records =
    record {
      caller = nobody;
      own = λ H. block_reasons H.contents.study (length list) (length records);
      lent = record { numbers = []; lists = list ∷ []; records = records };
      tells = λ H. let S = H.contents.study in record {
        numbers = numbers S;
        lists = over (blocking (problem S)) list ∷ [];
        records = overwrite (figures S).blocks (block_record S) records;
      };
    }

-- block count, radius and greatest diameter
abbrev pub figure_numbers : Figures → List ℕ
figure_numbers F = F.blocks ∷ F.radius ∷ F.widest ∷ []

-- Block, lent this list and these records: it answers the three figures
unfoldable pub makes_blocks : List ℕ → List BlockRecord → Call
makes_blocks list records = asks (block_inquiry (λ S. figure_numbers (figures S)) list records)

-- the numbers of the code's answer, by document 01's number and values (study/Calls)
abbrev pub blocked_reply : Result Figures Refusal → Reply (List ℕ)
blocked_reply r = in_numbers figure_numbers (blocked_of r)

-- ---- Judge, given a list

-- 1 and the greatest diameter for yes, 0 and 0 for no
abbrev pub judgement_numbers : Judgement → List ℕ
judgement_numbers (approval w) = 1 ∷ w ∷ []
judgement_numbers disapproval = 0 ∷ 0 ∷ []

-- Judge, of this list
unfoldable pub judges_list : List ℕ → Call
judges_list list =
    asks (record {
      caller = nobody;
      own = λ H. judge_reasons H.contents.study list;
      lent = no_output;
      tells = λ H. record { numbers = judgement_numbers (judgement H.contents.study list); lists = []; records = [] };
    })

-- the numbers of the code's answer, by document 01's number and values (study/Calls)
abbrev pub judged_reply : Result (Option ℕ) Refusal → Reply (List ℕ)
judged_reply r = in_numbers judgement_numbers (judged_of r)

-- Read and Write, each as one value; what it answers and leaves is said of every call in access. Assumes nothing.
use Rattle.std.specs.Prelude.{ℕ, List, [], ◌∷◌, ltb, length, Result, Ok, Err}
use Rattle.lists.specs.Lists.{over}
use Rattle.study.specs.declared.Refusal.{Refusal}
use Rattle.study.specs.Study.{Contents}
use Rattle.study.specs.Refusals.{number, Reply, value, refusal, Reason, ◌⇒◌, numbered}
use Rattle.file_format.specs.File.{file_of, decoded, read_reasons}
use Rattle.access.specs.Calls.{nobody, Call, begins, asks}

-- Read: the file's own reasons, and the contents that its bytes stand for
unfoldable pub reads_file : List ℕ → Call
reads_file file = begins (record { own = read_reasons file; brings = decoded file })

-- Write's own reason: the lent bytes are fewer than those of the file of the contents
unfoldable pub write_reasons : Contents → ℕ → List Reason
write_reasons H room = (ltb room (length (file_of H)) ⇒ number 1) ∷ []

-- Write, lent these bytes: the file's length, and the file over their front
unfoldable pub writes_file : List ℕ → Call
writes_file bytes =
    asks (record {
      caller = nobody;
      own = λ H. write_reasons H.contents (length bytes);
      lent = record { numbers = []; lists = bytes ∷ []; records = [] };
      tells = λ H. let file = file_of H.contents in record { numbers = length file ∷ []; lists = over file bytes ∷ []; records = [] };
    })

-- the code's answer, by document 01's number and values
abbrev pub written_of : Result ℕ Refusal → Reply (List ℕ)
written_of (Ok n) = value (n ∷ [])
written_of (Err r) = refusal (numbered r)

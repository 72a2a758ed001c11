-- Read's answer and what it leaves, at each way out of the code. Assumes nothing.
use Prim.Native.Nat.{ℕ, ◌≤◌}
use mathlib.Core.Path.{◌≡◌, refl, sym, ap, ◌∙◌, subst}
use mathlib.Core.Logic.{⊎_elim}
use mathlib.Core.Bool.{true, false}
use mathlib.Core.List.{List, ◌++◌}
use lib.ListN.{length, get_or, take, drop, replicate, length-replicate, get_or-replicate, get_or-eq_default}
use Rattle.std.specs.Prelude.{Result, Ok, Err}
use Rattle.lists.proofs.Tests.{split}
use Rattle.study.specs.declared.Dataset.{Dataset}
use Rattle.study.specs.declared.Refusal.{Refusal}
use Rattle.study.specs.Refusals.{number, accepted, refused, numbered, verdict_of, first_of}
use Rattle.file_format.specs.Bits.{bits_at}
use Rattle.file_format.specs.File.{decoded, head_reasons, read_reasons}
use Rattle.file_format.proofs.DecodedLaws.{decoded_size}
use Rattle.file_format.specs.Head.{Head}
use Rattle.file_format.proofs.ReadLaws.{head-T, refused_head}
use Rattle.validity.specs.Memory.{State, state_of, short, record_of, stored}
use Rattle.storage.proofs.PlaceLaws.{front_copied}
use Rattle.access.specs.Calls.{answer, made, after}
use Rattle.access.proofs.AccessLaws.{unmoved, leaves, source_short, source_own}
use Rattle.study_file.specs.Calls.{reads_file}
use Rattle.bit_reader.specs.declared.Place.{Place}
use Rattle.file_fields.specs.Heading.{HeadRecord}
use Rattle.file_fields.specs.Loading.{Loaded, Reading, TidesRead}
use Rattle.file_fields.proofs.LoadingLaws.{loaded_none, loaded_accepted, copied_distances, copied_settings}

-- ---- on the way

count_is : (s : List ℕ) (o : Dataset) {r : Dataset} → r ≡ record_of (decoded s) o → r.n ≡ bits_at s 8 7
unfolding record_of
count_is s o e = ap (λ (r : Dataset). r.n) e ∙ decoded_size s

k_is : (s : List ℕ) (o : Dataset) {r : Dataset} → r ≡ record_of (decoded s) o → r.k ≡ bits_at s 15 4
unfolding record_of decoded
k_is s o e = ap (λ (r : Dataset). r.k) e

blank : (x n i : ℕ) → x ≡ 0 → get_or (replicate n x) i 0 ≡ 0
blank x n i e =
    ⊎_elim (λ l. get_or-replicate n i x 0 l ∙ e) (λ l. get_or-eq_default (replicate n x) 0 (subst (λ z. z ≤ i) (sym (length-replicate n x)) l)) (split i n)

-- where the reasons before any tide have passed
module _ (s : List ℕ) (passed : accepted ≡ first_of (head_reasons s)) where
  head_passed : Head s
  head_passed = (head-T s).0 (sym passed)

  pub tides_begin : {r : Dataset} {p : Place} → HeadRecord s r p → {matrix vector : List ℕ} → matrix ≡ replicate 14400 0 → vector ≡ replicate 120 0
      → (r.k ≡ bits_at s 15 4) × (r.n ≡ bits_at s 8 7) × TidesRead s 0 p matrix vector
  tides_begin {r} H {matrix} {vector} x y = (
    k_is s r (H.is r),
    count_is s r (H.is r),
    record {
      loaded = loaded_none s matrix vector head_passed (sym passed)
          (ap length x ∙ length-replicate {A = ℕ} 14400 0) (ap length y ∙ length-replicate {A = ℕ} 120 0)
          (λ i. ap (λ (l : List ℕ). get_or l i 0) x ∙ blank 0 14400 i refl) (λ i. ap (λ (l : List ℕ). get_or l i 0) y ∙ blank 0 120 i refl);
      here = H.first;
    },
  )

-- ---- the ways out

module _ (σ : State) (file : List ℕ) where
  pub read_short : short σ ≡ true → (refused (number 1) ≡ answer σ (reads_file file)) × (σ ≡ after σ (reads_file file))
  unfolding reads_file
  read_short e = let a = source_short σ _ e in (a, unmoved σ _ a)

  module _ (long : short σ ≡ false) where
    own : first_of (read_reasons file) ≡ answer σ (reads_file file)
    unfolding reads_file
    own = source_own σ _ long

    refuses : {r : Result Unit Refusal} {why : Refusal} → r ≡ Err why → first_of (read_reasons file) ≡ refused (numbered why)
        → (verdict_of r ≡ answer σ (reads_file file)) × (σ ≡ after σ (reads_file file))
    refuses e f = let a = sym f ∙ own in (ap verdict_of e ∙ a, unmoved σ (reads_file file) a)

    -- before any tide
    pub read_head : {r : Result Unit Refusal} {why : Refusal} → r ≡ Err why → refused (numbered why) ≡ first_of (head_reasons file)
        → (verdict_of r ≡ answer σ (reads_file file)) × (σ ≡ after σ (reads_file file))
    read_head e f = refuses e (refused_head file (sym f))

    -- while a tide is read
    pub read_tide : {r a : Result Unit Refusal} {why : Refusal} {n : ℕ} {x y : List ℕ} → r ≡ Err why → Reading file n a x y → a ≡ Err why
        → (verdict_of r ≡ answer σ (reads_file file)) × (σ ≡ after σ (reads_file file))
    read_tide {why = why} e t q = refuses e (t.stops why q)

    pub read_done : {a : Result Unit Refusal} {r : Dataset} {x y d g : List ℕ} → Reading file r.n a x y → a ≡ Ok tt
        → r ≡ record_of (decoded file) σ.dataset → d ≡ take 14400 x ++ drop 14400 σ.distances → g ≡ take 120 y ++ drop 120 σ.settings
        → (accepted ≡ answer σ (reads_file file)) × (state_of r d g ≡ after σ (reads_file file))
    unfolding stored reads_file made
    read_done {r = r} {x} {y} t q e f h =
        let count : r.n ≡ bits_at file 8 7 = count_is file σ.dataset e in
        let L : Loaded file (bits_at file 8 7) x y = subst (λ n. Loaded file n x y) count (t.goes q) in
        let a = sym (loaded_accepted file x y L) ∙ own in (
          a,
          (λ i. record {
            dataset = e i;
            distances = (f ∙ front_copied 14400 x σ.distances L.long ∙ copied_distances file x y L σ.distances) i;
            settings = (h ∙ front_copied 120 y σ.settings L.enough ∙ copied_settings file x y L σ.settings) i;
          }) ∙ leaves σ (reads_file file) a,
        )

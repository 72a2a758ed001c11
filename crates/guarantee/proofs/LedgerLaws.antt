-- A study's tides are exactly those that remain in the ledger, after every list of calls; an accepted Open, Read or merge begins it
-- anew. Assumes nothing.
use Prim.Native.Nat.{ℕ, suc, ◌+◌, ◌-◌, ◌≤◌, ◌<◌}
use native.Mathlib.Nat.{le_refl}
use native.Mathlib.Omega.{arith}
use mathlib.Core.Path.{◌≡◌, refl, sym, ap, ap₂, ◌∙◌, subst}
use mathlib.Core.Logic.{◌⊎◌, inl, inr, ⊎_elim}
use mathlib.Core.Bool.{Bool, true, false, not}
use mathlib.Core.List.{List, [], ◌∷◌, ◌++◌, map}
use mathlib.Core.Option.{Option, none, some}
use lib.Dec.{T, ltb, eqb, lt→ltb, eqb→eq, eqb_refl, not_T}
use lib.ListN.{get_or, length-append, length-map, get_or-append, get_or-map}
use lib.Seq.{get_or-append_seam}
use Rattle.lists.specs.Lists.{bit, count_below}
use Rattle.lists.proofs.Tests.{T_true, split, cond_yes, cond_no}
use Rattle.lists.proofs.Counts.{sum_bump, count_same, count_hit, count_all}
use Rattle.lists.proofs.Counting.{count_front, Nth}
use Rattle.study.specs.declared.Minima.{Minima}
use Rattle.study.specs.Study.{Tide, Study, Contents, size, no_tide, tide, distance}
use Rattle.study.specs.Refusals.{Verdict, accepted, refused, settled, first_of}
use Rattle.study.specs.Calls.{opened, opening, understood, with_minima, setting_minima, entered, entering, withdrawn, withdrawing, skip}
use Rattle.study.proofs.CallLaws.{entered_size, entered_old, entered_new, entered_held, entered_row, old_or_new, skip_is, withdrawn_setting}
use Rattle.study.proofs.CallLaws.{withdrawn_distance, withdrawn_size, skip_inside, withdraws}
use Rattle.study.proofs.LadderLaws.{ladder_accepts}
use Rattle.file_format.specs.File.{decoded}
use Rattle.validity.specs.Memory.{State, short, contents_of}
use Rattle.access.specs.Calls.{Holding, fresh, held, Update, changes, reasons, verdict, changing, changed, step, answer}
use Rattle.dataset.specs.Calls.{opens_dataset, sets_minima, enters_tide, withdraws_tide}
use Rattle.study_file.specs.Calls.{reads_file}
use Rattle.merge.specs.Merge.{merged}
use Rattle.merge.specs.Calls.{merges_datasets}
use Rattle.guarantee.specs.Runs.{Offered, open_with, read_file, merge, set_minima, enter, withdraw, ask, call_of, brings_in, run, following, held_after}
use Rattle.guarantee.specs.Ledger.{Arrival, Ledger, no_arrival, named, name_of, file_ledger, empty_ledger, with_arrival, with_gone, noted, note_all}
use Rattle.guarantee.specs.Ledger.{begun, ledger_after, Exactly}
use Rattle.guarantee.proofs.Follows.{begins_with, holds, answers}
use Rattle.guarantee.proofs.Names.{stays, arrived, remaining_count, name_nth, nth_name}

-- what the calls keep: the study's tides are those that remain, and no name is gone before it is given
record Matches (S : Study) (L : Ledger) : Type 0 where
  exact : Exactly S L
  unused : (m : ℕ) → arrived L ≤ m → T (stays L m)

-- ---- a file's tides

module _ (S : Study) where
  abbrev arrival : Tide → Arrival
  arrival x = record { setting = x.setting; far = λ m. get_or x.row m 0 }

  abbrev F : Ledger
  F = file_ledger S

  file_arrived : arrived F ≡ size S
  unfolding file_ledger
  file_arrived = length-map S.tides arrival

  file_name : (t : ℕ) → t < size S → name_of F t ≡ t
  unfolding file_ledger
  file_name t l = nth_name F t t (record { below = omega (arith, file_arrived); pass = tt; rank = count_all t })

  file_named : (t : ℕ) → t < size S → named F (name_of F t) ≡ arrival (tide S t)
  unfolding named file_ledger tide no_tide no_arrival
  file_named t l = ap (λ m. get_or (map arrival S.tides) m no_arrival) (file_name t l) ∙ get_or-map arrival S.tides t no_tide

  file_matches : Matches S F
  unfolding file_ledger distance
  file_matches =
      record {
        exact = record {
          as_many = sym (remaining_count F ∙ count_all (arrived F) ∙ file_arrived);
          setting = λ t l. ap (λ (x : Arrival). x.setting) (sym (file_named t l));
          distances = λ u t k l.
              cond_yes (ltb u t) _ _ (lt→ltb u t k) ∙ sym (ap₂ (λ (x : Arrival) (m : ℕ). x.far m) (file_named t l) (file_name u (omega arith)));
        };
        unused = λ m l. tt;
      }

-- an opened study has no tides
empty_matches : (k : ℕ) → Matches (opened k) empty_ledger
unfolding empty_ledger file_ledger opened
empty_matches k = file_matches (opened k)

-- Minima leaves the tides
minima_matches : (S : Study) (L : Ledger) (M : Minima) → Matches S L → Matches (with_minima M S) L
unfolding with_minima tide distance
minima_matches S L M K =
    record { exact = record { as_many = K.exact.as_many; setting = K.exact.setting; distances = K.exact.distances }; unused = K.unused }

name_held : (S : Study) (L : Ledger) → Exactly S L → (t : ℕ) → t < size S → Nth (stays L) (arrived L) t (name_of L t)
name_held S L X t l = name_nth L t (omega (arith, X.as_many))

-- ---- a tide entered: it gets the next name, the others keep theirs

module _ (S : Study) (L : Ledger) (s : ℕ) (row : List ℕ) (K : Matches S L) where
  abbrev n : ℕ
  n = size S

  abbrev E : Study
  E = entered s row S

  abbrev A : Ledger
  A = with_arrival s row L

  entered_arrived : arrived A ≡ suc (arrived L)
  unfolding with_arrival
  entered_arrived = length-append L.arrivals (_ ∷ []) ∙ omega arith

  name_old : (t : ℕ) → t < n → name_of A t ≡ name_of L t
  unfolding with_arrival
  name_old t l =
      let N = name_held S L K.exact t l in
      nth_name A t (name_of L t) (record { below = omega (arith, entered_arrived, N.below); pass = N.pass; rank = N.rank })

  next_stays : T (stays L (arrived L))
  next_stays = K.unused (arrived L) (le_refl (arrived L))

  name_new : name_of A n ≡ arrived L
  unfolding with_arrival
  name_new =
      nth_name A n (arrived L) (record { below = omega (arith, entered_arrived); pass = next_stays; rank = sym (K.exact.as_many ∙ remaining_count L) })

  named_old : (t : ℕ) → t < n → named A (name_of A t) ≡ named L (name_of L t)
  unfolding named with_arrival
  named_old t l = ap (named A) (name_old t l) ∙ get_or-append L.arrivals (_ ∷ []) no_arrival (name_of L t) (name_held S L K.exact t l).below

  setting_new : (named A (name_of A n)).setting ≡ s
  unfolding named with_arrival
  setting_new = ap (λ (x : Arrival). x.setting) (ap (named A) name_new ∙ get_or-append_seam L.arrivals _ [] no_arrival)

  -- the row holds the distances from those that remain, in order
  far_new : (u : ℕ) → u < n → (named A (name_of A n)).far (name_of L u) ≡ get_or row u 0
  unfolding named with_arrival
  far_new u l =
      ap (λ (x : Arrival). x.far (name_of L u)) (ap (named A) name_new ∙ get_or-append_seam L.arrivals _ [] no_arrival)
      ∙ ap (λ z. get_or row z 0) (name_held S L K.exact u l).rank

  abbrev SameSetting : ℕ → Type 0
  SameSetting t = (tide E t).setting ≡ (named A (name_of A t)).setting

  same_setting : (t : ℕ) → (t < n) ⊎ (t ≡ n) → SameSetting t
  same_setting t (inl a) =
      ap (λ (x : Tide). x.setting) (entered_old s row S t a) ∙ K.exact.setting t a ∙ sym (ap (λ (x : Arrival). x.setting) (named_old t a))
  same_setting t (inr e) =
      subst SameSetting (sym e) (ap (λ (x : Tide). x.setting) (entered_new s row S) ∙ sym setting_new)

  abbrev SameDistance : ℕ → ℕ → Type 0
  SameDistance u t = distance E u t ≡ (named A (name_of A t)).far (name_of A u)

  same_distance : (u t : ℕ) → u < t → (t < n) ⊎ (t ≡ n) → SameDistance u t
  same_distance u t k (inl a) =
      let b : u < n = omega arith in
      entered_held s row S u t b a ∙ K.exact.distances u t k a ∙ sym (ap₂ (λ (x : Arrival) (m : ℕ). x.far m) (named_old t a) (name_old u b))
  same_distance u t k (inr e) =
      let b : u < n = omega arith in
      subst (SameDistance u) (sym e) (entered_row s row S u b ∙ sym (ap (named A (name_of A n)).far (name_old u b) ∙ far_new u b))

  arrival_matches : Matches E A
  unfolding with_arrival
  arrival_matches =
      record {
        exact = record {
          as_many =
              omega (
                arith,
                entered_size s row S,
                K.exact.as_many,
                remaining_count L,
                remaining_count A,
                ap (λ k. count_below k (stays L)) entered_arrived,
                count_hit (arrived L) (stays L) next_stays,
              );
          setting = λ t l. same_setting t (old_or_new s row S t l);
          distances = λ u t k l. same_distance u t k (old_or_new s row S t l);
        };
        unused = λ m l. K.unused m (omega (arith, entered_arrived));
      }

-- ---- a tide withdrawn: its name is gone, and the later tides move down by one

count_order : (q : ℕ → Bool) (a b : ℕ) → count_below a q < count_below b q → a < b
count_order q a b h = ⊎_elim (λ l. l) (λ l. absurd (omega (arith, count_front q b a l))) (split a b)

-- the two cases of `skip_is`
abbrev Skipped : ℕ → ℕ → Type 0
Skipped i u = ((u < i) × (skip i u ≡ u)) ⊎ ((i ≤ u) × (skip i u ≡ suc u))

skip_order : (i u v : ℕ) → u < v → skip i u < skip i v
skip_order i u v k = by (skip_is i u) (skip_is i v)
  where
    by : Skipped i u → Skipped i v → skip i u < skip i v
    by (inl a) (inl b) = omega (arith, a, b)
    by (inl a) (inr b) = omega (arith, a, b)
    by (inr a) (inl b) = omega (arith, a, b)
    by (inr a) (inr b) = omega (arith, a, b)

module _ (S : Study) (L : Ledger) (t : ℕ) (K : Matches S L) (inside : t - 1 < size S) where
  abbrev i : ℕ
  i = t - 1

  abbrev x : ℕ
  x = name_of L i

  abbrev W : Study
  W = withdrawn i S

  abbrev G : Ledger
  G = with_gone t L

  -- the name of the tide that goes
  leaver : Nth (stays L) (arrived L) i x
  leaver = name_held S L K.exact i inside

  gone_self : stays G x ≡ false
  unfolding with_gone
  gone_self = ap not (cond_yes (eqb x x) true (L.gone x) (eqb_refl x))

  gone_other : (m : ℕ) → (m ≡ x → ⊥) → stays G m ≡ stays L m
  unfolding with_gone
  gone_other m d = ap not (cond_no (eqb m x) true (L.gone m) (not_T (eqb m x) (λ h. d (eqb→eq m x h))))

  -- how many stay before an earlier name
  count_low : (m : ℕ) → m < x → count_below m (stays G) ≡ count_below m (stays L)
  count_low m l = count_same m (stays G) (stays L) (λ j k. gone_other j (λ e. omega arith))

  -- and before a later one
  count_high : (m : ℕ) → x < m → count_below m (stays L) ≡ count_below m (stays G) + 1
  unfolding count_below
  count_high m l =
      sum_bump m (λ j. bit (stays G j)) (λ j. bit (stays L j)) x 1 l
      (omega (arith, ap bit gone_self, ap bit (T_true (stays L x) leaver.pass))) (λ j k d. ap bit (sym (gone_other j d)))

  -- the others keep their names
  name_left : (u : ℕ) → u < size W → name_of G u ≡ name_of L (skip i u)
  unfolding with_gone
  name_left u l = nth_name G u m (by (skip_is i u))
    where
      m : ℕ
      m = name_of L (skip i u)

      N : Nth (stays L) (arrived L) (skip i u) m
      N = name_held S L K.exact (skip i u) (skip_inside i S inside u l)

      other : (m ≡ x → ⊥) → count_below m (stays G) ≡ u → Nth (stays G) (arrived G) u m
      other d e = record { below = N.below; pass = subst T (sym (gone_other m d)) N.pass; rank = e }

      by : Skipped i u → Nth (stays G) (arrived G) u m
      by (inl a) =
          let h = count_order (stays L) m x (omega (arith, N.rank, leaver.rank, a)) in
          other (λ e. omega arith) (count_low m h ∙ N.rank ∙ a.1)
      by (inr a) =
          let h = count_order (stays L) x m (omega (arith, N.rank, leaver.rank, a)) in
          other (λ e. omega arith) (omega (arith, count_high m h, N.rank, a))

  gone_matches : Matches W G
  unfolding with_gone named
  gone_matches =
      record {
        exact = record {
          as_many = omega (arith, withdrawn_size i S inside, K.exact.as_many, remaining_count L, remaining_count G, count_high (arrived L) leaver.below);
          setting = λ u l.
              withdrawn_setting i S u ∙ K.exact.setting (skip i u) (skip_inside i S inside u l) ∙ sym (ap (λ m. (named L m).setting) (name_left u l));
          distances = λ u v k l.
              withdrawn_distance i S u v ∙ K.exact.distances (skip i u) (skip i v) (skip_order i u v k) (skip_inside i S inside v l)
              ∙ sym (ap₂ (λ a b. (named L a).far b) (name_left v l) (name_left u (omega arith)));
        };
        unused = λ m l. subst T (sym (gone_other m (λ e. omega (arith, leaver.below)))) (K.unused m l);
      }

-- ---- along the calls

-- where there is a study there is a ledger, and they match
abbrev Matched : Option Holding → Option Ledger → Type 0
Matched none l = Unit {0}
Matched (some H) none = ⊥
Matched (some H) (some L) = Matches H.contents.study L

agree_settled : (v : Verdict) (a h : Option Holding) (b l : Option Ledger) → (v ≡ accepted → Matched a b) → Matched h l
    → Matched (settled v a h) (settled v b l)
agree_settled accepted a h b l f K = f refl
agree_settled (refused r) a h b l f K = K

-- a change that makes g of the ledger
agree_changing : (U : Update) (g : Ledger → Ledger)
    → ((H : Holding) (L : Ledger) → first_of (U.own H) ≡ accepted → Matches H.contents.study L → Matches (U.makes H).contents.study (g L))
    → (is_too_short : Bool) (h : Option Holding) (l : Option Ledger) → verdict is_too_short h (changes U) ≡ accepted → Matched h l
    → Matched (changed h (changes U)) (changing l g)
unfolding verdict reasons changed
agree_changing U g m is_too_short none l e K = tt
agree_changing U g m is_too_short (some H) none e K = absurd K
agree_changing U g m is_too_short (some H) (some L) e K =
    m H L (ladder_accepts is_too_short U.caller.users true (U.own H) e).reasons K

same_ledger : (l : Option Ledger) → changing l (λ L. L) ≡ l
same_ledger none = refl
same_ledger (some L) = refl

agree_changed : (is_too_short : Bool) (h : Option Holding) (l : Option Ledger) (c : Offered) → verdict is_too_short h (call_of c) ≡ accepted → Matched h l
    → Matched (changed h (call_of c)) (noted l c)
unfolding call_of opens_dataset reads_file merges_datasets sets_minima enters_tide withdraws_tide changed noted opening setting_minima entering withdrawing
agree_changed is_too_short h l (open_with k) e K = empty_matches k
agree_changed is_too_short h l (read_file file) e K = file_matches (decoded file).study
agree_changed is_too_short h l (merge a b firsts seconds) e K = file_matches (merged (contents_of a) (contents_of b) firsts seconds).study
agree_changed is_too_short h l (set_minima M) e K =
    subst (λ m. Matched (changed h (sets_minima M)) m) (same_ledger l)
    (agree_changing _ (λ L. L) (λ H L r. minima_matches H.contents.study L (understood M)) is_too_short h l e K)
agree_changed is_too_short h l (enter setting row) e K =
    agree_changing _ (with_arrival setting row) (λ H L r. arrival_matches H.contents.study L setting row) is_too_short h l e K
agree_changed is_too_short h l (withdraw u t) e K =
    agree_changing _ (with_gone t)
    (λ H L r M. let w = withdraws H.contents u t r in gone_matches H.contents.study L t M (omega (arith, w.low, w.high))) is_too_short h l e K
agree_changed is_too_short h l (ask Q) e K = K

agree_following : (is_too_short : Bool) (h : Option Holding) (l : Option Ledger) (cs : List Offered) → Matched h l
    → Matched (following is_too_short h cs) (note_all is_too_short h l cs)
unfolding following note_all step
agree_following is_too_short h l [] K = K
agree_following is_too_short h l (c ∷ cs) K =
    agree_following is_too_short (step is_too_short h (call_of c)) (settled (verdict is_too_short h (call_of c)) (noted l c) l) cs
    (agree_settled (verdict is_too_short h (call_of c)) (changed h (call_of c)) h (noted l c) l (λ e. agree_changed is_too_short h l c e K) K)

agree_begun : (h : Option Holding) → Matched h (begun h)
agree_begun none = tt
agree_begun (some H) = file_matches H.contents.study

pub exactly : (start : State) (calls : List Offered) (H : Holding) → held (run start calls) ≡ some H
    → (L : Ledger) × (ledger_after start calls ≡ some L) × Exactly H.contents.study L
unfolding held_after ledger_after
exactly start calls H e =
    from (ledger_after start calls) refl
    (subst (λ h. Matched h (ledger_after start calls)) (sym (holds start calls) ∙ e)
    (agree_following (short start) (held start) (begun (held start)) calls (agree_begun (held start))))
  where
    from : (l : Option Ledger) → ledger_after start calls ≡ l → Matched (some H) l
        → (L : Ledger) × (ledger_after start calls ≡ some L) × Exactly H.contents.study L
    from none q K = absurd K
    from (some L) q K = (L, q, K.exact)

-- ---- since the last accepted call that begins anew

module _ (is_too_short : Bool) where
  note_append : (h : Option Holding) (l : Option Ledger) (cs ds : List Offered)
      → note_all is_too_short h l (cs ++ ds) ≡ note_all is_too_short (following is_too_short h cs) (note_all is_too_short h l cs) ds
  unfolding note_all following
  note_append h l [] ds = refl
  note_append h l (c ∷ cs) ds = note_append (step is_too_short h (call_of c)) (settled (verdict is_too_short h (call_of c)) (noted l c) l) cs ds

  note_accepted : (h : Option Holding) (l : Option Ledger) (c : Offered) (cs : List Offered) → verdict is_too_short h (call_of c) ≡ accepted
      → note_all is_too_short h l (c ∷ cs) ≡ note_all is_too_short (changed h (call_of c)) (noted l c) cs
  unfolding note_all step
  note_accepted h l c cs e = ap (λ v. note_all is_too_short (settled v (changed h (call_of c)) h) (settled v (noted l c) l) cs) e

-- what a call that begins anew makes of the ledger
begins_ledger : (l : Option Ledger) (c : Offered) (C : Contents) → brings_in (call_of c) ≡ some C → noted l c ≡ some (file_ledger C.study)
unfolding call_of opens_dataset reads_file merges_datasets sets_minima enters_tide withdraws_tide noted opening opened empty_ledger file_ledger
begins_ledger l (open_with k) C e = let q : opening k ≡ C = cc in ap (λ (K : Contents). some (file_ledger K.study)) q
begins_ledger l (read_file file) C e = let q : decoded file ≡ C = cc in ap (λ (K : Contents). some (file_ledger K.study)) q
begins_ledger l (merge a b firsts seconds) C e =
    let q : merged (contents_of a) (contents_of b) firsts seconds ≡ C = cc in ap (λ (K : Contents). some (file_ledger K.study)) q
begins_ledger l (set_minima M) C e = absurd (let z : ◌≡◌ {A = ℕ} 0 1 = cc in omega arith)
begins_ledger l (enter setting row) C e = absurd (let z : ◌≡◌ {A = ℕ} 0 1 = cc in omega arith)
begins_ledger l (withdraw u t) C e = absurd (let z : ◌≡◌ {A = ℕ} 0 1 = cc in omega arith)
begins_ledger l (ask Q) C e = absurd (let z : ◌≡◌ {A = ℕ} 0 1 = cc in omega arith)

module _ (start : State) (before since : List Offered) where
  abbrev h : Option Holding
  h = held_after start before

  abbrev l : Option Ledger
  l = ledger_after start before

  -- the ledger after an accepted call and the calls since
  since_accepted : (c : Offered) → answer (run start before) (call_of c) ≡ accepted
      → ledger_after start (before ++ (c ∷ since)) ≡ note_all (short start) (changed h (call_of c)) (noted l c) since
  unfolding ledger_after held_after
  since_accepted c e =
      note_append (short start) (held start) (begun (held start)) before (c ∷ since)
      ∙ note_accepted (short start) h l c since (sym (answers start before (call_of c)) ∙ e)

  -- and after one that begins anew
  pub begun_anew : (c : Offered) (C : Contents) → brings_in (call_of c) ≡ some C → answer (run start before) (call_of c) ≡ accepted
      → ledger_after start (before ++ (c ∷ since)) ≡ note_all (short start) (some (fresh C)) (some (file_ledger C.study)) since
  begun_anew c C e a =
      since_accepted c a
      ∙ ap₂ (λ x y. note_all (short start) x y since) ((begins_with (run start before) (call_of c) C e).changed h) (begins_ledger l c C e)

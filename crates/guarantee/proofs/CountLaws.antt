-- Each count is the one it began with, and the withdrawals accepted from that user since the last stretch began. Assumes nothing.
use Prim.Native.Nat.{ℕ, ◌+◌, ◌-◌}
use native.Mathlib.Omega.{arith}
use mathlib.Core.Path.{◌≡◌, refl, sym, ap, ap₂, ◌∙◌, subst}
use mathlib.Core.Logic.{⊎_elim}
use mathlib.Core.Bool.{Bool, true, false, cond, true≢false}
use mathlib.Core.List.{List, [], ◌∷◌, ◌++◌}
use mathlib.Core.Option.{Option, none, some}
use lib.Dec.{T, eqb, eqb→eq, T_not}
use lib.ListN.{length, length-set}
use lib.Seq.{get_or-set_same, get_or-set_other}
use Rattle.lists.specs.Lists.{bit, at, all_of, filter}
use Rattle.lists.proofs.Tests.{T_true, T_false, T-left, true-T, test, eq→eqb, between-T}
use Rattle.lists.proofs.Tables.{length_tabulate}
use Rattle.study.specs.Study.{Contents}
use Rattle.study.specs.Refusals.{Verdict, accepted, refused, settled, is_user}
use Rattle.study.specs.Calls.{opening, setting_minima, entering, count_of, counted, withdrawing}
use Rattle.study.proofs.LadderLaws.{ladder_accepts}
use Rattle.file_format.specs.File.{decoded}
use Rattle.file_format.proofs.DecodedLaws.{counts_valid}
use Rattle.validity.specs.Memory.{State, short, contents_of}
use Rattle.access.specs.Calls.{Update, changes, Holding, fresh, held, reasons, verdict, changed, step, answer}
use Rattle.dataset.specs.Calls.{opens_dataset, sets_minima, enters_tide, withdraws_tide}
use Rattle.study_file.specs.Calls.{reads_file}
use Rattle.merge.specs.Merge.{added_counts, merged}
use Rattle.merge.specs.Calls.{merges_datasets}
use Rattle.guarantee.specs.Runs.{Offered, open_with, read_file, merge, set_minima, enter, withdraw, ask, call_of, brings_in, run, following, held_after}
use Rattle.guarantee.specs.Counts.{accepted_calls, Stretch, onward, stretch_after, last_stretch, is_withdrawal, withdrawals_by, count_in}
use Rattle.guarantee.proofs.Follows.{held_some, holds_valid, begins_with, holds, answers}

-- ---- one more of user v

counted_own : (ws : List ℕ) (u : ℕ) → length ws ≡ 4 → T (is_user u) → count_of (counted u ws) u ≡ count_of ws u + 1
unfolding counted
counted_own ws u four s = get_or-set_same ws (u - 1) (count_of ws u + 1) 0 (omega (arith, (between-T 1 4 u).0 s))

counted_other : (ws : List ℕ) (u v : ℕ) → T (is_user u) → T (is_user v) → (v ≡ u → ⊥) → count_of (counted v ws) u ≡ count_of ws u
unfolding counted
counted_other ws u v s t d =
    get_or-set_other ws (v - 1) (u - 1) (count_of ws v + 1) 0 (λ e. d (omega (arith, (between-T 1 4 u).0 s, (between-T 1 4 v).0 t)))

counted_by : (ws : List ℕ) (u v : ℕ) → length ws ≡ 4 → T (is_user u) → T (is_user v) → count_of (counted v ws) u ≡ count_of ws u + bit (eqb v u)
counted_by ws u v four s t =
    ⊎_elim
    (λ e. let same = eqb→eq v u e in
    subst (λ x. count_of (counted x ws) u ≡ count_of ws u + 1) (sym same) (counted_own ws u four s)
    ∙ ap (λ b. count_of ws u + bit b) (sym (T_true (eqb v u) e)))
    (λ e. counted_other ws u v s t (λ q. T_not (eqb v u) e (eq→eqb v u q)) ∙ omega (arith, ap bit (T_false (eqb v u) e)))
    (test (eqb v u))

-- ---- what an accepted call makes of the counts

-- where there are contents, they have a count for each user
abbrev Four : Option Holding → Type 0
Four none = Unit {0}
Four (some H) = length H.contents.withdrawals ≡ 4

-- a change leaves four counts, of which user u's goes up where b holds
record Changes (u : ℕ) (b : Bool) (H new : Contents) : Type 0 where
  four : length new.withdrawals ≡ 4
  count : count_of new.withdrawals u ≡ count_of H.withdrawals u + bit b

kept_counts : (u : ℕ) {H new : Contents} → new.withdrawals ≡ H.withdrawals → length H.withdrawals ≡ 4 → Changes u false H new
kept_counts u e four = record { four = ap length e ∙ four; count = let z = ap (λ ws. count_of ws u) e in omega arith }

withdraw_counts : (u : ℕ) → T (is_user u) → (v t : ℕ) (H : Contents) → length H.withdrawals ≡ 4 → all_of is_user (v ∷ []) ≡ true
    → Changes u (eqb v u) H (withdrawing v t H)
unfolding withdrawing counted
withdraw_counts u s v t H four k =
    record {
      four = length-set H.withdrawals (v - 1) (count_of H.withdrawals v + 1) ∙ four;
      count = counted_by H.withdrawals u v four s (T-left (is_user v) true (true-T (all_of is_user (v ∷ [])) k));
    }

-- what begins has them
opening_four : (k : ℕ) → length (opening k).withdrawals ≡ 4
unfolding opening
opening_four k = refl

decoded_four : (file : List ℕ) → length (decoded file).withdrawals ≡ 4
unfolding decoded
decoded_four file = (counts_valid file).four

merged_four : (A B : Contents) (firsts seconds : List ℕ) → length (merged A B firsts seconds).withdrawals ≡ 4
unfolding merged added_counts
merged_four A B firsts seconds = length_tabulate 4 (λ i. at A.withdrawals i + at B.withdrawals i)

start_four : (start : State) → Four (held start)
start_four start = by (held start) refl
  where
    by : (h : Option Holding) → held start ≡ h → Four h
    by none e = tt
    by (some H) e = (holds_valid (held_some start H e)).counts.four

-- ---- along the calls

-- the withdrawals in a list with one call more
one_more : (u : ℕ) (c : Offered) (cs : List Offered) → withdrawals_by u (cs ++ (c ∷ [])) ≡ withdrawals_by u cs + bit (is_withdrawal u c)
one_more u c [] = by (is_withdrawal u c)
  where
    by : (b : Bool) → length (let r : List Offered = [] in cond b (c ∷ r) r) ≡ 0 + bit b
    by true = refl
    by false = refl
one_more u c (d ∷ cs) = by (is_withdrawal u d) (one_more u c cs)
  where
    by : (b : Bool) → withdrawals_by u (cs ++ (c ∷ [])) ≡ withdrawals_by u cs + bit (is_withdrawal u c)
        → length (let r = filter (is_withdrawal u) (cs ++ (c ∷ [])) in cond b (d ∷ r) r)
        ≡ length (let r = filter (is_withdrawal u) cs in cond b (d ∷ r) r) + bit (is_withdrawal u c)
    by true ih = omega arith
    by false ih = ih

-- h is what the stretch has come to: user u's count is the one it began with and the withdrawals since
record Reckoned (u : ℕ) (s : Stretch) (h : Option Holding) : Type 0 where
  four : Four h
  count : count_in u h ≡ count_in u s.from + withdrawals_by u s.calls

module _ (is_too_short : Bool) (u : ℕ) (user : T (is_user u)) where
  -- an accepted change
  reckon_change : (U : Update) (c : Offered)
      → ((H : Holding) → length H.contents.withdrawals ≡ 4 → all_of is_user U.caller.users ≡ true
      → Changes u (is_withdrawal u c) H.contents (U.makes H).contents)
      → (s : Stretch) (h : Option Holding) → verdict is_too_short h (changes U) ≡ accepted → Reckoned u s h
      → Reckoned u (onward s c none) (changed h (changes U))
  unfolding verdict reasons changed
  reckon_change U c m s none e R = absurd (true≢false (sym (ladder_accepts is_too_short U.caller.users false [] e).tested))
  reckon_change U c m s (some H) e R =
      let K = m H R.four (ladder_accepts is_too_short U.caller.users true (U.own H) e).known in
      record { four = K.four; count = omega (arith, K.count, one_more u c s.calls, R.count) }

  -- an accepted call
  reckon_changed : (c : Offered) (s : Stretch) (h : Option Holding) → verdict is_too_short h (call_of c) ≡ accepted → Reckoned u s h
      → Reckoned u (onward s c (brings_in (call_of c))) (changed h (call_of c))
  unfolding call_of opens_dataset reads_file merges_datasets sets_minima enters_tide withdraws_tide changed setting_minima entering
  reckon_changed (open_with k) s h e R = record { four = opening_four k; count = omega arith }
  reckon_changed (read_file file) s h e R = record { four = decoded_four file; count = omega arith }
  reckon_changed (merge a b firsts seconds) s h e R =
      record { four = merged_four (contents_of a) (contents_of b) firsts seconds; count = omega arith }
  reckon_changed (set_minima M) s h e R = reckon_change _ (set_minima M) (λ H four k. kept_counts u refl four) s h e R
  reckon_changed (enter setting row) s h e R = reckon_change _ (enter setting row) (λ H four k. kept_counts u refl four) s h e R
  reckon_changed (withdraw v t) s h e R = reckon_change _ (withdraw v t) (λ H. withdraw_counts u user v t H.contents) s h e R
  reckon_changed (ask Q) s h e R =
      record { four = R.four; count = omega (arith, one_more u (ask Q) s.calls, R.count) }

  reckon_following : (cs : List Offered) (s : Stretch) (h : Option Holding) → Reckoned u s h
      → Reckoned u (stretch_after s (accepted_calls is_too_short h cs)) (following is_too_short h cs)
  unfolding following accepted_calls step
  reckon_following [] s h R = R
  reckon_following (c ∷ cs) s h R = by (λ next t. reckon_following cs next t) (verdict is_too_short h (call_of c)) refl
    where
      -- the rest of the calls, from anywhere
      Rest : Type 0
      Rest = (next : Stretch) (t : Option Holding) → Reckoned u next t → Reckoned u (stretch_after next (accepted_calls is_too_short t cs))
          (following is_too_short t cs)

      by : Rest → (v : Verdict) → verdict is_too_short h (call_of c) ≡ v
          → let next = settled v (changed h (call_of c)) h in
          let rest = accepted_calls is_too_short next cs in
          Reckoned u (stretch_after s (settled v (c ∷ rest) rest)) (following is_too_short next cs)
      by go accepted e = go (onward s c (brings_in (call_of c))) (changed h (call_of c)) (reckon_changed c s h e R)
      by go (refused r) e = go s h R

pub counted_after : (start : State) (calls : List Offered) (H : Holding) (u : ℕ) → held (run start calls) ≡ some H → T (is_user u)
    → let last = last_stretch start calls in count_of H.contents.withdrawals u ≡ count_in u last.from + withdrawals_by u last.calls
unfolding last_stretch held_after
counted_after start calls H u e user =
    ap (count_in u) (sym e ∙ holds start calls)
    ∙ (reckon_following (short start) u user calls (record { from = held start; calls = [] }) (held start)
    (record { four = start_four start; count = omega arith })).count

-- ---- since the last accepted call that begins anew

stretch_append : (s : Stretch) (xs ys : List Offered) → stretch_after s (xs ++ ys) ≡ stretch_after (stretch_after s xs) ys
stretch_append s [] ys = refl
stretch_append s (c ∷ xs) ys = stretch_append (onward s c (brings_in (call_of c))) xs ys

module _ (is_too_short : Bool) where
  accepted_append : (h : Option Holding) (cs ds : List Offered)
      → accepted_calls is_too_short h (cs ++ ds) ≡ accepted_calls is_too_short h cs ++ accepted_calls is_too_short (following is_too_short h cs) ds
  unfolding accepted_calls following
  accepted_append h [] ds = refl
  accepted_append h (c ∷ cs) ds =
      let next = step is_too_short h (call_of c) in
      by (verdict is_too_short h (call_of c)) (accepted_calls is_too_short next cs) (accepted_calls is_too_short (following is_too_short next cs) ds)
      (accepted_append next cs ds)
    where
      by : (v : Verdict) {xs : List Offered} (ys zs : List Offered) → xs ≡ ys ++ zs → settled v (c ∷ xs) xs ≡ settled v (c ∷ ys) ys ++ zs
      by accepted ys zs e = ap (λ l. c ∷ l) e
      by (refused r) ys zs e = e

  accepted_more : (h : Option Holding) (c : Offered) (cs : List Offered) → verdict is_too_short h (call_of c) ≡ accepted
      → accepted_calls is_too_short h (c ∷ cs) ≡ c ∷ accepted_calls is_too_short (changed h (call_of c)) cs
  unfolding accepted_calls step
  accepted_more h c cs e =
      ap (λ v. let rest = accepted_calls is_too_short (settled v (changed h (call_of c)) h) cs in settled v (c ∷ rest) rest) e

-- the stretch that an accepted call begins, which brings C in, and the calls since
pub stretch_anew : (start : State) (before since : List Offered) (c : Offered) (C : Contents) → brings_in (call_of c) ≡ some C
    → answer (run start before) (call_of c) ≡ accepted
    → last_stretch start (before ++ (c ∷ since))
    ≡ stretch_after (record { from = some (fresh C); calls = [] }) (accepted_calls (short start) (some (fresh C)) since)
unfolding last_stretch held_after
stretch_anew start before since c C brings a =
    let first : Stretch = record { from = held start; calls = [] } in
    let h = following (short start) (held start) before in
    let earlier = accepted_calls (short start) (held start) before in
    ap (stretch_after first) (accepted_append (short start) (held start) before (c ∷ since)
    ∙ ap (λ l. earlier ++ l) (accepted_more (short start) h c since (sym (answers start before (call_of c)) ∙ a)))
    ∙ stretch_append first earlier (c ∷ accepted_calls (short start) (changed h (call_of c)) since)
    ∙ ap₂ (λ b k. stretch_after (onward (stretch_after first earlier) c b) (accepted_calls (short start) k since)) brings
    ((begins_with (run start before) (call_of c) C brings).changed h)

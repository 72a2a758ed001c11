-- Turn after turn to the text's end. Assumes nothing.
use Prim.Native.Nat.{ℕ, zero, suc, ◌+◌, ◌-◌}
use native.Mathlib.Nat.{zero-add, suc-add}
use native.Mathlib.Omega.{arith}
use mathlib.Core.Path.{◌≡◌, refl, sym, ap, ◌∙◌, subst}
use mathlib.Core.List.{List}
use Rattle.std.specs.Prelude.{Option, Some, None, Result, Ok, Err}
use Rattle.study.specs.declared.Dataset.{Dataset}
use Rattle.study.specs.Study.{Contents, size}
use Rattle.study.specs.Refusals.{Verdict, accepted, refused, first_of}
use Rattle.study.specs.Calls.{open_reasons, opened, opening, minima_reasons, with_minima, setting_minima, entering}
use Rattle.study.proofs.CallLaws.{entered_size}
use Rattle.validity.specs.Memory.{State, state_of, contents_of}
use Rattle.validity.proofs.ValidityLaws.{study_size}
use Rattle.std.specs.Result.{IsErrAnd}
use Rattle.std.proofs.lemmas.Result.{err_from_is_err_and}
use Rattle.study_text.specs.declared.TextError.{TextError}
use Rattle.study_text.specs.declared.Rule.{Rule}
use Rattle.study_text.specs.declared.Rule.TheVariants as RuleCase
use Rattle.text_words.specs.declared.Cursor.{Cursor}
use Rattle.text_words.specs.declared.Word.{Word}
use Rattle.text_words.specs.declared.Word.TheVariants as WordCase
use Rattle.text_words.specs.declared.WordError.{WordError}
use Rattle.study_text.specs.declared.calls.Finished.{Finished}
use Rattle.text_words.specs.Words.{next_of}
use Rattle.study_text.specs.Packing.{Report, error_report, no_number, Got, got, stop, number_of, numbers_of, onward, called, minima_from}
use Rattle.study_text.specs.Packing.{opening_of, minima_of, head_of, tide_reasons, tide_of, Turn, going, ended, stopped, entered}
use Rattle.study_text.specs.Packing.{turn_from, turn_of, further, turns_of, text_of}
use Rattle.study_text.specs.Reached.{Held, Alive, Reaches, TurnReached, Midway, Ended, Finishes}
use Rattle.study_text.proofs.ReachedLaws.{never_err, same_ok, same_err, held_by, held_few}

-- ---- one turn

module _ {rule : Rule} {text : List ℕ} (s : State) (c : Cursor) {t : State} {d : Cursor} where
  -- where it stops, in whatever state
  stops_turn : {r : Result (Option ℕ) TextError} {x : TextError} → r ≡ Err x → turn_of rule text (contents_of s) c ≡ stopped (error_report x)
      → TurnReached rule text r t d (turn_of rule text (contents_of s) c)
  stops_turn e f =
      record {
        goes = λ q. absurd (never_err (sym q ∙ e));
        ends = λ q. absurd (never_err (sym q ∙ e));
        stops = λ q. f ∙ ap (λ x. stopped (error_report x)) (same_err (sym e ∙ q));
      }

  pub turn_stops : {r : Result (Option ℕ) TextError} {w : WordError} → IsErrAnd r (λ x. error_report x ≡ no_number w.line w.why) → Err w ≡ next_of text c
      → TurnReached rule text r t d (turn_of rule text (contents_of s) c)
  unfolding turn_of
  turn_stops {r} h e =
      let p = err_from_is_err_and r h in stops_turn p.1 (sym (ap (turn_from rule text (contents_of s)) e) ∙ ap stopped (sym p.2))

  pub turn_tide_stops : {r : Result (Option ℕ) TextError} {x : TextError} {y : ℕ} {f : Cursor} → r ≡ Err x → Ok (WordCase.Number y f) ≡ next_of text c
      → Reaches rule text (Err x) t d (tide_of rule text (contents_of s) y f) → TurnReached rule text r t d (turn_of rule text (contents_of s) c)
  unfolding turn_of
  turn_tide_stops e w R = stops_turn e (sym (ap (turn_from rule text (contents_of s)) w) ∙ ap entered (R.stops refl))

  pub turn_goes : {done : Unit} {y : ℕ} {f : Cursor} → Ok (WordCase.Number y f) ≡ next_of text c
      → Reaches rule text (Ok done) t d (tide_of rule text (contents_of s) y f) → TurnReached rule text (Ok None) t d (turn_of rule text (contents_of s) c)
  unfolding turn_of
  turn_goes w R =
      let read = R.goes refl in
      record {
        goes = λ q. (read.0, sym (ap (turn_from rule text (contents_of s)) w) ∙ ap entered read.1);
        ends = λ q. absurd (let z : ◌≡◌ {A = ℕ} 0 1 = cc in omega arith);
        stops = λ q. absurd (never_err q);
      }

same_some : {x y : ℕ} → ◌≡◌ {A = Option ℕ} (Some x) (Some y) → x ≡ y
same_some q = cc

pub turn_ends : {rule : Rule} {text : List ℕ} {s : State} {c d : Cursor} {l : ℕ} → Alive rule text s c → Ok (WordCase.End l) ≡ next_of text c
    → TurnReached rule text (Ok (Some l)) s d (turn_of rule text (contents_of s) c)
unfolding turn_of
turn_ends {rule} {text} {s} A w =
    record {
      goes = λ q. absurd (let z : ◌≡◌ {A = ℕ} 0 1 = cc in omega arith);
      ends = λ {l = m} q. (A.held, sym (ap (turn_from rule text (contents_of s)) w) ∙ ap (ended (contents_of s)) (same_some (same_ok q)));
      stops = λ q. absurd (never_err q);
    }

-- ---- each turn brings one tide

called_got : (Q : Contents → Type 0) (v : Verdict) (H : Contents) (c : Cursor) {K : Contents} {d : Cursor} → Q H → called v H c ≡ got K d → Q K
called_got Q accepted H c {K} q e = let h : H ≡ K = cc in subst Q h q
called_got Q (refused r) H c q e = absurd (let z : ◌≡◌ {A = ℕ} 0 1 = cc in omega arith)

entered_got : (g : Got Contents) {H : Contents} {c : Cursor} → entered g ≡ going H c → g ≡ got H c
entered_got (got K d) e = cc
entered_got (stop t) e = absurd (let z : ◌≡◌ {A = ℕ} 0 1 = cc in omega arith)

onward_got : {A : Type 0} (Q : Contents → Type 0) (g : Got A) (f : A → Cursor → Got Contents) {K : Contents} {d : Cursor}
    → ((x : A) (c : Cursor) → g ≡ got x c → f x c ≡ got K d → Q K) → onward g f ≡ got K d → Q K
onward_got Q (got x c) f q e = q x c refl e
onward_got Q (stop t) f q e = absurd (let z : ◌≡◌ {A = ℕ} 0 1 = cc in omega arith)

tide_size : (rule : Rule) (text : List ℕ) (H : Contents) (x : ℕ) (c : Cursor) {K : Contents} {d : Cursor} → tide_of rule text H x c ≡ got K d
    → size K.study ≡ suc (size H.study)
unfolding tide_of entering
tide_size rule text H x c =
    onward_got Q (numbers_of text (size H.study) c) (λ row e. called (first_of (tide_reasons rule H.study x row)) (entering x row H) e)
    (λ row e h. called_got Q (first_of (tide_reasons rule H.study x row)) (entering x row H) e (entered_size x row H.study))
  where
    Q : Contents → Type 0
    Q K = size K.study ≡ suc (size H.study)

turn_size : (rule : Rule) (text : List ℕ) (H : Contents) (c : Cursor) {K : Contents} {d : Cursor} → turn_of rule text H c ≡ going K d
    → size K.study ≡ suc (size H.study)
unfolding turn_of
turn_size rule text H c {K} {d} = by (next_of text c)
  where
    by : (w : Result Word WordError) → turn_from rule text H w ≡ going K d → size K.study ≡ suc (size H.study)
    by (Ok (WordCase.Number x e)) h = tide_size rule text H x e (entered_got (tide_of rule text H x e) h)
    by (Ok (WordCase.End l)) h = absurd (let z : ◌≡◌ {A = ℕ} 0 1 = cc in omega arith)
    by (Err e) h = absurd (let z : ◌≡◌ {A = ℕ} 0 1 = cc in omega arith)

abbrev Empty : Contents → Type 0
Empty K = size K.study ≡ 0

opening_empty : (text : List ℕ) (c : Cursor) {K : Contents} {d : Cursor} → opening_of text c ≡ got K d → Empty K
unfolding opening_of opening opened
opening_empty text c =
    onward_got Empty (number_of text c) (λ k d. called (first_of (open_reasons k)) (opening k) d)
    (λ k d h. called_got Empty (first_of (open_reasons k)) (opening k) d refl)

minima_empty : (text : List ℕ) (H : Contents) (c : Cursor) {K : Contents} {d : Cursor} → Empty H → minima_of text H c ≡ got K d → Empty K
unfolding minima_of setting_minima with_minima
minima_empty text H c h =
    onward_got Empty (numbers_of text (suc H.study.k) c)
    (λ xs d. called (first_of (minima_reasons H.study (minima_from xs))) (setting_minima (minima_from xs) H) d)
    (λ xs d g. called_got Empty (first_of (minima_reasons H.study (minima_from xs))) (setting_minima (minima_from xs) H) d h)

head_empty : (text : List ℕ) {K : Contents} {d : Cursor} → head_of text ≡ got K d → Empty K
unfolding head_of
head_empty text =
    onward_got Empty (opening_of text (record { at = 0; line = 1 })) (minima_of text)
    (λ H c h. minima_empty text H c (opening_empty text (record { at = 0; line = 1 }) h))

-- ---- the head

pub head_stops : (text : List ℕ) {t : Report} → opening_of text (record { at = 0; line = 1 }) ≡ stop t → head_of text ≡ stop t
unfolding head_of
head_stops text e = ap (λ (g : Got Contents). onward g (minima_of text)) e

pub head_goes : (text : List ℕ) {H : Contents} {c : Cursor} → opening_of text (record { at = 0; line = 1 }) ≡ got H c → head_of text ≡ minima_of text H c
unfolding head_of
head_goes text e = ap (λ (g : Got Contents). onward g (minima_of text)) e

-- ---- turn after turn

-- a turn after which there is none, after more of them
pub turns_over : (rule : Rule) (text : List ℕ) (t : Turn) {u : Turn} (m n : ℕ) → further u (turn_of rule text) ≡ u → turns_of rule text m t ≡ u
    → turns_of rule text (n + m) t ≡ u
unfolding turns_of
turns_over rule text t m zero still e = ap (λ k. turns_of rule text k t) (zero-add m) ∙ e
turns_over rule text t m (suc n) still e =
    ap (λ k. turns_of rule text k t) (suc-add n m) ∙ ap (λ u. further u (turn_of rule text)) (turns_over rule text t m n still e) ∙ still

contents_size : (s : State) → size (contents_of s).study ≡ s.dataset.n
unfolding contents_of
contents_size s = study_size s

-- the code's end of the text, by the turn that the text comes to
module _ {rule : Rule} {s : State} {t : Turn} where
  pub text_stopped : {r : Result ℕ TextError} {x : TextError} → r ≡ Err x → t ≡ stopped (error_report x) → Ended rule r s t
  text_stopped e f =
      record {
        ends = λ q. absurd (never_err (sym q ∙ e));
        stops = λ q. f ∙ ap (λ x. stopped (error_report x)) (same_err (sym e ∙ q));
      }

  text_ended : {l : ℕ} → Held rule s → t ≡ ended (contents_of s) l → Ended rule (Ok l) s t
  text_ended P f =
      record {
        ends = λ {l = m} q. (P, f ∙ ap (ended (contents_of s)) (same_ok q));
        stops = λ q. absurd (never_err q);
      }

module _ {rule : Rule} {text : List ℕ} {s t : State} {c d : Cursor} {r : Result (Option ℕ) TextError} (M : Midway rule text s c)
    (R : TurnReached rule text r t d (turn_of rule text (contents_of s) c)) where
  next_turn : turns_of rule text (suc s.dataset.n) (entered (head_of text)) ≡ turn_of rule text (contents_of s) c
  unfolding turns_of
  next_turn = ap (λ t. further t (turn_of rule text)) M.turns

  pub midway_size : r ≡ Ok None → t.dataset.n ≡ s.dataset.n + 1
  midway_size h = omega (arith, contents_size t, contents_size s, turn_size rule text (contents_of s) c (R.goes h).1)

  pub midway_more : r ≡ Ok None → Midway rule text t d
  midway_more h =
      let n : t.dataset.n ≡ suc s.dataset.n = omega (arith, midway_size h) in
      record {
        alive = (R.goes h).0;
        turns = ap (λ k. turns_of rule text k (entered (head_of text))) n ∙ next_turn ∙ (R.goes h).1;
      }

  -- the turn after which there is none is the text's
  last_turn : {u : Turn} → further u (turn_of rule text) ≡ u → turn_of rule text (contents_of s) c ≡ u → text_of rule text ≡ u
  unfolding text_of
  last_turn still e =
      let most : 120 - s.dataset.n + suc s.dataset.n ≡ 121 = omega (arith, held_few rule s M.alive.held) in
      sym (ap (λ k. turns_of rule text k (entered (head_of text))) most)
      ∙ turns_over rule text (entered (head_of text)) (suc s.dataset.n) (120 - s.dataset.n) still (next_turn ∙ e)

  pub midway_ends : {l : ℕ} → r ≡ Ok (Some l) → Ended rule (Ok l) t (text_of rule text)
  midway_ends h = text_ended (R.ends h).0 (last_turn refl (R.ends h).1)

  pub midway_stops : {q : Result ℕ TextError} {x : TextError} → q ≡ Err x → r ≡ Err x → Ended rule q t (text_of rule text)
  midway_stops e h = text_stopped e (last_turn refl (R.stops h))

-- ---- the whole text

module _ (rule : Rule) (text : List ℕ) where
  pub text_begins : {s : State} {c : Cursor} → Alive RuleCase.Entered text s c → head_of text ≡ got (contents_of s) c → Midway rule text s c
  unfolding turns_of
  text_begins {s} {c} A e =
      let n : 0 ≡ s.dataset.n = sym (head_empty text e) ∙ contents_size s in
      record {
        alive = record { held = held_by rule A.held; within = A.within };
        turns = ap (λ k. turns_of rule text k (entered (head_of text))) (sym n) ∙ ap entered e;
      }

  -- what stops the head stops the text
  pub text_stops : {t : Report} → head_of text ≡ stop t → text_of rule text ≡ stopped t
  unfolding text_of turns_of
  text_stops e = turns_over rule text (entered (head_of text)) 0 121 refl (ap entered e)

module _ {rule : Rule} {d g : List ℕ} {t : Turn} where
  pub finish_stops : {r : Result Finished TextError} {x : TextError} → r ≡ Err x → t ≡ stopped (error_report x) → Finishes rule r d g t
  finish_stops e f =
      record {
        ends = λ q. absurd (never_err (sym q ∙ e));
        stops = λ q. f ∙ ap (λ x. stopped (error_report x)) (same_err (sym e ∙ q));
      }

  pub finish_ends : {dataset : Dataset} {l : ℕ} → Ended rule (Ok l) (state_of dataset d g) t
      → Finishes rule (Ok (record { dataset = dataset; line = l })) d g t
  finish_ends {dataset} {l} E =
      record {
        ends = λ {f} q.
            subst (λ (f : Finished). Held rule (state_of f.dataset d g) × (t ≡ ended (contents_of (state_of f.dataset d g)) f.line)) (same_ok q) (E.ends refl);
        stops = λ q. absurd (never_err q);
      }

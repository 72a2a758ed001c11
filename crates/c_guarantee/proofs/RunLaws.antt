-- A run of the calls for C is a run of the calls, and so demand 3 holds of the Block after it. Assumes nothing.
use Prim.Native.Nat.{ℕ, ◌≤◌}
use native.Mathlib.Omega.{arith}
use mathlib.Core.Path.{◌≡◌, refl, sym, ap, ◌∙◌, subst}
use mathlib.Core.Bool.{Bool, true, false, cond, ◌||◌}
use mathlib.Core.List.{List, [], ◌∷◌, flat_map}
use lib.ListN.{length, length-append, length-drop}
use Rattle.lists.specs.Lists.{over}
use Rattle.study.specs.Refusals.{Verdict, accepted, refused, settled}
use Rattle.validity.specs.Memory.{State}
use Rattle.access.specs.Calls.{held, Inquiry, Output, first_list, Call, begins, changes, asks, told, Response, answer, output, after}
use Rattle.access.specs.Calls.{lent as lent_to}
use Rattle.access.proofs.AccessLaws.{output_is}
use Rattle.blocking.specs.Calls.{figure_numbers, makes_blocks}
use Rattle.guarantee.specs.Runs.{Offered, open_with, read_file, merge, set_minima, enter, withdraw, ask, call_of, run}
use Rattle.guarantee.specs.Theorems.{Guaranteed}
use Rattle.guarantee.proofs.Follows.{run_append}
use Rattle.guarantee.proofs.Proofs.{demand1, demand3}
use Rattle.c_records.specs.Record.{Lent, record_size, state_in}
use Rattle.c_api.specs.Api.{room_first, lacks, c_verdict, left, c_left, c_output, records_in, filled}
use Rattle.c_guarantee.specs.Runs.{CCall, c_run, calls_of}
use Rattle.c_guarantee.specs.Theorems.{AsRun, AsCall, CDemand3}
use Rattle.c_api.proofs.CallLaws.{none_short, list_short, too_short, carried}
use Rattle.c_api.proofs.CallLaws.{open_sound, minima_sound, enter_sound, withdraw_sound, read_sound, merge_sound}

-- ---- no call makes the record shorter

left_long : (l : Lent) (v : Verdict) (s : State) → length l.numbers ≤ length (left l v s).numbers
unfolding left
left_long l accepted s = simp (length-append, length-drop) (omega arith)
left_long l (refused r) s = omega arith

after_long : (l : Lent) (few : Bool) (c : Call) → length l.numbers ≤ length (c_left l few c).numbers
unfolding c_left
after_long l few (begins S) = left_long l _ _
after_long l few (changes U) = left_long l _ _
after_long l few (asks Q) = omega arith

-- ---- a call for C is the call

module _ (l : Lent) where
  asked : (Q : Inquiry) → state_in (c_left l false (asks Q)) ≡ after (state_in l) (asks Q)
  unfolding c_left
  asked Q = sym (demand1.only_reads (state_in l) Q)

  own_left : record_size ≤ length l.numbers → (c : Offered) → state_in (c_left l false (call_of c)) ≡ after (state_in l) (call_of c)
  unfolding call_of
  own_left room (open_with k) = carried l room (open_sound (state_in l) k)
  own_left room (read_file file) = carried l room (read_sound (state_in l) file)
  own_left room (merge a b firsts seconds) = carried l room (merge_sound (state_in l) a b firsts seconds)
  own_left room (set_minima M) = carried l room (minima_sound (state_in l) M)
  own_left room (enter setting row) = carried l room (enter_sound (state_in l) setting row)
  own_left room (withdraw u t) = carried l room (withdraw_sound (state_in l) u t)
  own_left room (ask Q) = asked Q

  step : record_size ≤ length l.numbers → (few : Bool) (c : Offered)
      → state_in (c_left l few (call_of c)) ≡ run (state_in l) (cond few [] (c ∷ []))
  unfolding run
  step room true c = ap state_in (too_short l true (call_of c) (list_short l.numbers refl)).1
  step room false c = own_left room c

pub as_run : AsRun
unfolding c_run run flat_map
as_run l [] room = refl
as_run l (c ∷ cs) room =
    as_run (c_left l c.few (call_of c.call)) cs (omega (arith, after_long l c.few (call_of c.call)))
    ∙ ap (λ s. run s (flat_map calls_of cs)) (step l room c.few c.call)
    ∙ sym (run_append (state_in l) (calls_of c) (flat_map calls_of cs))

run_long : (l : Lent) (cs : List CCall) → length l.numbers ≤ length (c_run l cs).numbers
unfolding c_run
run_long l [] = omega arith
run_long l (c ∷ cs) =
    omega (arith, after_long l c.few (call_of c.call), run_long (c_left l c.few (call_of c.call)) cs)

-- ---- any call after it, where its lists of fixed size are long enough

module _ (l : Lent) (room : record_size ≤ length l.numbers) (c : Call) where
  own_verdict : c_verdict l false c ≡ answer (state_in l) c
  unfolding c_verdict room_first
  own_verdict = rw (none_short l.numbers {few = false} room refl)

  own_output : c_output l false c ≡ output (state_in l) c
  unfolding c_output
  own_output = ap (λ v. settled v (told (held (state_in l)) c) (lent_to c)) own_verdict ∙ sym (output_is (state_in l) c)

module _ (l : Lent) (cs : List CCall) (room : record_size ≤ length l.numbers) where
  long : record_size ≤ length (c_run l cs).numbers
  long = omega (arith, run_long l cs)

  answers_as : (c : Call) → c_verdict (c_run l cs) false c ≡ answer (run (state_in l) (flat_map calls_of cs)) c
  answers_as c = own_verdict (c_run l cs) long c ∙ ap (λ s. answer s c) (as_run l cs room)

  writes_as : (c : Call) → c_output (c_run l cs) false c ≡ output (run (state_in l) (flat_map calls_of cs)) c
  writes_as c = own_output (c_run l cs) long c ∙ ap (λ s. output s c) (as_run l cs room)

pub as_call : AsCall
as_call l cs c room = (
  answers_as l cs room (call_of c),
  own_left (c_run l cs) (long l cs room) c ∙ ap (λ s. after s (call_of c)) (as_run l cs room),
  writes_as l cs room (call_of c),
)

-- ---- the Block after it

-- an accepted call had room
had_room : (few : Bool) (l : Lent) (c : Call) → c_verdict l few c ≡ accepted → few ≡ false
unfolding c_verdict room_first
had_room false l c e = refl
had_room true l c e = absurd (by (lacks record_size l.numbers) e)
  where
    by : (b : Bool) → room_first (b || true) (answer (state_in l) c) ≡ accepted → ⊥
    by true z = let y : ◌≡◌ {A = ℕ} 0 1 = cc in omega arith
    by false z = let y : ◌≡◌ {A = ℕ} 0 1 = cc in omega arith

pub c_demand3 : CDemand3
unfolding filled output
c_demand3 l cs p room ok =
    let block = makes_blocks p.list (records_in p) in
    let few = had_room (lacks 3 p.result) (c_run l cs) block ok in
    let s = run (state_in l) (flat_map calls_of cs) in
    let a : answer s block ≡ accepted = sym (answers_as l cs room block) ∙ ap (λ b. c_verdict (c_run l cs) b block) (sym few) ∙ ok in
    let shape = demand3.shaped (state_in l) (flat_map calls_of cs) p.list (records_in p) a in
    let F = shape.0 in
    let D = demand3.guaranteed (state_in l) (flat_map calls_of cs) p.list shape.1 (records_in p) shape.2 F shape.3 in
    let o : c_output (c_run l cs) (lacks 3 p.result) block ≡ record { numbers = figure_numbers F; lists = shape.1 ∷ []; records = shape.2 } =
    ap (λ b. c_output (c_run l cs) b block) few ∙ writes_as l cs room block ∙ ap (λ (r : Response). r.output) shape.3 in (
      D.0,
      F,
      D.1,
      ap (λ (x : Output). over x.numbers p.result) o,
      subst (Guaranteed D.0 F) (sym (ap (λ (x : Output). first_list x.lists) o)) D.2,
    )

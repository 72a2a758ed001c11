-- Fields written after fields over the front of old bytes, and that all fields of contents write their file. Assumes nothing.
use Prim.Native.Nat.{ℕ, ◌+◌, ◌-◌, ◌*◌, ◌≤◌, ◌<◌}
use native.Mathlib.Omega.{arith}
use native.Mathlib.Numerals.{add-one}
use mathlib.Core.Path.{◌≡◌, refl, sym, ap, ◌∙◌, subst}
use mathlib.Core.List.{List, [], ◌∷◌, ◌++◌, map, flat_map, map-append}
use lib.Dec.{lit≤}
use lib.ListN.{length, get_or, take, drop, length-take, length-drop}
use lib.Seq.{length-take-le, get_or-take, get_or-drop}
use Rattle.lists.specs.Lists.{tabulate, over}
use Rattle.lists.proofs.Tables.{length_tabulate, get_d_tabulate, tabulate_suc, tabulate_is}
use Rattle.lists.proofs.Members.{flat_map_append, flat_map_one}
use Rattle.study.specs.Limits.{cell}
use Rattle.study.specs.declared.Dataset.{Dataset}
use Rattle.study.specs.Study.{Contents, no_tide}
use Rattle.file_format.specs.Bits.{Field, field, bits_of, all_bits, pack, packed}
use Rattle.file_format.specs.File.{new_mark, tide_fields, fields, file_with, file_of, bit_length}
use Rattle.file_format.proofs.BitLaws.{total, length_all_bits}
use Rattle.file_format.proofs.RunLaws.{runs_total, values_total}
use Rattle.file_format.proofs.FileLaws.{bit_length_suc}
use Rattle.triangle.proofs.PairLaws.{row_in}
use Rattle.validity.specs.Memory.{State, tide_of, contents_of, study_of}
use Rattle.file_fields.proofs.Lengths.{Sum, length_sum, bit_length_up}
use Rattle.file_fields.specs.Writing.{Adds}
use Rattle.file_fields.proofs.WritingLaws.{adds_none, adds_then}
use Rattle.file_fields.specs.Putting.{Writable, TideInside, RunInside, PutFields, head_fields, file_fields}

-- ---- room

module _ {σ : State} {file : List ℕ} (W : Writable σ file) where
  sum : (t : ℕ) → t ≤ 120 → Sum 4 σ.dataset.k t
  sum t l = length_sum 4 σ.dataset.k t (lit≤ tt) W.study.k_high l

  pub head_room : (12 ≤ length file) × (σ.dataset.n ≤ 120)
  head_room = let s = sum σ.dataset.n W.study.few in (omega (arith, s.first, W.room, W.study.k_low), W.study.few)

  -- k of the minima are kept
  pub kept_minima : length (take σ.dataset.k σ.dataset.minima.b) ≡ σ.dataset.k
  kept_minima = length-take-le σ.dataset.k σ.dataset.minima.b (omega (arith, W.study.minima.eight, W.study.k_high))

  -- in what the file has become
  module _ {at : ℕ} {bs new : List ℕ} (a : Adds file at bs new) where
    pub counts_room : (n : ℕ) → n ≡ 4 → RunInside new 26 16 n
    counts_room n e = record { narrow = omega arith; inside = omega (arith, head_room.0, a.same); low = omega arith }

    pub minima_room : {p : ℕ} {cs next : List ℕ} → Adds new p cs next → (n : ℕ) → n ≡ σ.dataset.k → RunInside next 90 7 n
    minima_room b n e =
        let s = sum σ.dataset.n W.study.few in
        record { narrow = omega arith; inside = omega (arith, s.first, W.room, a.same, b.same); low = omega (arith, W.study.k_high) }

    pub tide_room : (t : ℕ) {start : ℕ} → t < σ.dataset.n → start ≡ bit_length 4 σ.dataset.k t
        → TideInside new σ.distances σ.settings start t
    tide_room t {start} l e =
        let few = W.study.few in
        let s = sum t (omega arith) in
        record {
          few = omega arith;
          long = W.long.distances;
          held = omega (arith, W.long.settings);
          set = W.study.setting_low t l;
          inside = omega (arith, bit_length_up 4 σ.dataset.k t σ.dataset.n l, W.room, a.same);
          low = omega (arith, s.most);
        }

-- ---- fields

all_bits_append : (fs gs : List Field) → all_bits (fs ++ gs) ≡ all_bits fs ++ all_bits gs
unfolding all_bits
all_bits_append fs gs = flat_map_append (λ (f : Field). bits_of f.width f.value) fs gs

pub puts_none : {s : List ℕ} {at : ℕ} → PutFields s at [] s
unfolding all_bits flat_map
puts_none = adds_none

pub puts_one : {s : List ℕ} {at : ℕ} (w v : ℕ) {t : List ℕ} → Adds s at (bits_of w v) t → PutFields s at (field w v ∷ []) t
unfolding all_bits
puts_one {s} {at} w v {t} a = subst (λ bs. Adds s at bs t) (sym (flat_map_one (λ (f : Field). bits_of f.width f.value) (field w v))) a

puts_then : {s : List ℕ} {at : ℕ} (fs : List Field) {p : ℕ} (gs : List Field) {t u : List ℕ} → PutFields s at fs t → p ≡ at + total fs
    → PutFields t p gs u → PutFields s at (fs ++ gs) u
puts_then {s} {at} fs gs {u = u} a e b =
    subst (λ bs. Adds s at bs u) (sym (all_bits_append fs gs)) (adds_then a (e ∙ ap (λ n. at + n) (sym (length_all_bits fs))) b)

-- ---- a run of one width: f 0, f 1, ..

pub run_none : {s : List ℕ} {at : ℕ} (w : ℕ) (f : ℕ → ℕ) → PutFields s at (map (field w) (tabulate 0 f)) s
unfolding tabulate
run_none w f = puts_none

pub run_more : {s : List ℕ} {at : ℕ} (w : ℕ) (f : ℕ → ℕ) (i : ℕ) {v : ℕ} {t u : List ℕ} → PutFields s at (map (field w) (tabulate i f)) t
    → v ≡ f i → PutFields t (at + w * i) (field w v ∷ []) u → PutFields s at (map (field w) (tabulate (i + 1) f)) u
run_more {s} {at} w f i {v} {t} {u} a e b =
    subst (λ fs. PutFields s at fs u) more (puts_then (map (field w) (tabulate i f)) (field w v ∷ []) a place b)
  where
    place : at + w * i ≡ at + total (map (field w) (tabulate i f))
    place = ap (λ x. at + x) (ap (λ x. w * x) (sym (length_tabulate i f)) ∙ sym (values_total w (tabulate i f)))

    more : map (field w) (tabulate i f) ++ (field w v ∷ []) ≡ map (field w) (tabulate (i + 1) f)
    more =
        ap (λ x. map (field w) (tabulate i f) ++ (field w x ∷ [])) e
        ∙ sym (map-append (field w) (tabulate i f) (f i ∷ []))
        ∙ ap (map (field w)) (sym (tabulate_suc i f) ∙ ap (λ n. tabulate n f) (sym (add-one i)))

-- of all numbers of a list
pub run_done : {s : List ℕ} {at : ℕ} (w : ℕ) (xs : List ℕ) {i : ℕ} {t : List ℕ} → length xs ≡ i
    → PutFields s at (map (field w) (tabulate i (λ j. get_or xs j 0))) t → PutFields s at (map (field w) xs) t
run_done {s} {at} w xs {i} {t} e a = subst (λ ys. PutFields s at (map (field w) ys) t) (tabulate_is i (λ j. get_or xs j 0) 0 xs e (λ j l. refl)) a

-- tide t's row as a part of the memory
row_is : (d : List ℕ) (t : ℕ) → 14400 ≤ length d → t < 120 → tabulate t (cell d t) ≡ row_in d t
row_is d t long few =
    let n : length (row_in d t) ≡ t = simp (length-take, length-drop) (omega arith) in
    tabulate_is t (cell d t) 0 (row_in d t) n (λ i l.
    let k : i < t * 120 + t - t * 120 = omega arith in
    sym (get_or-take (t * 120 + t - t * 120) (drop (t * 120) d) i 0 k ∙ get_or-drop (t * 120) d i 0))

-- ---- the tides of a dataset

module _ (σ : State) where
  -- a setting and a row
  pub tide_put : {s f : List ℕ} {p : ℕ} (t : ℕ) {v : ℕ} {u w : List ℕ} → TideInside f σ.distances σ.settings p t → v ≡ get_or σ.settings t 0
      → PutFields s p (field 3 (v - 1) ∷ []) u → PutFields u (p + 3) (map (field 20) (row_in σ.distances t)) w
      → PutFields s p (tide_fields (tide_of σ t)) w
  unfolding tide_fields tide_of
  tide_put {s} {p = p} t {v} {u} {w} T e a b =
      subst (λ x. PutFields s p (field 3 (x - 1) ∷ map (field 20) (tabulate t (cell σ.distances t))) w) e
      (puts_then (field 3 (v - 1) ∷ []) (map (field 20) (tabulate t (cell σ.distances t))) a refl
      (subst (λ xs. PutFields u (p + 3) (map (field 20) xs) w) (sym (row_is σ.distances t T.long T.few)) b))

  -- the fields of the first t tides
  abbrev up_to : ℕ → List Field
  up_to t = flat_map tide_fields (tabulate t (tide_of σ))

  tide_total : (t : ℕ) → total (tide_fields (tide_of σ t)) ≡ 3 + 20 * t
  unfolding tide_fields tide_of
  tide_total t = omega (arith, values_total 20 (tabulate t (cell σ.distances t)), length_tabulate t (cell σ.distances t))

  tides_total : (c k t : ℕ) → bit_length c k t ≡ bit_length c k 0 + total (up_to t)
  tides_total c k t =
      ap (bit_length c k) (sym (length_tabulate t (tide_of σ))) ∙ sym (runs_total tide_fields no_tide (bit_length c k) (tabulate t (tide_of σ)) (λ i l.
      let h : i < t = omega (arith, length_tabulate t (tide_of σ)) in
      bit_length_suc c k i ∙ ap (λ x. bit_length c k i + x) (sym (ap (λ y. total (tide_fields y)) (get_d_tabulate t (tide_of σ) i no_tide h) ∙ tide_total i))))

  pub tides_none : {s : List ℕ} {p : ℕ} → PutFields s p (flat_map tide_fields (tabulate 0 (tide_of σ))) s
  unfolding tabulate flat_map
  tides_none = puts_none

  pub tides_more : {s : List ℕ} (c k t : ℕ) {p : ℕ} {u w : List ℕ} → PutFields s (bit_length c k 0) (flat_map tide_fields (tabulate t (tide_of σ))) u
      → p ≡ bit_length c k t → PutFields u p (tide_fields (tide_of σ t)) w
      → PutFields s (bit_length c k 0) (flat_map tide_fields (tabulate (t + 1) (tide_of σ))) w
  tides_more {s} c k t {w = w} a e b =
      subst (λ fs. PutFields s (bit_length c k 0) fs w) more (puts_then (up_to t) (tide_fields (tide_of σ t)) a (e ∙ tides_total c k t) b)
    where
      more : up_to t ++ tide_fields (tide_of σ t) ≡ up_to (t + 1)
      more =
          ap (λ fs. up_to t ++ fs) (sym (flat_map_one tide_fields (tide_of σ t)))
          ∙ sym (flat_map_append tide_fields (tabulate t (tide_of σ)) (tide_of σ t ∷ []))
          ∙ ap (flat_map tide_fields) (sym (tabulate_suc t (tide_of σ)) ∙ ap (λ n. tabulate n (tide_of σ)) (sym (add-one t)))

-- ---- the whole file

pub head_put : (r : Dataset) {s a b c d : List ℕ} → PutFields s 0 (field 8 new_mark ∷ []) a → PutFields a 8 (field 7 r.n ∷ []) b
    → PutFields b 15 (field 4 r.k ∷ []) c → PutFields c 19 (field 7 r.minima.b0 ∷ []) d → PutFields s 0 (head_fields r) d
unfolding head_fields
head_put r p q u v =
    puts_then (field 8 new_mark ∷ field 7 r.n ∷ field 4 r.k ∷ []) (field 7 r.minima.b0 ∷ [])
    (puts_then (field 8 new_mark ∷ field 7 r.n ∷ []) (field 4 r.k ∷ [])
    (puts_then (field 8 new_mark ∷ []) (field 7 r.n ∷ []) p refl q) refl u) refl v

-- head, counts, minima and tides, one after the other
pub parts_put : {σ : State} {s t u v w : List ℕ} → Writable σ s → length σ.dataset.withdrawn ≡ 4 → PutFields s 0 (head_fields σ.dataset) t
    → PutFields t 26 (map (field 16) σ.dataset.withdrawn) u → PutFields u 90 (map (field 7) (take σ.dataset.k σ.dataset.minima.b)) v
    → PutFields v (bit_length 4 σ.dataset.k 0) (flat_map tide_fields (tabulate σ.dataset.n (tide_of σ))) w → PutFields s 0 (file_fields (contents_of σ)) w
unfolding fields contents_of study_of head_fields bit_length
parts_put {σ} {s} {w = w} W four a b c d =
    subst (λ fs. PutFields s 0 fs w) all
    (puts_then (head_fields r) (counts ++ (small ++ tides)) a refl
    (puts_then counts (small ++ tides) b minima_place (puts_then small tides c tides_place d)))
  where
    r : Dataset
    r = σ.dataset

    counts : List Field
    counts = map (field 16) σ.dataset.withdrawn

    small : List Field
    small = map (field 7) (take σ.dataset.k σ.dataset.minima.b)

    tides : List Field
    tides = flat_map tide_fields (tabulate σ.dataset.n (tide_of σ))

    minima_place : 90 ≡ 26 + total counts
    minima_place = omega (arith, values_total 16 r.withdrawn)

    tides_place : bit_length 4 r.k 0 ≡ 90 + total small
    tides_place = omega (arith, values_total 7 (take r.k r.minima.b), kept_minima W)

    all : head_fields r ++ (counts ++ (small ++ tides)) ≡ file_fields (contents_of σ)
    all = λ i. field 8 new_mark ∷ field 7 (sym (length_tabulate r.n (tide_of σ)) i) ∷ field 4 r.k ∷ field 7 r.minima.b0 ∷ (counts ++ (small ++ tides))

over_none : (s : List ℕ) → s ≡ over (packed []) s
unfolding packed pack tabulate
over_none s = refl

pub file_written : (H : Contents) {s t : List ℕ} → PutFields s 0 (file_fields H) t → t ≡ over (file_of H) s
unfolding file_of file_with
file_written H {s} a = (a.next s [] (record { is = over_none s; place = refl; bits = λ p. lit≤ tt; room = omega arith })).is

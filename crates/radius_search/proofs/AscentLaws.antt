-- The radii from one upwards as far as the centres stay, and the least with an assignment. Assumes nothing.
use Prim.Native.Nat.{ℕ, ◌+◌, ◌*◌, ◌-◌, ◌≤◌, ◌<◌}
use native.Mathlib.Omega.{arith}
use mathlib.Core.Path.{◌≡◌, refl, sym, ap, ◌∙◌, subst}
use mathlib.Core.Logic.{◌⊎◌, inl, inr, ⊎_elim}
use mathlib.Core.Bool.{Bool, true, false, not}
use mathlib.Core.List.Memᴰ
use mathlib.Core.List.{List}
use lib.Dec.{T, eqb, eqb→eq, T_not}
use lib.ListN.{length, get_or}
use Rattle.lists.specs.Lists.{◌among◌, every, TailKept}
use Rattle.lists.proofs.Tests.{split, test, every_at, not_every, not_not, eq→eqb}
use Rattle.lists.proofs.Members.{place}
use Rattle.study.specs.Limits.{cell}
use Rattle.study.specs.Problem.{Problem, centres, candidates, labels}
use Rattle.promise.specs.Promise.{Test, Assigned, Promise, AtLeast}
use Rattle.promise.proofs.Enough.{enough_tides}
use Rattle.radius_theory.specs.Arrays.{array_problem, ValidArrays}
use Rattle.radius_theory.specs.Radii.{no_radius, Empty, Lowest, Ahead, NoneTo}
use Rattle.radius_theory.proofs.Gaps.{apart_mem}
use Rattle.radius_theory.proofs.RadiiLaws.{Spread, lowest_start, lowest_next, dist_candidate, zero_candidate, candidate_is, candidate_small, stays}
use Rattle.radius_search.specs.Inputs.{Room}
use Rattle.radius_search.specs.Front.{Front, CentresAt}
use Rattle.radius_search.proofs.FrontLaws.{front_at, front_below}
use Rattle.radius_search.specs.Next.{Next, InPairs, InAll, FirstFrom}
use Rattle.radius_search.specs.Table.{Table}
use Rattle.radius_search.proofs.AssigningLaws.{numbered, assigning_by, assigns_by, allowed_by, assigns}
use Rattle.radius_search.specs.Bounds.{Bounded}
use Rattle.radius_search.specs.Ascents.{Steady, Some, RadiusTried, Bisected, Ascent, Least}

-- room stays while lengths do
pub room_on : {n : ℕ} {allowed allowed' list list' : List ℕ} → Room n allowed list → length allowed' ≡ length allowed → TailKept n list list'
    → Room n allowed' list'
room_on R e k = record { allowed_long = omega (arith, R.allowed_long); list_long = omega (arith, R.list_long, k.same_length) }

-- ---- bisection

-- none from start up to low, and one at high
pub record Bracketed (d : List ℕ) (n : ℕ) (E : Test) (start limit low high : ℕ) : Type 0 where
  pub up : start ≤ low
  pub order : low ≤ high
  pub most : high < limit
  pub none : NoneTo (array_problem d n E) start low
  pub here : Some (array_problem d n E) high

pub bracket_start : {d : List ℕ} {n : ℕ} {E : Test} {start limit : ℕ} → start < limit → Some (array_problem d n E) (limit - 1)
    → Bracketed d n E start limit start (limit - 1)
bracket_start l B = record { up = omega arith; order = omega arith; most = omega arith; none = λ h up low. absurd (omega arith); here = B }

pub bracket_yes : {d : List ℕ} {n : ℕ} {E : Test} {start limit low mid high : ℕ} → low ≤ mid → mid < high → Bracketed d n E start limit low high
    → Some (array_problem d n E) mid → Bracketed d n E start limit low mid
bracket_yes l k B A = record { up = B.up; order = l; most = omega (arith, B.most); none = B.none; here = A }

pub bracket_end : {d : List ℕ} {n : ℕ} {E : Test} {start limit low high : ℕ} → high ≤ low → Bracketed d n E start limit low high
    → Bisected d n E start limit low
bracket_end {d} {n} {E} l B =
    record {
      up = B.up;
      most = omega (arith, B.most);
      none = B.none;
      here = subst (Some (array_problem d n E)) (omega (arith, B.order)) B.here;
    }

module _ {d : List ℕ} {n : ℕ} {E : Test} (Q : ValidArrays d n E) where
  abbrev P : Problem
  P = array_problem d n E

  module _ {count : ℕ} {cs : List ℕ} where
    listed : {g : ℕ} → CentresAt d n g count cs → Front cs count (centres P g)
    unfolding centres array_problem
    listed C = C.front

    -- ---- how far the centres stay

    module _ {g : ℕ} (C : CentresAt d n g count cs) where
      -- the place of a centre in the table
      record PlacedCentre (c : ℕ) : Type 0 where
        index : ℕ
        inside : index < count
        is : get_or cs index 0 ≡ c
        tide : c < n

      placed : (c : ℕ) → c among centres P g → PlacedCentre c
      placed c m =
          let p = place 0 (centres P g) m in
          let l : p.0 < count = omega (arith, p.1, (listed C).long) in
          let e : get_or cs p.0 0 ≡ c = front_at (listed C) p.0 l ∙ p.2 in
          record { index = p.0; inside = l; is = e; tide = subst (λ z. z < n) e (front_below C p.0 l) }

      -- r is at most the distance of any two centres
      spread : {r : ℕ} → Next (InPairs d cs count count) g no_radius r → Spread Q g r
      spread {r} N c t m k l = by (split p.index q.index) (split q.index p.index)
        where
          p : PlacedCentre c
          p = placed c m

          q : PlacedCentre t
          q = placed t k

          far : g < P.dist c t
          far = apart_mem P g Q.lawful.symmetric.both_ways c t m k l

          by : (p.index < q.index) ⊎ (q.index ≤ p.index) → (q.index < p.index) ⊎ (p.index ≤ q.index) → r ≤ P.dist c t
          by (inl a) b =
              let e : P.dist c t ≡ cell d (get_or cs p.index 0) (get_or cs q.index 0) = Q.dist c t p.tide q.tide ∙ rw (p.is, q.is) in
              N.least (P.dist c t) (p.index, p.inside, (q.index, a, q.inside, e)) far
          by (inr a) (inl b) =
              let e : P.dist c t ≡ cell d (get_or cs q.index 0) (get_or cs p.index 0) =
              Q.lawful.symmetric.both_ways c t ∙ Q.dist t c q.tide p.tide ∙ rw (p.is, q.is) in
              N.least (P.dist c t) (q.index, q.inside, (p.index, b, p.inside, e)) far
          by (inr a) (inr b) =
              let e : p.index ≡ q.index = omega arith in
              let f : c ≡ t = sym p.is ∙ ap (λ z. get_or cs z 0) e ∙ q.is in
              absurd (omega arith)

      pub steady : {limit : ℕ} → Next (InPairs d cs count count) g no_radius limit → Steady d n g limit count cs
      unfolding centres array_problem
      steady {limit} N =
          record {
            stay = λ h up low. record { front = subst (Front cs count) (sym (stays Q g h limit up low (spread N))) C.front };
          }

      pub pairs_ahead : {limit : ℕ} → Next (InPairs d cs count count) g no_radius limit → Ahead P limit
      pairs_ahead N =
          ⊎_elim (λ e. inl e)
          (λ q. let v = q.0 in
          let w = v.2 in
          inr (Memᴰ.cast w.3
          (dist_candidate Q (get_or cs v.0 0) (get_or cs w.0 0) (front_below C v.0 v.1) (front_below C w.0 w.2))))
          N.is

    -- more blocks than the tides allow
    none_many : {g limit : ℕ} (b : ℕ) → AtLeast n b E → Steady d n g limit count cs → n < count * b → NoneTo P g limit
    none_many b least S many h up low xs B =
        let May : ℕ → ℕ → Type 0 = λ t m. t ≡ t in
        let asg = assigning_by Q h count cs (listed (S.stay h up low)) May (λ t m tl ml l. refl) xs B in
        omega (arith, enough_tides n count b E May (λ t. labels xs t - 1) least asg)

    pub many_lowest : {g limit b : ℕ} → 0 < n → AtLeast n b E → Lowest P g → CentresAt d n g count cs → Next (InPairs d cs count count) g no_radius limit
        → n < count * b → Lowest P limit
    many_lowest {g} {limit} {b} pos least L C N many =
        lowest_next Q pos g limit L (none_many b least (steady C N) many) (pairs_ahead C N)

    -- ---- one radius

    pub tried : {g : ℕ} {old allowed list list₀ : List ℕ} {r : Bool} → CentresAt d n g count cs → Table d cs g count n old allowed
        → Promise n count E allowed list₀ list r → RadiusTried d n E cs count g old allowed list r
    tried {g} {allowed = allowed} C A R =
        record {
          table = A;
          found = R.found;
          none = λ e xs B. R.none e (λ t. labels xs t - 1) (allowed_by Q g count cs (listed C) allowed A.here xs B);
        }

    pub tried_some : {g : ℕ} {old allowed list : List ℕ} {r : Bool} → CentresAt d n g count cs → RadiusTried d n E cs count g old allowed list r
        → r ≡ true → Some P g
    tried_some {g} {allowed = allowed} {list = list} C A e = (
      numbered n (labels list),
      assigns Q g count cs (listed C) allowed A.table.here (labels list) (A.found e),
    )

    -- ---- while the centres stay, existence is monotone

    module _ {start limit : ℕ} (S : Steady d n start limit count cs) where
      near : (h : ℕ) → start ≤ h → h < limit → Front cs count (centres P h)
      near h up low = listed (S.stay h up low)

      abbrev Within : ℕ → ℕ → ℕ → Type 0
      Within h t m = cell d (get_or cs m 0) t ≤ h

      -- from one radius to another, where every tide that is near enough for the one is so for the other
      moved : (g h : ℕ) → start ≤ g → g < limit → start ≤ h → h < limit → ((t m : ℕ) → t < n → m < count → Within g t m → Within h t m)
          → Some P g → Some P h
      moved g h a b c e w B = (
        numbered n (λ t. labels B.0 t - 1),
        assigns_by Q h count cs (near h c e) (Within h) (λ t m tl ml l. l) (λ t. labels B.0 t - 1)
            (assigning_by Q g count cs (near g a b) (Within h) w B.0 B.1),
      )

      pub none_below : {mid : ℕ} → start ≤ mid → mid < limit → Empty P mid → NoneTo P start (mid + 1)
      none_below {mid} a b none h up low xs B =
          let r = moved h mid up (omega arith) a b (λ t m tl ml l. omega arith) (xs, B) in
          none r.0 r.1

      pub bracket_no : {low mid high : ℕ} → low ≤ mid → mid < high → Bracketed d n E start limit low high → Empty P mid
          → Bracketed d n E start limit (mid + 1) high
      bracket_no l k B none =
          record {
            up = omega (arith, B.up);
            order = omega arith;
            most = B.most;
            none = none_below (omega (arith, B.up)) (omega (arith, B.most)) none;
            here = B.here;
          }

      -- the least radius with an assignment is a candidate: else no tide is farther at the one before
      module _ {r : ℕ} (L : Bisected d n E start limit r) where
        -- tide t is not at r from centre m
        elsewhere : ℕ → ℕ → Bool
        elsewhere m t = not (eqb (cell d (get_or cs m 0) t) r)

        nearer : (x : ℕ) → x ≤ r → T (not (eqb x r)) → x ≤ r - 1
        nearer x l u = ⊎_elim (λ k. omega arith) (λ k. absurd (T_not (eqb x r) u (eq→eqb x r (omega arith)))) (split x r)

        -- no tide of any centre is at r
        abbrev none_at : Bool
        none_at = every count (λ m. every n (elsewhere m))

        by : start < r → T none_at ⊎ T (not none_at) → r among candidates P
        unfolding elsewhere
        by l (inl u) =
            let apart : (t m : ℕ) → t < n → m < count → T (elsewhere m t) =
            λ t m tl ml. every_at n (elsewhere m) (every_at count (λ m. every n (elsewhere m)) u m ml) t tl in
            let w = moved r (r - 1) L.up L.most (omega arith) (omega (arith, L.most))
            (λ t m tl ml k. nearer (cell d (get_or cs m 0) t) k (apart t m tl ml)) L.here in
            absurd (L.none (r - 1) (omega arith) (omega arith) w.0 w.1)
        by l (inr u) =
            let p = not_every count (λ m. every n (elsewhere m)) u in
            let q = not_every n (elsewhere p.0) p.2 in
            let x = cell d (get_or cs p.0 0) q.0 in
            Memᴰ.cast (sym (eqb→eq x r (not_not (eqb x r) q.2)))
            (dist_candidate Q (get_or cs p.0 0) q.0 (front_below (S.stay r L.up L.most) p.0 p.1) q.1)

        pub least_candidate : start among candidates P → r among candidates P
        least_candidate first =
            ⊎_elim (λ l. by l (test none_at)) (λ l. Memᴰ.cast (omega (arith, L.up)) first) (split start r)

-- ---- the radii up to limit

module _ {d : List ℕ} {n : ℕ} {E : Test} (Q : ValidArrays d n E) (pos : 0 < n) {cs : List ℕ} {count start limit : ℕ}
    (S : Steady d n start limit count cs) (L : Lowest (array_problem d n E) start) where
  -- none up to limit
  pub ascent_none : {lent old allowed list : List ℕ} {r : Bool} → start < limit → Ahead (array_problem d n E) limit
      → RadiusTried d n E cs count (limit - 1) old allowed list r → r ≡ false → length old ≡ length lent
      → Ascent d n E cs count start limit limit lent allowed list
  ascent_none low end A e q =
      record {
        up = omega arith;
        most = omega arith;
        same_length = A.table.same_length ∙ q;
        lowest = lowest_next Q pos start limit L
            (λ h up l. none_below Q S (omega arith) (omega arith) (A.none e) h up (omega arith)) end;
        table = λ h. absurd (omega arith);
        found = λ h. absurd (omega arith);
      }

  -- the least
  pub ascent_found : {g : ℕ} {lent old allowed list : List ℕ} {r : Bool} → Bisected d n E start limit g → RadiusTried d n E cs count g old allowed list r
      → length old ≡ length lent → Ascent d n E cs count start limit g lent allowed list
  ascent_found {g} {allowed = allowed} {list = list} {r = r} B A q =
      record {
        up = B.up;
        most = omega (arith, B.most);
        same_length = A.table.same_length ∙ q;
        lowest = lowest_next Q pos start g L B.none (inr (least_candidate Q S B L.held));
        table = λ _. record { same_length = A.table.same_length ∙ q; here = A.table.here };
        found = λ _. by r refl;
      }
    where
      by : (b : Bool) → r ≡ b → Assigned n count E allowed (labels list)
      by true e = A.found e
      by false e = absurd (A.none e B.here.0 B.here.1)

-- ---- the least radius

module _ {d : List ℕ} {n : ℕ} {E : Test} (Q : ValidArrays d n E) (pos : 0 < n) where
  -- a candidate is a distance, or 0
  pub lowest_small : {g : ℕ} → Lowest (array_problem d n E) g → g < no_radius
  lowest_small {g} L = omega (arith, candidate_small Q g L.held)

  -- the least candidate from the lower bound on
  pub first_lowest : {low r : ℕ} → Bounded d n E low → FirstFrom d n low r → Lowest (array_problem d n E) r
  first_lowest {low} {r} B F =
      lowest_start Q pos low r (B.none Q)
      (λ h m k. F.least h (⊎_elim (λ e. inl e) (λ q. inr (q.0, q.2, (q.1, q.3, q.4))) (candidate_is Q h m)) k)
      (⊎_elim (λ e. inl e) (λ q. inr (⊎_elim (λ e. Memᴰ.cast e (zero_candidate Q)) distance q)) F.is)
    where
      distance : InAll d n r → r among candidates (array_problem d n E)
      distance w = Memᴰ.cast w.2.2 (dist_candidate Q w.0 w.2.0 w.1 w.2.1)

-- the table is long as the one that was lent
pub least_found : {d : List ℕ} {n : ℕ} {E : Test} {g limit count r : ℕ} {cs lent old allowed list : List ℕ}
    → Steady d n g limit count cs → length old ≡ length lent → Ascent d n E cs count g limit r old allowed list → r < limit
    → Least d n E r count cs lent allowed list
least_found {r = r} S q A l =
    record {
      centres = S.stay r A.up l;
      table = record { same_length = A.same_length ∙ q; here = (A.table l).here };
      found = A.found l;
      lowest = A.lowest;
    }

-- A read in place: the filled front of a list grows by what was read after it.
use Rattle.std.proofs.Common.{◌≡◌, ℕ, ◌+◌, ◌≤◌, List, ◌++◌, IfOk, length, take, drop, sym, ap, subst, ◌∙◌, arith, Option, None, Some, Ok, Err, Result}
use Rattle.std.proofs.lemmas.List.{append_assoc, take-append-drop, take-append-le, drop-take}
use Rattle.std.proofs.Math.Seq.{drop-append_seam, take-take}
use Rattle.std.specs.Io.{ReadsAtMost}
use Rattle.std.specs.Io.KnownBytes.{Consumes, ReadConsumes}

pub Consumes-trans : (a b c : Option (List ℕ)) (bs cs : List ℕ) → Consumes a b bs → Consumes b c cs → Consumes a c (bs ++ cs)
Consumes-trans None b c bs cs p q = tt
Consumes-trans (Some x) None c bs cs p q = absurd p
Consumes-trans (Some x) (Some y) None bs cs p q = absurd q
Consumes-trans (Some x) (Some y) (Some z) bs cs p q = p ∙ ap (λ l. bs ++ l) q ∙ sym (append_assoc bs cs z)

-- what was read into the part stands after the front
pub Consumes-in_place : {E : Type 0} (a b : Option (List ℕ)) (r : Result ℕ E) (front part rest : List ℕ) (at : ℕ) → length front ≡ at → ReadsAtMost r part
    → ReadConsumes a b r part → IfOk r (λ n. Consumes a b (take n (drop at (front ++ (part ++ rest)))))
Consumes-in_place a b (Ok n) front part rest at long fits read =
    let after : drop at (front ++ (part ++ rest)) ≡ part ++ rest = ap (λ k. drop k (front ++ (part ++ rest))) (sym long) ∙ drop-append_seam front
    (part ++ rest) in
    subst (Consumes a b) (sym (ap (take n) after ∙ take-append-le n part rest fits.0)) read.0
Consumes-in_place a b (Err e) front part rest at long fits read = tt

-- the front was read before, and n bytes after it now
pub Consumes-further : (a b c : Option (List ℕ)) (xs ys : List ℕ) (f n : ℕ) → f ≤ length ys → take f ys ≡ take f xs
    → Consumes a b (take f xs) → Consumes b c (take n (drop f ys)) → Consumes a c (take (f + n) ys)
Consumes-further a b c xs ys f n within front before read =
    let first : take f (take (f + n) ys) ≡ take f xs = take-take f (f + n) ys (omega arith) ∙ front in
    let whole : take f xs ++ take n (drop f ys) ≡ take (f + n) ys =
    ap (λ l. l ++ take n (drop f ys)) (sym first) ∙ ap (λ l. take f (take (f + n) ys) ++ l) (sym (drop-take f n ys)) ∙ take-append-drop f (take (f + n) ys) in
    subst (Consumes a c) whole (Consumes-trans a b c _ _ before read)

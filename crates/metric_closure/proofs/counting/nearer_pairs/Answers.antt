-- `nearer_pairs` meets its contract: the pairs whose later tide is passed. Assumes nothing.
use Prim.Native.Nat.{◌+◌, ◌-◌, ◌*◌}
use native.Mathlib.Omega.{arith}
use mathlib.Core.Path.{refl, sym, ap, ◌∙◌, subst}
use lib.ListN.{take, drop}
use Rattle.metric_closure.specs.Tables.{Fits}
use Rattle.metric_closure.proofs.TableLaws.{pairs_none, pairs_more, pairs_done, row_counted}
use Rattle.metric_closure.proofs.counting.nearer_pairs.Goals as goal

pub loop-i-init : goal.loop-i-init
loop-i-init c = pairs_none _ _ _

pub loop-i-preserved : goal.loop-i-preserved
loop-i-preserved c =
    let same = sym c.requires in
    let i = c.loop-i.i in
    let places = c.args.old.now.places.now in
    let before = c.before-in-loop-i-2.ensures ∙ ap (λ n. take (i * n + i - i * n) (drop (i * n) places)) same in
    let fits = subst (λ n. Fits n places) same c.args.old.now.fits in
    let counted =
    row_counted _ _ _ _ c.args.new.now.fits fits c.loop-i-test.true _ _ refl refl c.before-in-loop-i.ensures before c.nearer_places-total.ensures.value in
    pairs_more _ _ _ c.loop-i.invariant (omega arith) counted

pub returns : goal.returns
returns c = pairs_done _ _ _ (omega arith) c.loop-i.invariant

-- Every tide below t that the slot can hold is seen, and none of those seen here is free. Assumes nothing.
use mathlib.Core.Path.{◌∙◌}
use native.Mathlib.Omega.{arith}
use Rattle.matching.proofs.Turns.{scan_skip, scan_room, scan_push}
use Rattle.matching.proofs.paths.Paths.scan.Goals as goal
use Rattle.matching.proofs.paths.Paths.scan.Goals.{then-wants+else-h-graph, else-wants}

pub push-requires-clause-tail_lt_max_tides : goal.push-requires-clause-tail_lt_max_tides
push-requires-clause-tail_lt_max_tides c =
    let p = c.requires in
    let z = c.args.graph.now.sized in
    let taken = c.if-wants.true in
    let w = c.wants.ensures in
    let r = scan_room z.few_slots z.few_tides p.paired p.s_lt_slots.0 c.loop-t.invariant c.loop-t-test.true (w.new taken) (w.edge taken) c.if-h-graph.false in
    omega (arith, z.few_slots)

pub loop-t-preserved : goal.loop-t-preserved
loop-t-preserved c =
    let p = c.requires in
    let z = c.args.graph.now.sized in
    let sl = p.s_lt_slots.0 in
    let e = c.wants.ensures in
    let i = c.loop-t.invariant in
    let tl = c.loop-t-test.true in
    elim c.if-wants.branch [
      | then-wants+else-h-graph w ↦
          let is = w.self-is in
          let push = w.push.ensures in
          scan_push z.few_slots z.few_tides p.paired sl i tl (e.new w.if-wants.true) (e.edge w.if-wants.true) w.if-h-graph.false
          ((λ k. (is k).from) ∙ push.from_after) ((λ k. (is k).rank) ∙ push.rank_after) ((λ k. (is k).queue) ∙ push.queue_after)
          ((λ k. (is k).tail) ∙ push.tail_after)
      | else-wants w ↦
          let is = w.self-is in
          scan_skip z.few_slots z.few_tides p.paired sl i (e.not w.if-wants.false) (λ k. (is k).from) (λ k. (is k).rank) (λ k. (is k).queue)
          (λ k. (is k).tail)
    ]

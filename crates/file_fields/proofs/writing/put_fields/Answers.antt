-- `put_fields` meets its contract: head, counts, minima and tides, one after the other.
use Prim.Native.Nat.{◌≤◌}
use native.Mathlib.Omega.{arith}
use mathlib.Core.Path.{◌≡◌, sym, ◌∙◌}
use lib.Seq.{ext_get_or, length-take-le}
use lib.ListN.{length}
use borrow.Author.Rules.{rules}
use Rattle.file_fields.proofs.PuttingLaws.{head_room, counts_room, minima_room, parts_put}
use Rattle.file_fields.proofs.writing.put_fields.Goals as goal

pub put_head-requires : goal.put_head-requires
put_head-requires c = head_room c.requires

pub put_run-requires : goal.put_run-requires
put_run-requires c = counts_room c.requires c.put_head.ensures _ c.map-counts.ensures.items.long

pub put_run-requires-2 : goal.put_run-requires-2
put_run-requires-2 c =
    let eight : c.args.view.dataset.k ≤ length c.map-numbers.result = omega (arith, c.map-numbers.ensures.items.long, c.requires.study.k_high) in
    minima_room c.requires c.put_head.ensures c.put_run.ensures _ (rw c.from-k.ensures (length-take-le c.args.view.dataset.k c.map-numbers.result eight))

-- the numbers written are those of the record, one by one
pub returns : goal.returns
returns c =
    let four : length c.args.view.dataset.withdrawn ≡ 4 = search rules in
    let eight : length c.args.view.dataset.minima.b ≡ 8 = search rules in
    let counts : c.map-counts.result ≡ c.args.view.dataset.withdrawn =
    ext_get_or 0 _ _ (c.map-counts.ensures.items.long ∙ sym four) (λ i l.
    let called = c.map-counts.ensures.items.at i 0 0 (omega (arith, c.map-counts.ensures.items.long)) in search rules) in
    let minima : c.map-numbers.result ≡ c.args.view.dataset.minima.b =
    ext_get_or 0 _ _ (c.map-numbers.ensures.items.long ∙ sym eight) (λ i l.
    let called = c.map-numbers.ensures.items.at i 0 0 (omega (arith, c.map-numbers.ensures.items.long)) in search rules) in
    parts_put c.requires four c.put_head.ensures (rw counts at c.put_run.ensures) (rw (minima, c.from-k.ensures) at c.put_run-2.ensures)
    c.put_tides.ensures

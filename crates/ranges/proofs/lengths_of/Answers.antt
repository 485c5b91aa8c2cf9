use Rattle.std.proofs.Common.{ℕ, ◌≡◌, ◌<◌, ap, ◌∙◌, arith}
use Rattle.reader.specs.Store.{loops_in}
use Rattle.lists.proofs.BelowLaws.{indices_in}
use Rattle.ranges.specs.Code.{range_of}
use Rattle.ranges.specs.Listed.{few-loops, block-asks, part-asks, lengths-in}
use Rattle.ranges.proofs.Laws.{summed-next}
use Rattle.ranges.proofs.lengths_of.Goals as goal

pub block-blk-requires : goal.block-blk-requires
block-blk-requires c = block-asks c.args.a.now c.args.store.now c.requires.0 c.args.b c.requires.1

pub range_at-f-requires : goal.range_at-f-requires
range_at-f-requires c =
    part-asks c.args.a.now c.args.store.now c.requires.0 c.args.b c.loop-k.k _ c.requires.1 (omega arith) c.block-blk.ensures

pub range_at-p-requires : goal.range_at-p-requires
range_at-p-requires c =
    part-asks c.args.a.now c.args.store.now c.requires.0 c.args.b c.loop-k.k _ c.requires.1 (omega arith) c.block-blk.ensures

pub overflow_add-fused : goal.overflow_add-fused
overflow_add-fused c =
    let st = c.args.store.now in
    let l = c.loop-k in
    let i : l.k < loops_in st = omega arith in
    let n = summed-next c.args.a.now st c.requires.0 0 c.args.b l.k l.fused _ c.range_at-f.result i l.invariant.0 (rw c.block-blk.ensures at c.range_at-f.ensures) c.length-fused.ensures in
    omega (arith, few-loops c.args.a.now st c.requires.0)

pub overflow_add-peeled : goal.overflow_add-peeled
overflow_add-peeled c =
    let st = c.args.store.now in
    let l = c.loop-k in
    let i : l.k < loops_in st = omega arith in
    let n = summed-next c.args.a.now st c.requires.0 1 c.args.b l.k l.peeled _ c.range_at-p.result i l.invariant.1 (rw c.block-blk.ensures at c.range_at-p.ensures) c.length-peeled.ensures in
    omega (arith, few-loops c.args.a.now st c.requires.0)

pub loop-k-preserved : goal.loop-k-preserved
loop-k-preserved c =
    let st = c.args.store.now in
    let l = c.loop-k in
    let i : l.k < loops_in st = omega arith in (
      summed-next c.args.a.now st c.requires.0 0 c.args.b l.k l.fused _ c.range_at-f.result i l.invariant.0 (rw c.block-blk.ensures at c.range_at-f.ensures) c.length-fused.ensures,
      summed-next c.args.a.now st c.requires.0 1 c.args.b l.k l.peeled _ c.range_at-p.result i l.invariant.1 (rw c.block-blk.ensures at c.range_at-p.ensures) c.length-peeled.ensures,
    )

pub returns-clause-measures : goal.returns-clause-measures
returns-clause-measures c =
    let a = c.args in
    let st = a.store.now in
    let h = c.requires.0 in
    let e : c.loop-k.k ≡ loops_in st = omega arith in record {
      fused-is = c.loop-k.invariant.0.sum_is ∙ ap (λ (n : ℕ). indices_in n (range_of 0 a.a.now st a.b)) e ∙ lengths-in a.a.now st h 0 a.b;
      peeled-is = c.loop-k.invariant.1.sum_is ∙ ap (λ (n : ℕ). indices_in n (range_of 1 a.a.now st a.b)) e ∙ lengths-in a.a.now st h 1 a.b;
    }

use Rattle.std.proofs.Common.{ℕ, ◌≡◌, ◌<◌, refl, ap, ◌∙◌, arith}
use Rattle.reader.specs.Store.{loops_in}
use Rattle.blocks.specs.declared.Range.{Range}
use Rattle.blocks.specs.Sums.{column}
use Rattle.lists.proofs.BelowLaws.{indices_in}
use Rattle.ranges.specs.Code.{range_of}
use Rattle.ranges.specs.Listed.{few-loops, block-asks, part-asks, range_small, lengths-in}
use Rattle.ranges.proofs.Laws.{filled_next}
use Rattle.ranges.proofs.put_list.Goals as goal

pub block-blk-requires : goal.block-blk-requires
block-blk-requires c = block-asks c.args.a.now c.args.store.now c.requires.0 c.args.b c.requires.1

pub range_at-r-requires : goal.range_at-r-requires
range_at-r-requires c =
    part-asks c.args.a.now c.args.store.now c.requires.0 c.args.b c.loop-k.k _ c.requires.1 (omega arith) c.block-blk.ensures

pub loop-k-preserved : goal.loop-k-preserved
loop-k-preserved c =
    let a = c.args in
    let h = c.requires.0 in
    let l = c.loop-k in
    let st = a.store.now in
    let i : l.k < 16 = omega (arith, few-loops a.a.now st h) in
    let e = rw (c.block-blk.ensures, c.part_in-part.ensures) at c.range_at-r.ensures in
    let w = range_small a.a.now st h a.phase a.b l.k (omega arith) in
    let f = ap (λ (r : Range). r.from) e in
    let g = ap (λ (r : Range). r.past) e in
    filled_next l.ranges _ l.k (range_of a.phase a.a.now st a.b) (column a.a.now.shifts) l.sum l.invariant i _ _ _ c.length.result
    c.put.ensures f g refl c.length.ensures (omega (arith, c.length.ensures, f, g))

pub returns-clause-value : goal.returns-clause-value
returns-clause-value c =
    let a = c.args in
    let st = a.store.now in
    let h = c.requires.0 in
    let f = c.loop-k.invariant in
    let e : c.loop-k.k ≡ loops_in st = omega arith in (
      f.sum_is ∙ ap (λ (n : ℕ). indices_in n (range_of a.phase a.a.now st a.b)) e ∙ lengths-in a.a.now st h a.phase a.b,
      omega (arith, few-loops a.a.now st h),
    )

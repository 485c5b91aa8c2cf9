use native.Mathlib.Omega.{arith}
use lib.Seq.{get_or-set_same}
use Rattle.reader.proofs.Turns.{start, turn-refused, turn-tail, turn-ended, passed-room, further, passed-places, turn-passed}
use Rattle.reader.proofs.read_table.Goals as goal

pub loop-r-init : goal.loop-r-init
loop-r-init c =
    let a = c.args in
    start a.s.now _ c.blank-t.result c.blank-t.ensures
    (get_or-set_same a.store.now.starts 0 0 0 (omega (arith, a.store.now.sized.starts_sized)))

pub returns-in-Refused : goal.returns-in-Refused
returns-in-Refused c =
    let l = c.loop-r in
    let s = c.args.s.now in
    turn-refused s l.store l.t l.at l.rows l.invariant c.read_record-found.result c.read_record-found.ensures
    c.in-Refused.r c.in-Refused.is

pub keep-rows-requires : goal.keep-rows-requires
keep-rows-requires c =
    let l = c.loop-r in
    let s = c.args.s.now in record {
      room = passed-room s l.store l.t l.at l.rows l.invariant c.read_record-found.result c.read_record-found.ensures c.in-Passed.x
          c.in-Passed.n c.in-Passed.is;
      places = passed-places s l.store l.t l.at l.rows l.invariant c.read_record-found.result c.read_record-found.ensures
          c.in-Passed.x c.in-Passed.n c.in-Passed.is;
    }

pub advance-t-requires : goal.advance-t-requires
advance-t-requires c =
    let l = c.loop-r in
    let s = c.args.s.now in
    passed-room s l.store l.t l.at l.rows l.invariant c.read_record-found.result c.read_record-found.ensures c.in-Passed.x
    c.in-Passed.n c.in-Passed.is

pub loop-r-smaller : goal.loop-r-smaller
loop-r-smaller c =
    let l = c.loop-r in
    let s = c.args.s.now in
    omega (arith, further s l.store l.t l.at l.rows l.invariant c.read_record-found.result c.read_record-found.ensures c.in-Passed.x c.in-Passed.n c.in-Passed.is)

pub loop-r-preserved : goal.loop-r-preserved
loop-r-preserved c =
    let l = c.loop-r in
    let s = c.args.s.now in
    turn-passed s l.store l.t l.at l.rows l.invariant c.read_record-found.result c.read_record-found.ensures c.in-Passed.x
    c.in-Passed.n c.in-Passed.is _ _ _ c.keep-rows.ensures.store_after c.advance-t.ensures
    c.keep-rows.ensures.value

pub returns-then-n-s : goal.returns-then-n-s
returns-then-n-s c =
    let l = c.loop-r in
    let s = c.args.s.now in
    rw c.met.ensures
    (turn-tail s l.store l.t l.at l.rows l.invariant c.read_record-found.result c.read_record-found.ensures c.in-Ended.n
    c.in-Ended.is c.if-n-s.true)

pub returns-in-Ended : goal.returns-in-Ended
returns-in-Ended c =
    let l = c.loop-r in
    let s = c.args.s.now in
    let x = c.read_record-found in
    (turn-ended s l.store l.t l.at l.rows l.invariant x.result x.ensures c.in-Ended.n _ c.in-Ended.is
    c.if-n-s.false c.put_counts.ensures)

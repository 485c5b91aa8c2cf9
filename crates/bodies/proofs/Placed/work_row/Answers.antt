use mathlib.Core.Path.{◌≡◌}
use Rattle.reader.specs.Store.{kind_at}
use Rattle.bodies.proofs.Work.{constants, read-asks, read-works, constant-asks, constant-works, operation-asks, operation-works}
use Rattle.bodies.proofs.Placed.work_row.Goals as goal

pub element-requires : goal.element-requires
element-requires c =
    let a = c.args in
    let p = c.requires in
    let z = read-asks a.self.now.bases.now a.i a.memory.now a.self.now.store.now a.row a.vs.now a.n p.ready c.if-is_reference.ensures c.if-is_destination.ensures in
    (p.row_bound.1, rw (c.value_at-value.ensures, c.array_at-array.ensures) z.1)

pub push-requires : goal.push-requires
push-requires c =
    let a = c.args in
    let p = c.requires in
    let z = read-asks a.self.now.bases.now a.i a.memory.now a.self.now.store.now a.row a.vs.now a.n p.ready c.if-is_reference.ensures c.if-is_destination.ensures in
    (z.0, p.row_bound.2)

pub returns-then-is_reference : goal.returns-then-is_reference
returns-then-is_reference c =
    let a = c.args in
    read-works a.self.now.bases.now a.i a.memory.now a.self.now.store.now a.row a.vs.now a.n c.requires.ready c.if-is_reference.ensures c.if-is_destination.ensures
    c.element.result c.push.new.vs c.push.result (rw (c.value_at-value.ensures, c.array_at-array.ensures) at c.element.ensures) c.push.ensures

pub apply-requires : goal.apply-requires
apply-requires c =
    let a = c.args in
    let p = c.requires in
    let z = operation-asks a.self.now.bases.now a.i a.memory.now a.self.now.store.now a.row a.vs.now a.n p.ready c.in-Operation.ensures in
    rw c.value_at-value.ensures (z.0, z.1, p.row_bound.2)

pub returns-in-Operation : goal.returns-in-Operation
returns-in-Operation c =
    let a = c.args in
    operation-works a.self.now.bases.now a.i a.memory.now a.self.now.store.now a.row a.vs.now a.n c.requires.ready c.in-Operation.ensures
    c.apply.new.vs c.apply.result (rw c.value_at-value.ensures at c.apply.ensures)

pub push-requires-in_default : goal.push-requires-in_default
push-requires-in_default c =
    let a = c.args in
    let p = c.requires in
    let kind : kind_at a.self.now.store.now a.row ≡ 2 = constants _ c.if-is_reference.ensures (rw c.kind_at.ensures at c.in_default.not-Operation) in
    (constant-asks a.self.now.bases.now a.i a.memory.now a.self.now.store.now a.row a.vs.now a.n p.ready kind, p.row_bound.2)

pub returns-in_default : goal.returns-in_default
returns-in_default c =
    let a = c.args in
    let kind : kind_at a.self.now.store.now a.row ≡ 2 = constants _ c.if-is_reference.ensures (rw c.kind_at.ensures at c.in_default.not-Operation) in
    constant-works a.self.now.bases.now a.i a.memory.now a.self.now.store.now a.row a.vs.now a.n c.requires.ready kind c.constant.result
    c.push-in_default.new.vs c.push-in_default.result (rw c.value_at-value.ensures at c.constant.ensures) c.push-in_default.ensures

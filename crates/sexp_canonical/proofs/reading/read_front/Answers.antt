use Rattle.std.proofs.Common.{◌+◌, inr, arith, sym, subst, get_or}
use Rattle.sexp_canonical.{specs.Adding.lists_of, proofs.Steps.{not_digit_low, not_digit_high}}
use Rattle.sexp_canonical.proofs.Open.{IsOpenAt, room_left, list_opened, new_list, list_closed, atom_finished, item_added, whole_read, deep_at, bad_end_at, bad_byte_at, short_at, lists_len, none_open}
use Rattle.sexp_canonical.proofs.reading.read_front.Goals.{in_default-via-then-this-lt48, in_default-via-else-this-lt48+else-this-lt58}
use Rattle.sexp_canonical.proofs.reading.read_front.Goals as goal

pub returns-then-len-eq-MAX_DEPTH-clause-fault : goal.returns-then-len-eq-MAX_DEPTH-clause-fault
returns-then-len-eq-MAX_DEPTH-clause-fault c =
    inr (deep_at c.args.text.now c.loop-place.place (lists_of c.loop-place.lists.items) c.loop-place.invariant c.loop-place-test.true c.in-40.is (omega (arith, lists_len c.loop-place.lists)))

pub loop-place-preserved-in-40 : goal.loop-place-preserved-in-40
loop-place-preserved-in-40 c =
    let old = lists_of c.loop-place.lists.items in
    let room = room_left c.args.text.now c.loop-place.place old c.loop-place.invariant (λ full. let open_now = c.if-len-eq-MAX_DEPTH.false in omega (arith, lists_len c.loop-place.lists)) in
    subst (IsOpenAt c.args.text.now (c.loop-place.place + 1)) (sym (new_list c.loop-place.lists.items c.push.new.self.items c.new.result c.in_ok-push-in-40.ensures.items c.new.ensures.items))
    (list_opened c.args.text.now c.loop-place.place old c.loop-place.invariant c.loop-place-test.true c.in-40.is room)

pub returns-in_default-pop-clause-fault : goal.returns-in_default-pop-clause-fault
returns-in_default-pop-clause-fault c =
    inr (bad_end_at c.args.text.now c.loop-place.place (lists_of c.loop-place.lists.items) c.loop-place.invariant c.loop-place-test.true c.in-41.is
    (none_open c.loop-place.lists c.in_default-pop.ensures.cases.0))

pub returns-in-Some-2-clause-found : goal.returns-in-Some-2-clause-found
returns-in-Some-2-clause-found c =
    let closed = list_closed c.args.text.now c.loop-place.place c.loop-place.lists.items c.pop.new.self.items c.in-Some.items c.list.result c.loop-place.invariant c.loop-place-test.true c.in-41.is c.in-Some.ensures.items c.list.ensures in
    whole_read c.args.text.now (c.loop-place.place + 1) c.pop.new.self.items c.list.result c.in-Some-2.tree closed (rw c.in-Some-2.is at c.in_ok-tree-in-41.ensures)

pub loop-place-preserved-in_default-2 : goal.loop-place-preserved-in_default-2
loop-place-preserved-in_default-2 c =
    let closed = list_closed c.args.text.now c.loop-place.place c.loop-place.lists.items c.pop.new.self.items c.in-Some.items c.list.result c.loop-place.invariant c.loop-place-test.true c.in-41.is c.in-Some.ensures.items c.list.ensures in
    item_added c.args.text.now (c.loop-place.place + 1) c.pop.new.self.items c.add.new.lists.items c.list.result closed (rw c.in_default-2.is at c.in_ok-tree-in-41.ensures)

pub returns-in-Some-3-clause-found : goal.returns-in-Some-3-clause-found
returns-in-Some-3-clause-found c =
    let end = c.in_ok-atom-in-48-to-57.end in
    let atom = c.in_ok-atom-in-48-to-57.atom in
    let done = atom_finished c.args.text.now c.loop-place.place end (lists_of c.loop-place.lists.items) atom c.loop-place.invariant c.in_ok-atom-in-48-to-57.ensures.found in
    whole_read c.args.text.now end c.loop-place.lists.items atom c.in-Some-3.tree done (rw c.in-Some-3.is at c.in_ok-tree-in-48-to-57.ensures)

pub loop-place-preserved : goal.loop-place-preserved
loop-place-preserved c =
    let end = c.in_ok-atom-in-48-to-57.end in
    let atom = c.in_ok-atom-in-48-to-57.atom in
    let done = atom_finished c.args.text.now c.loop-place.place end (lists_of c.loop-place.lists.items) atom c.loop-place.invariant c.in_ok-atom-in-48-to-57.ensures.found in
    item_added c.args.text.now end c.loop-place.lists.items c.add-in-48-to-57.new.lists.items atom done (rw c.in_default-3.is at c.in_ok-tree-in-48-to-57.ensures)

pub returns-in_default-clause-fault : goal.returns-in_default-clause-fault
returns-in_default-clause-fault c =
    let byte = get_or c.args.text.now c.loop-place.place 0 in
    let bad = bad_byte_at c.args.text.now c.loop-place.place (lists_of c.loop-place.lists.items) c.loop-place.invariant c.loop-place-test.true in
    inr (elim c.in_default.branch [
      | in_default-via-then-this-lt48 w ↦ bad (not_digit_low byte (omega arith)) (λ same. omega arith) (λ same. omega arith)
      | in_default-via-else-this-lt48+else-this-lt58 w ↦ bad (not_digit_high byte (omega arith)) (λ same. omega arith) (λ same. omega arith)
    ])

pub returns-clause-fault : goal.returns-clause-fault
returns-clause-fault c = inr (short_at c.args.text.now c.loop-place.place (lists_of c.loop-place.lists.items) c.loop-place.invariant c.loop-place-test.false)

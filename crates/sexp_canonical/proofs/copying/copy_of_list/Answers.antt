use Rattle.std.proofs.{Common.{refl, arith, ap, sym, ◌∙◌}, lemmas.List.nil_from_length}
use Rattle.sexp_canonical.{specs.declared.tree.Sexp.TheVariants.{Atom, List as Listed}, proofs.Copied.{nothing_left, list_ended, list_ended_steps, atom_copied, atom_copied_steps, list_begun, list_begun_steps}}
use Rattle.sexp_canonical.proofs.copying.copy_of_list.Goals as goal

pub loop-item-init : goal.loop-item-init
loop-item-init c = rw (c.new-outer.ensures.items, c.new-copied.ensures.items) refl

pub returns-in_default-pop : goal.returns-in_default-pop
returns-in_default-pop c =
    let o = c.loop-item.outer.ok in
    let empty = c.in_default-pop.ensures.cases.0 in
    nothing_left c.loop-item.outer.items c.loop-item.copied.items c.loop-item.left.now c.args.items.now c.list-tree.result c.loop-item.invariant
    (nil_from_length c.loop-item.outer.items (omega arith)) (nil_from_length c.loop-item.left.now c.in_default.ensures.cases) c.list-tree.ensures

pub loop-item-smaller-in_default : goal.loop-item-smaller-in_default
loop-item-smaller-in_default c = list_ended_steps c.loop-item.outer.items c.pop.new.self.items c.in-Some-pop.around c.loop-item.left.now c.in-Some-pop.ensures.items

pub loop-item-preserved-in_default : goal.loop-item-preserved-in_default
loop-item-preserved-in_default c =
    list_ended c.loop-item.outer.items c.pop.new.self.items c.in-Some-pop.around c.loop-item.copied.items c.loop-item.left.now c.args.items.now c.push.new.self.items c.list-tree.result
    c.loop-item.invariant c.in-Some-pop.ensures.items (nil_from_length c.loop-item.left.now c.in_default.ensures.cases) c.list-tree.ensures c.in_ok-push.ensures.items

pub loop-item-smaller-in_ok-push-in-Atom : goal.loop-item-smaller-in_ok-push-in-Atom
loop-item-smaller-in_ok-push-in-Atom c =
    atom_copied_steps c.loop-item.left.now c.in-Some.others.now c.in-Some.item.now c.in-Atom.bytes c.loop-item.outer.items c.in-Some.ensures.cases.0 c.in-Atom.is

pub loop-item-preserved-in_ok-push-in-Atom : goal.loop-item-preserved-in_ok-push-in-Atom
loop-item-preserved-in_ok-push-in-Atom c =
    atom_copied c.loop-item.outer.items c.loop-item.copied.items c.loop-item.left.now c.in-Some.others.now c.args.items.now c.push-in-Atom.new.self.items c.in-Some.item.now c.in_ok-atom-in-Atom.field-0
    c.loop-item.invariant c.in-Some.ensures.cases.0 (c.in_ok-atom-in-Atom.ensures ∙ ap Atom c.as_slice.ensures ∙ sym c.in-Atom.is) c.in_ok-push-in-Atom.ensures.items

pub loop-item-smaller : goal.loop-item-smaller
loop-item-smaller c =
    list_begun_steps c.loop-item.outer.items c.push-in-List.new.self.items (record { copied = c.loop-item.copied; left = c.in-Some.others }) c.loop-item.left.now c.in-Some.others.now c.as_slice-left.result.now c.in-Some.item.now
    c.in-Some.ensures.cases.0 (c.in-List.is ∙ ap Listed (sym c.as_slice-left.ensures)) refl c.in_ok-push-in-List.ensures.items

pub loop-item-preserved : goal.loop-item-preserved
loop-item-preserved c =
    rw c.new-copied-in-List.ensures.items
    (list_begun c.loop-item.outer.items c.push-in-List.new.self.items (record { copied = c.loop-item.copied; left = c.in-Some.others })
    c.loop-item.copied.items c.loop-item.left.now c.in-Some.others.now c.as_slice-left.result.now c.args.items.now c.in-Some.item.now
    c.loop-item.invariant c.in-Some.ensures.cases.0 (c.in-List.is ∙ ap Listed (sym c.as_slice-left.ensures)) refl refl c.in_ok-push-in-List.ensures.items)

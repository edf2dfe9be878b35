use Rattle.std.proofs.Common.{arith, ◌∙◌, length, get_or, sym, ap}
use Rattle.leaf_store.proofs.Fronts.{front_last, front_behind, front_renamed}
use Rattle.leaf_store.proofs.Listing.{still_listed, out_last, out_behind, out_renamed}
use Rattle.leaf_store.proofs.place_order.take_listed.Goals as goal

pub index_of-there-requires : goal.index_of-there-requires
index_of-there-requires g c =
    let order = c.args.order.now.items in
    rw (c.deref.ensures.value) (rw (c.remove.ensures.items) (still_listed order c.requires.places c.args.place c.args.at c.requires.listed (sym c.requires.there) c.args.last (λ e. absurd (let lt = c.if-place-last.true in omega (arith, lt, e))) (omega (arith, c.if-last-count.false, c.len-count.ensures))))

pub returns-then-last-count-clause-places : goal.returns-then-last-count-clause-places
returns-then-last-count-clause-places g c =
    rw c.push_reserved.ensures.items (rw c.remove.ensures.items (out_behind c.args.order.now.items c.requires.places c.args.place c.args.at c.requires.listed (sym c.requires.there)))

pub returns-then-last-count-clause-front : goal.returns-then-last-count-clause-front
returns-then-last-count-clause-front g c = λ front less d has is.
    let last = c.requires.last in
    rw c.push_reserved.ensures.items (rw c.remove.ensures.items (front_behind c.args.rows.now c.args.order.now.items c.requires.places (omega (arith, last, c.requires.few)) front has c.args.place (omega (arith, last, c.requires.in_range)) d c.args.at c.requires.listed (sym c.requires.there) less is (omega (arith, last, c.if-last-count.true, c.len-count.ensures))))

pub returns-then-place-last-clause-places : goal.returns-then-place-last-clause-places
returns-then-place-last-clause-places g c =
    let order = c.args.order.now.items in
    let rest = c.deref.ensures.value ∙ c.remove.ensures.items in
    let few = c.requires.few in
    rw c.remove.ensures.items (out_renamed order c.requires.places c.args.place c.args.at c.requires.listed (sym c.requires.there) c.args.last c.index_of-there.result
    (omega (arith, few, c.if-last-count.false, c.len-count.ensures)) (omega (arith, c.index_of-there.ensures.in_range, ap length rest)) (sym (ap (λ xs. get_or xs c.index_of-there.result c.args.last) (sym rest) ∙ c.index_of-there.ensures.there)))

pub returns-then-place-last-clause-front : goal.returns-then-place-last-clause-front
returns-then-place-last-clause-front g c = λ front less d has is.
    let order = c.args.order.now.items in
    let rest = c.deref.ensures.value ∙ c.remove.ensures.items in
    let few = c.requires.few in
    let last = c.requires.last in
    rw c.remove.ensures.items (front_renamed c.args.rows.now order c.requires.places (omega (arith, last, few)) front has c.args.place (omega (arith, last, c.requires.in_range)) d c.args.at c.requires.listed (sym c.requires.there) less is c.args.last c.index_of-there.result
    (omega (arith, few, c.if-last-count.false, c.len-count.ensures)) last c.if-place-last.true (omega (arith, c.index_of-there.ensures.in_range, ap length rest)) (sym (ap (λ xs. get_or xs c.index_of-there.result c.args.last) (sym rest) ∙ c.index_of-there.ensures.there)))

pub returns-else-place-last-clause-places : goal.returns-else-place-last-clause-places
returns-else-place-last-clause-places g c =
    let same = c.if-place-last.false in
    let within = c.requires.in_range in
    let few = c.requires.few in
    rw c.remove.ensures.items (out_last c.args.order.now.items c.requires.places c.args.place c.args.at c.requires.listed (sym c.requires.there) (omega (arith, same, within, few, c.if-last-count.false, c.len-count.ensures)))

pub returns-else-place-last-clause-front : goal.returns-else-place-last-clause-front
returns-else-place-last-clause-front g c = λ front less d has is.
    let same = c.if-place-last.false in
    let within = c.requires.in_range in
    let few = c.requires.few in
    let last = c.requires.last in
    rw c.remove.ensures.items (front_last c.args.rows.now c.args.order.now.items c.requires.places (omega (arith, last, few)) front has c.args.place (omega (arith, last, within)) d c.args.at c.requires.listed (sym c.requires.there) less is (omega (arith, same, within, few, c.if-last-count.false, c.len-count.ensures)) (omega (arith, same, within, last)))

use Rattle.std.proofs.Common.{ℕ, List, Some, sym, ◌∙◌, subst}
use Rattle.prefix_search.specs.Search.{IsFollowed}
use Rattle.prefix_search.proofs.Tables.{at_leaf}
use Rattle.prefix_search.proofs.leaves.at_leaf.Goals as goal

pub leaf-row-requires : goal.leaf-row-requires
leaf-row-requires g c =
    let l = c.requires.leaf c.requires.table.0 c.requires.table.1 in
    (at_leaf _ _ _ _ l.0 c.requires.table.1 l.1).live

pub returns-then-row-eq0-clause-next : goal.returns-then-row-eq0-clause-next
returns-then-row-eq0-clause-next g c = λ A s.
    let l = c.requires.leaf A s in
    (at_leaf _ _ A _ l.0 s l.1).last (sym c.leaf-row.ensures.next ∙ c.if-row-eq0.true)

pub leaf-next-requires : goal.leaf-next-requires
leaf-next-requires g c =
    let l = c.requires.leaf c.requires.table.0 c.requires.table.1 in
    rw (c.leaf-row.ensures.shape, c.leaf-row.ensures.words, c.leaf-row.ensures.next)
    ((at_leaf _ _ _ _ l.0 c.requires.table.1 l.1).next_live (λ z. c.if-row-eq0.false (c.leaf-row.ensures.next ∙ z)))

pub returns-clause-next : goal.returns-clause-next
returns-clause-next g c = λ A s.
    let l = c.requires.leaf A s in
    let a = rw (c.leaf-row.ensures.shape, c.leaf-row.ensures.words, c.leaf-row.ensures.next) at c.leaf-next.ensures.anchor in
    subst (λ (x : List ℕ). IsFollowed A c.args.leaf (Some x)) (sym a) ((at_leaf _ _ A _ l.0 s l.1).next (λ z. c.if-row-eq0.false (c.leaf-row.ensures.next ∙ z)))

pub returns-clause-stays : goal.returns-clause-stays
returns-clause-stays g c = g.met.R.Rows.stays_trans _ _ _ c.leaf-row.ensures.stays c.leaf-next.ensures.stays
